use Rattle.ms_pass_tasks.proofs.Phis.{jump_matches, jump_rest}
use Rattle.ms_pass_tasks.proofs.jumps.law_phis_take_masks.Goals as goal

pub returns-clause-masks : goal.returns-clause-masks
returns-clause-masks c = λ given s env size one values names m ranged from. jump_matches given s env size one values names m ranged from

pub returns-clause-left : goal.returns-clause-left
returns-clause-left c = jump_rest
