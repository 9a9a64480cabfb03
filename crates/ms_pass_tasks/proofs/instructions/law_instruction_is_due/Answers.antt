use Rattle.ms_pass_tasks.proofs.Before.{before_law}
use Rattle.ms_pass_tasks.proofs.instructions.law_instruction_is_due.Goals as goal

pub returns : goal.returns
returns c = before_law
