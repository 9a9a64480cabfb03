use Rattle.ms_pass_laws.proofs.Taken.{module_known, module_taken}
use Rattle.ms_pass_laws.proofs.faithful.modules_are_taken.Goals as goal

pub returns-clause-known : goal.returns-clause-known
returns-clause-known c = module_known

pub returns-clause-taken : goal.returns-clause-taken
returns-clause-taken c = module_taken
