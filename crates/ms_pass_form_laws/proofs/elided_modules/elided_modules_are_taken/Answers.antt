use Rattle.ms_pass_form_laws.proofs.Elided.{known, taken}
use Rattle.ms_pass_form_laws.proofs.elided_modules.elided_modules_are_taken.Goals as goal

pub returns-clause-known : goal.returns-clause-known
returns-clause-known c = λ m clean formed valid can. known m formed valid can clean

pub returns-clause-taken : goal.returns-clause-taken
returns-clause-taken c = λ m clean formed valid can. taken m formed valid can clean
