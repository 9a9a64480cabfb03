use Rattle.ms_pass_form_laws.proofs.Elided.{good_numbers, formed_valid}
use Rattle.ms_pass_form_laws.proofs.elided_modules.elided_is_valid.Goals as goal

pub returns-clause-numbers : goal.returns-clause-numbers
returns-clause-numbers c = λ m clean can. good_numbers m can clean

pub returns-clause-formed : goal.returns-clause-formed
returns-clause-formed c = λ m clean formed valid can. (formed_valid m formed valid can clean).0

pub returns-clause-valid : goal.returns-clause-valid
returns-clause-valid c = λ m clean formed valid can. (formed_valid m formed valid can clean).1
