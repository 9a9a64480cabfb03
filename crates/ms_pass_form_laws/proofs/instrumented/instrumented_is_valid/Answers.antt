use Rattle.ms_pass_form_laws.proofs.FormedMain.{instrumented_formed_valid, numbered_formed_valid}
use Rattle.ms_pass_form_laws.proofs.instrumented.instrumented_is_valid.Goals as goal

pub returns-clause-formed : goal.returns-clause-formed
returns-clause-formed c = λ numbers m formed valid can good. (instrumented_formed_valid numbers m formed valid can good).0

pub returns-clause-valid : goal.returns-clause-valid
returns-clause-valid c = λ numbers m formed valid can good. (instrumented_formed_valid numbers m formed valid can good).1

pub returns-clause-numbered : goal.returns-clause-numbered
returns-clause-numbered c = numbered_formed_valid
