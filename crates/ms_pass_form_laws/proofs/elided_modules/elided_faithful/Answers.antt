use Rattle.ms_pass_form_laws.proofs.Elided.{faithful}
use Rattle.ms_pass_form_laws.proofs.elided_modules.elided_faithful.Goals as goal

pub returns : goal.returns
returns c = λ m clean formed valid can. faithful m formed valid can clean
