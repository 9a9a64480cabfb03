use Rattle.ms_pass_form_laws.proofs.Elided.{calls_same}
use Rattle.ms_pass_form_laws.proofs.elided_modules.elided_calls.Goals as goal

pub returns : goal.returns
returns c = λ m j formed valid can elided. calls_same m formed valid can j elided
