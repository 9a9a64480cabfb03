use Rattle.ms_pass_form_laws.proofs.Bounded.{bounded}
use Rattle.ms_pass_form_laws.proofs.elided_modules.elided_is_bounded.Goals as goal

pub returns : goal.returns
returns c = bounded
