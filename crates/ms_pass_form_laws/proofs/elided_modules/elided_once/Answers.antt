use Rattle.ms_pass_form_laws.proofs.ElidedOnce.{elided_once}
use Rattle.ms_pass_form_laws.proofs.elided_modules.elided_once.Goals as goal

pub returns : goal.returns
returns c = elided_once
