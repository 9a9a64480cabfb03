use Rattle.ms_pass_form_laws.proofs.CheckCount.{checks_counted}
use Rattle.ms_pass_form_laws.proofs.checks.checks_left.Goals as goal

pub returns : goal.returns
returns c = checks_counted
