use Rattle.ms_pass_laws.proofs.Whole.{pass_strips, strip_pass}
use Rattle.ms_pass_laws.proofs.Unmarked.{module_strips}
use Rattle.ms_pass_laws.proofs.faithful.instrumented_strips.Goals as goal

pub returns-clause-stripped : goal.returns-clause-stripped
returns-clause-stripped c = pass_strips

pub returns-clause-uninstrumented : goal.returns-clause-uninstrumented
returns-clause-uninstrumented c = λ numbers m can. strip_pass numbers m (module_strips m can)
