use Rattle.ms_top.proofs.Explaining.{explains_shadow}
use Rattle.ms_top.proofs.laws.law_faithful_passes_explain.Goals as goal

pub returns : goal.returns
returns g c = λ under file inputs o m a faithful alone fair answers. explains_shadow g.P.Pass.gives under file inputs o m a faithful alone fair answers
