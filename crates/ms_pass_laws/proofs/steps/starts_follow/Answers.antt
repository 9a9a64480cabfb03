use Rattle.ms_pass_laws.proofs.Whole.{starts}
use Rattle.ms_pass_laws.proofs.steps.starts_follow.Goals as goal

pub returns : goal.returns
returns c = starts
