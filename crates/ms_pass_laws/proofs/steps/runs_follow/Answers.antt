use Rattle.ms_pass_laws.proofs.Step.{clean_runs_agree}
use Rattle.ms_pass_laws.proofs.steps.runs_follow.Goals as goal

pub returns : goal.returns
returns c = λ s numbers m known. clean_runs_agree s numbers m known
