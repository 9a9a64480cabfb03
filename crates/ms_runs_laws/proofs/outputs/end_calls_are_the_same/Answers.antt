use Rattle.ms_runs_laws.proofs.EndCalls.{end_calls_alike}
use Rattle.ms_runs_laws.proofs.outputs.end_calls_are_the_same.Goals as goal

pub returns : goal.returns
returns c = end_calls_alike
