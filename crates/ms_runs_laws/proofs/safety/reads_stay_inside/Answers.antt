use Rattle.ms_runs_laws.proofs.ReadsInside.{act_same}
use Rattle.ms_runs_laws.proofs.safety.reads_stay_inside.Goals as goal

pub returns : goal.returns
returns c = λ setting here op words world bytes alike. act_same world bytes alike setting here op words
