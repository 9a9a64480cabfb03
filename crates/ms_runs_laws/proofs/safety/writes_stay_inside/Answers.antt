use Rattle.ms_runs_laws.proofs.Inside.{act_stays}
use Rattle.ms_runs_laws.proofs.safety.writes_stay_inside.Goals as goal

pub returns : goal.returns
returns c = act_stays
