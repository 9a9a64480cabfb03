use Rattle.ms_runs_good_laws.proofs.Sound.{plain_stops, plain_sited, shadow_stops, shadow_sited}
use Rattle.ms_runs_good_laws.proofs.runs.runs_reach_sites.Goals as goal

pub returns-clause-plain_steps : goal.returns-clause-plain_steps
returns-clause-plain_steps c = plain_stops

pub returns-clause-shadow_steps : goal.returns-clause-shadow_steps
returns-clause-shadow_steps c = shadow_stops

pub returns-clause-plain_ends : goal.returns-clause-plain_ends
returns-clause-plain_ends c = plain_sited

pub returns-clause-shadow_ends : goal.returns-clause-shadow_ends
returns-clause-shadow_ends c = shadow_sited
