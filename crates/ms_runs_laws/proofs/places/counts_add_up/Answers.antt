use Rattle.ms_runs_laws.proofs.BlindPlaces.{all_counted, site_counted, each_once}
use Rattle.ms_runs_laws.proofs.places.counts_add_up.Goals as goal

pub returns-clause-sum : goal.returns-clause-sum
returns-clause-sum c = all_counted

pub returns-clause-each : goal.returns-clause-each
returns-clause-each c = site_counted

pub returns-clause-once : goal.returns-clause-once
returns-clause-once c = each_once
