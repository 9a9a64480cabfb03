use Rattle.ms_trail_laws.proofs.Found.{where_reported, where_found}
use Rattle.ms_trail_laws.proofs.ways.found_at_reports.Goals as goal

pub returns-clause-reported : goal.returns-clause-reported
returns-clause-reported c = where_reported

pub returns-clause-found : goal.returns-clause-found
returns-clause-found c = where_found
