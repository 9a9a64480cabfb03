use Rattle.ms_trail_moves.proofs.Scans.{trail_leads, leads_trail}
use Rattle.ms_trail_moves.proofs.ways.law_found_in_one_pass.Goals as goal

pub returns-clause-leads : goal.returns-clause-leads
returns-clause-leads c = trail_leads

pub returns-clause-finds : goal.returns-clause-finds
returns-clause-finds c = leads_trail
