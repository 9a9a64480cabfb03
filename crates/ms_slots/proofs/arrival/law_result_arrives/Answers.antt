use Rattle.ms_slots.proofs.Arriving as arriving
use Rattle.ms_slots.proofs.arrival.law_result_arrives.Goals as goal

pub returns : goal.returns
returns c = arriving.result_arrives
