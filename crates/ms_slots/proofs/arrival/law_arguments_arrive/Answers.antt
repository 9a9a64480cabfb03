use Rattle.ms_slots.proofs.Arriving as arriving
use Rattle.ms_slots.proofs.arrival.law_arguments_arrive.Goals as goal

pub returns : goal.returns
returns c = arriving.arguments_arrive
