use Rattle.ms_runtime.proofs.places.BlindPlaces.new.Goals as goal

pub returns : goal.returns
returns c = record { counted = c.new-2.ensures.items; sites = c.new.ensures.empty }
