use Rattle.ms_bits_laws.proofs.MapLemmas.{range_inside, range_below, range_above}
use Rattle.ms_bits_laws.proofs.maps.ranges.Goals as goal

pub returns-clause-inside : goal.returns-clause-inside
returns-clause-inside c = λ map new a n k l. range_inside map a n new k l

pub returns-clause-below : goal.returns-clause-below
returns-clause-below c = λ map new a n x l. range_below map a n new x l

pub returns-clause-above : goal.returns-clause-above
returns-clause-above c = λ map new a n x l. range_above map a n new x l
