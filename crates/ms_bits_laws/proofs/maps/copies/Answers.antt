use Rattle.std.proofs.Common.{◌+◌}
use Rattle.ms_bits_laws.proofs.MapLemmas.{range_inside, range_below, range_above, copied_number, copied_bytes}
use Rattle.ms_bits_laws.proofs.maps.copies.Goals as goal

pub returns-clause-inside : goal.returns-clause-inside
returns-clause-inside c = λ map to from n k l. range_inside map to n (λ j. map (from + j)) k l

pub returns-clause-below : goal.returns-clause-below
returns-clause-below c = λ map to from n x l. range_below map to n (λ j. map (from + j)) x l

pub returns-clause-above : goal.returns-clause-above
returns-clause-above c = λ map to from n x l. range_above map to n (λ j. map (from + j)) x l

pub returns-clause-number : goal.returns-clause-number
returns-clause-number c = λ map to from n. copied_number map to from n

pub returns-clause-bytes : goal.returns-clause-bytes
returns-clause-bytes c = λ map to from n. copied_bytes map to from n
