use Rattle.ms_bits_laws.proofs.CellLemmas.{copied_inside, copied_outside}
use Rattle.ms_bits_laws.proofs.maps.copied_origins.Goals as goal

pub returns-clause-inside : goal.returns-clause-inside
returns-clause-inside c = λ shadow old cells to from n k l s h. copied_inside shadow old to from n cells k l s h

pub returns-clause-outside : goal.returns-clause-outside
returns-clause-outside c = λ shadow old cells to from n cell h. copied_outside shadow old to from n cells cell h
