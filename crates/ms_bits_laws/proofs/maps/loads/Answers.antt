use Rattle.ms_bits_laws.proofs.MapLemmas.{stored_is_loaded, load_elsewhere, load_elsewhere_above, same_number, loaded_byte, number_at-lt, byte_of-lt}
use Rattle.ms_bits_laws.proofs.maps.loads.Goals as goal

pub returns-clause-stored : goal.returns-clause-stored
returns-clause-stored c = λ map a n v. stored_is_loaded map a n v

pub returns-clause-before : goal.returns-clause-before
returns-clause-before c = λ map new a n b m l. load_elsewhere map a n new b m l

pub returns-clause-after : goal.returns-clause-after
returns-clause-after c = λ map new a n b m l. load_elsewhere_above map a n new b m l

pub returns-clause-range_alone : goal.returns-clause-range_alone
returns-clause-range_alone c = λ map other a b n h. same_number n a b map other h

pub returns-clause-bytes : goal.returns-clause-bytes
returns-clause-bytes c = λ map a n k l h. loaded_byte n a k map l h

pub returns-clause-fits : goal.returns-clause-fits
returns-clause-fits c = λ map a n h. number_at-lt n a map h

pub returns-clause-byte_fits : goal.returns-clause-byte_fits
returns-clause-byte_fits c = λ v k. byte_of-lt v k
