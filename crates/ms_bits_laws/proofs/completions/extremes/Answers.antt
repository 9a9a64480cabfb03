use Rattle.ms_bits_laws.proofs.Extremes.{least_completes, greatest_completes, above_least, below_greatest}
use Rattle.ms_bits_laws.proofs.completions.extremes.Goals as goal

pub returns-clause-least_completes : goal.returns-clause-least_completes
returns-clause-least_completes c = λ w v m p. least_completes w v m p.value p.mask

pub returns-clause-greatest_completes : goal.returns-clause-greatest_completes
returns-clause-greatest_completes c = λ w v m p. greatest_completes w v m p.value p.mask

pub returns-clause-above_least : goal.returns-clause-above_least
returns-clause-above_least c = λ w v m c p h. above_least p.value p.mask h

pub returns-clause-below_greatest : goal.returns-clause-below_greatest
returns-clause-below_greatest c = λ w v m c p h. below_greatest p.value p.mask h
