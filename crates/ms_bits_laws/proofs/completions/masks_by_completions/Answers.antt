use Rattle.ms_bits_laws.proofs.MaskFunctions.{mask_of-exact, mask_of-lt, mask_unique}
use Rattle.ms_bits_laws.proofs.completions.masks_by_completions.Goals as goal

pub returns-clause-exact : goal.returns-clause-exact
returns-clause-exact c = λ f w v m u k to. mask_of-exact f w v m u k to

pub returns-clause-fits : goal.returns-clause-fits
returns-clause-fits c = λ f w v m u k to. mask_of-lt f w v m u k to

pub returns-clause-unique : goal.returns-clause-unique
returns-clause-unique c = λ f w v m u k to r s p q h g. mask_unique f w v m u k to r s p q h g
