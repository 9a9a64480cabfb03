use Rattle.ms_bits_laws.proofs.MaskFunctions.{select_mask_of-exact, select_mask_of-lt, select_mask_unique}
use Rattle.ms_bits_laws.proofs.selections.selection_masks_by_completions.Goals as goal

pub returns-clause-exact : goal.returns-clause-exact
returns-clause-exact c = λ t n w v m u k. select_mask_of-exact t n w v m u k

pub returns-clause-fits : goal.returns-clause-fits
returns-clause-fits c = λ t n w v m u k. select_mask_of-lt t n w v m u k

pub returns-clause-unique : goal.returns-clause-unique
returns-clause-unique c = λ t n w v m u k r s p q h g. select_mask_unique t n w v m u k r s p q h g
