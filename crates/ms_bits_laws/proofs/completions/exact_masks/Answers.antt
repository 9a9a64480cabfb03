use Rattle.ms_bits_laws.proofs.Agreement.{agrees_from_exact, same_mask, clean_mask}
use Rattle.ms_bits_laws.proofs.completions.exact_masks.Goals as goal

pub returns-clause-agrees : goal.returns-clause-agrees
returns-clause-agrees c = λ f w v m u k to r a b c d h p q s t. agrees_from_exact f w v m u k to r h a b c d p q s t

pub returns-clause-same : goal.returns-clause-same
returns-clause-same c = λ f w v m u k to r a b h p q. same_mask f w v m u k a b to r p q h

pub returns-clause-clean : goal.returns-clause-clean
returns-clause-clean c = λ f w v u to r l h. clean_mask f w v u to r l h
