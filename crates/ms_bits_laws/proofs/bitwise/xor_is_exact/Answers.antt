use Rattle.std.proofs.Common.{sym, bit_xor}
use Rattle.ms_bits_laws.proofs.Agreement.{agrees_from_exact}
use Rattle.ms_bits_laws.proofs.FormulaMasks.{union_mask_exact, xor_mask_is, union_mask-lt}
use Rattle.ms_bits_laws.proofs.Results.{xor_is}
use Rattle.ms_bits_laws.proofs.bitwise.xor_is_exact.Goals as goal

pub returns-clause-answer : goal.returns-clause-answer
returns-clause-answer c = λ flags w a b r h. sym (xor_is flags w a b r h)

pub returns-clause-exact : goal.returns-clause-exact
returns-clause-exact c = λ w v m u k p q. union_mask_exact w v m u k p q

pub returns-clause-by_completions : goal.returns-clause-by_completions
returns-clause-by_completions c = λ w v m u k p q. xor_mask_is w v m u k p q

pub returns-clause-fits : goal.returns-clause-fits
returns-clause-fits c = λ w v m u k p q. union_mask-lt w v m u k p q

pub returns-clause-agrees : goal.returns-clause-agrees
returns-clause-agrees c = λ w v m u k a b c d p q ha hb hc hd. agrees_from_exact bit_xor w v m u k w _ (union_mask_exact w v m u k p q) a b c d ha hb hc hd
