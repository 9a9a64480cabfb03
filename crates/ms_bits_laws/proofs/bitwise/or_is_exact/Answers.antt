use Rattle.std.proofs.Common.{sym, bit_or}
use Rattle.ms_bits_laws.proofs.Agreement.{agrees_from_exact}
use Rattle.ms_bits_laws.proofs.FormulaMasks.{or_mask_exact, or_mask_is, or_mask-lt, or_same}
use Rattle.ms_bits_laws.proofs.Results.{or_is}
use Rattle.ms_bits_laws.proofs.bitwise.or_is_exact.Goals as goal

pub returns-clause-answer : goal.returns-clause-answer
returns-clause-answer c = λ flags w a b r h. sym (or_is flags w a b r h)

pub returns-clause-exact : goal.returns-clause-exact
returns-clause-exact c = λ w v m u k p q. or_mask_exact w v m u k p q

pub returns-clause-by_completions : goal.returns-clause-by_completions
returns-clause-by_completions c = λ w v m u k p q. or_mask_is w v m u k p q

pub returns-clause-fits : goal.returns-clause-fits
returns-clause-fits c = λ w v m u k p q. or_mask-lt w v m u k p q

pub returns-clause-agrees : goal.returns-clause-agrees
returns-clause-agrees c = λ w v m u k a b c d p q ha hb hc hd. agrees_from_exact bit_or w v m u k w _ (or_mask_exact w v m u k p q) a b c d ha hb hc hd

pub returns-clause-same : goal.returns-clause-same
returns-clause-same c = λ w v m u k a b p q ha hb. or_same w v m u k a b p q ha hb
