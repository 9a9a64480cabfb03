use Rattle.std.proofs.Common.{sym}
use Rattle.ms_bits_laws.proofs.Agreement.{agrees_from_exact}
use Rattle.ms_bits_laws.proofs.FormulaMasks.{answer_bit, compare_mask_exact, compare_mask_is, compare_mask-lt, compare_same}
use Rattle.ms_bits_laws.proofs.Results.{holds_is}
use Rattle.ms_bits_laws.proofs.orders.comparisons_are_exact.Goals as goal

pub returns-clause-answer : goal.returns-clause-answer
returns-clause-answer c = λ o flags w a b r h. sym (holds_is o flags w a b r h)

pub returns-clause-exact : goal.returns-clause-exact
returns-clause-exact c = λ o w v m u k s p q. compare_mask_exact o w v m u k s p q

pub returns-clause-by_completions : goal.returns-clause-by_completions
returns-clause-by_completions c = λ o w v m u k s p q. compare_mask_is o w v m u k s p q

pub returns-clause-fits : goal.returns-clause-fits
returns-clause-fits c = λ o w v m u k. compare_mask-lt o w v m u k

pub returns-clause-agrees : goal.returns-clause-agrees
returns-clause-agrees c = λ o w v m u k a b c d s p q ha hb hc hd. agrees_from_exact (answer_bit o w) w v m u k 1 _ (compare_mask_exact o w v m u k s p q) a b c d ha hb hc hd

pub returns-clause-same : goal.returns-clause-same
returns-clause-same c = λ o w v m u k a b s p q ha hb. compare_same o w v m u k a b s p q ha hb
