use Rattle.ms_bits_laws.proofs.Agreement.{select_agrees_from_exact}
use Rattle.ms_bits_laws.proofs.FormulaMasks.{select_mask_exact, select_mask-is, select_mask-lt, select_same}
use Rattle.ms_bits_laws.proofs.selections.selections_are_exact.Goals as goal

pub returns-clause-exact : goal.returns-clause-exact
returns-clause-exact c = λ t n w v m u k o p q. select_mask_exact t n w v m u k o p q

pub returns-clause-by_completions : goal.returns-clause-by_completions
returns-clause-by_completions c = λ t n w v m u k o p q. select_mask-is t n w v m u k o p q

pub returns-clause-fits : goal.returns-clause-fits
returns-clause-fits c = λ t n w v m u k p q. select_mask-lt t n w v m u k p q

pub returns-clause-agrees : goal.returns-clause-agrees
returns-clause-agrees c = λ t n w v m u k p a b q c d x y z hp ha hb hq hc hd. select_agrees_from_exact t n w v m u k _ (select_mask_exact t n w v m u k x y z) p a b q c d hp ha hb hq hc hd

pub returns-clause-same : goal.returns-clause-same
returns-clause-same c = λ t n w v m u k p a b x y z hp ha hb. select_same t n w v m u k p a b x y z hp ha hb
