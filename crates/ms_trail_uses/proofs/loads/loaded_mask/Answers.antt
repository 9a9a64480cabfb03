use Rattle.std.proofs.Common.{sym, ap, ◌∙◌, true≢false, bit_and}
use Rattle.ms_trail_uses.proofs.loads.loaded_mask.Goals as goal

pub returns-in-Some : goal.returns-in-Some
returns-in-Some c = λ beside meant shows good. ap (λ n. bit_and n c.args.cut) (c.in-Some.ensures beside meant shows).1

pub returns-in-None : goal.returns-in-None
returns-in-None c = λ beside meant shows good. absurd (true≢false (sym good ∙ c.in-None.ensures beside meant shows))
