use Rattle.std.proofs.Common.{◌≡◌, ◌<◌, ℕ, zero, suc, List, [], ◌∷◌, length, get_or, refl, arith}
use Rattle.ms_trail_uses.proofs.Asked.{masked_none, masked_more, masked_all}
use Rattle.ms_trail_uses.proofs.places.last_of.Goals as goal

-- what stands within a list hangs on no default
any_default : (xs : List ℕ) (k d e : ℕ) → k < length xs → get_or xs k d ≡ get_or xs k e
any_default [] k d e lt = absurd (omega (arith, lt))
any_default (x ∷ xs) zero d e lt = refl
any_default (x ∷ xs) (suc k) d e lt = any_default xs k d e (omega (arith, lt))

pub loop-k-init : goal.loop-k-init
loop-k-init c = masked_none c.args.masks.now

pub loop-k-preserved : goal.loop-k-preserved
loop-k-preserved c =
    masked_more c.args.masks.now c.loop-k.k c.loop-k.best (get_or c.args.masks.now c.loop-k.k 0) c.better-best.result c.loop-k-test.true (any_default c.args.masks.now c.loop-k.k 0 (get_or c.args.masks.now c.loop-k.k 0) c.loop-k-test.true) c.better-best.ensures c.loop-k.invariant

pub returns : goal.returns
returns c = masked_all c.args.masks.now c.loop-k.k c.loop-k.best (omega (arith, c.loop-k-test.false)) c.loop-k.invariant
