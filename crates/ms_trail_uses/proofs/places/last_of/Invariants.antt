use Rattle.std.proofs.Common.{◌≡◌, drop}
use Rattle.ms_trail_uses.specs.Origins.{last_masked}
use Rattle.ms_trail_uses.proofs.places.last_of.Given as goal

abbrev pub invariant-loop-k : goal.invariant-loop-k
invariant-loop-k l = last_masked 0 l.masks 0 ≡ last_masked l.k (drop l.k l.masks) l.best
