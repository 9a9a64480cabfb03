use Rattle.std.proofs.Common.{ℕ, List, length, ap, arith}
use Rattle.ms_alloc.specs.Allocations.{used}
use Rattle.ms_alloc.proofs.Owners.{owners-length}
use Rattle.ms_alloc.proofs.areas.Area.used.Goals as goal

pub overflow_mul-result : goal.overflow_mul-result
overflow_mul-result c =
    omega (arith, c.len.ensures, c.self.inside.owners.ok.0, ap (λ (l : List ℕ). length l) c.self.invariant.same, owners-length 0 c.self.inside.made.items, c.self.invariant.small)

pub returns : goal.returns
returns c =
    omega (arith, c.len.ensures, c.self.inside.owners.ok.0, ap (λ (l : List ℕ). length l) c.self.invariant.same, owners-length 0 c.self.inside.made.items, ap used c.self.view_is)
