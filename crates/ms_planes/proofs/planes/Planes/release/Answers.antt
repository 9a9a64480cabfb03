use Rattle.std.proofs.Common.{◌≡◌, ℕ, ◌<◌, length, get_or, set, take, sym, ap, ◌∙◌, subst, arith, List, Option, []}
use Rattle.ms_alloc.specs.Allocations.{Allocations, IsLaidOut, without_from}
use Rattle.ms_raw.specs.Blocks.{Lists}
use Rattle.ms_planes.specs.Memory.{Memory, IsMemory, KeepsLive, lists}
use Rattle.ms_planes.proofs.Standing.{vector-at, vector-set}
use Rattle.ms_planes.proofs.Histories.{memory_of, same-memory, released_memory, released-memory, released-live}
use Rattle.ms_planes.proofs.planes.Planes.release.Goals as goal

now : (c : goal.After-truncate) → memory_of c.release.new.self (lists (set c.self.inside.areas c.area_of.result c.truncate.new.self)) ≡ released_memory (memory_of c.self.inside.table (lists c.self.inside.areas)) c.args.mark
now c =
    let low : 2 < length (lists c.self.inside.areas) = omega (arith, c.self.invariant.three) in
    let left : c.count-left.result ≡ length (without_from c.args.mark c.self.inside.table).stack = c.count-left.ensures ∙ ap (λ (t : Allocations). length t.stack) c.release.ensures.released in
    same-memory c.release.new.self (without_from c.args.mark c.self.inside.table) _ (set (lists c.self.inside.areas) 2 (take (length (without_from c.args.mark c.self.inside.table).stack) (get_or (lists c.self.inside.areas) 2 []))) c.release.ensures.released
    (vector-set c.self.inside.areas c.area_of.result c.truncate.new.self
    ∙ ap (λ (bs : List (Option Lists)). set (lists c.self.inside.areas) c.area_of.result bs) (c.truncate.ensures.items
    ∙ ap (λ (k : ℕ). take c.count-left.result (get_or c.self.inside.areas k c.index-self-area_of.result).items) c.area_of.ensures
    ∙ ap (λ (bs : List (Option Lists)). take c.count-left.result bs) (vector-at c.self.inside.areas 2 c.index-self-area_of.result low)
    ∙ ap (λ (k : ℕ). take k (get_or (lists c.self.inside.areas) 2 [])) left)
    ∙ ap (λ (k : ℕ). set (lists c.self.inside.areas) k (take (length (without_from c.args.mark c.self.inside.table).stack) (get_or (lists c.self.inside.areas) 2 []))) c.area_of.ensures)

pub invariant_of-self : goal.invariant_of-self
invariant_of-self c =
    subst IsMemory (sym (now c)) (released-memory (memory_of c.self.inside.table (lists c.self.inside.areas)) c.args.mark c.self.invariant (subst IsLaidOut c.release.ensures.released c.release.ensures.laid_out))

pub returns-clause-live : goal.returns-clause-live
returns-clause-live c =
    let m : Memory = memory_of c.self.inside.table (lists c.self.inside.areas) in
    subst (λ (q : Memory). KeepsLive q (memory_of c.release.new.self (lists (set c.self.inside.areas c.area_of.result c.truncate.new.self)))) c.self.view_is
    (subst (KeepsLive m) (sym (now c)) (released-live m c.args.mark c.self.invariant (subst IsLaidOut c.release.ensures.released c.release.ensures.laid_out)))
