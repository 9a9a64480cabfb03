use Rattle.std.proofs.Common.{◌≡◌, ◌<◌, length, get_or, set, refl, sym, ap, ◌∙◌, subst, arith, Option, None, []}
use Rattle.std.specs.Vec.{with_item}
use Rattle.ms_alloc.specs.declared.kinds.AllocKind.TheVariants.{Heap}
use Rattle.ms_alloc.specs.Allocations.{IsLaidOut, with_ended}
use Rattle.ms_raw.specs.Blocks.{Lists}
use Rattle.ms_planes.specs.Memory.{Memory, IsMemory, KeepsLive, lists}
use Rattle.ms_planes.proofs.Found.{kept-length}
use Rattle.ms_planes.proofs.Standing.{blocks-put, row-long}
use Rattle.ms_planes.proofs.Histories.{memory_of, same-memory, ended_memory, ended-memory, ended-live}
use Rattle.ms_planes.proofs.planes.Planes.end.Goals as goal

pub index_mut-requires : goal.index_mut-requires
index_mut-requires c =
    let low : 1 < length (lists c.self.inside.areas) = omega (arith, c.self.invariant.three) in
    row-long c.self.inside.areas c.area_of.result 1 c.in-Some.index c.index-self-area_of.result c.area_of.ensures low
    (omega (arith, c.in-Some.ensures.within, kept-length c.self.inside.table.heap (get_or (lists c.self.inside.areas) 1 []) (c.self.invariant.blocks Heap)))

now : (c : goal.After-self-1) → memory_of c.end.new.self (lists (set c.self.inside.areas c.area_of.result (with_item (get_or c.self.inside.areas c.area_of.result c.index-self-area_of.result) c.in-Some.index c.free.new.slot))) ≡ ended_memory (memory_of c.self.inside.table (lists c.self.inside.areas)) c.args.base c.in-Some.index
now c =
    let low : 1 < length (lists c.self.inside.areas) = omega (arith, c.self.invariant.three) in
    same-memory c.end.new.self (with_ended c.args.base c.self.inside.table) _ (set (lists c.self.inside.areas) 1 (set (get_or (lists c.self.inside.areas) 1 []) c.in-Some.index None)) c.in_ok-size.ensures.ended
    (blocks-put c.self.inside.areas c.area_of.result 1 c.in-Some.index c.index-self-area_of.result (with_item (get_or c.self.inside.areas c.area_of.result c.index-self-area_of.result) c.in-Some.index c.free.new.slot) c.free.new.slot c.area_of.ensures low refl
    ∙ ap (λ (b : Option Lists). set (lists c.self.inside.areas) 1 (set (get_or (lists c.self.inside.areas) 1 []) c.in-Some.index b)) c.free.ensures)

pub invariant_of-self-in-Some : goal.invariant_of-self-in-Some
invariant_of-self-in-Some c =
    subst IsMemory (sym (now c)) (ended-memory (memory_of c.self.inside.table (lists c.self.inside.areas)) c.args.base c.in-Some.index c.self.invariant (subst IsLaidOut c.in_ok-size.ensures.ended c.in_ok-size.ensures.laid_out) c.in-Some.ensures)

pub returns-in-Some-clause-live : goal.returns-in-Some-clause-live
returns-in-Some-clause-live c =
    let m : Memory = memory_of c.self.inside.table (lists c.self.inside.areas) in
    subst (λ (q : Memory). KeepsLive q (memory_of c.end.new.self (lists (set c.self.inside.areas c.area_of.result (with_item (get_or c.self.inside.areas c.area_of.result c.index-self-area_of.result) c.in-Some.index c.free.new.slot))))) c.self.view_is
    (subst (KeepsLive m) (sym (now c)) (ended-live m c.args.base c.in-Some.index c.self.invariant (subst IsLaidOut c.in_ok-size.ensures.ended c.in_ok-size.ensures.laid_out) c.in-Some.ensures))
