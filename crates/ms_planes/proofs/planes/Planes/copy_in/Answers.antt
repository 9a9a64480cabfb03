use Rattle.std.proofs.Common.{◌≡◌, ℕ, ◌<◌, length, get_or, refl, sym, ap, ◌∙◌, subst, arith, List, Option, Some}
use Rattle.std.specs.Vec.{with_item}
use Rattle.ms_raw.specs.Blocks.{Lists, IsLists}
use Rattle.ms_planes.specs.Memory.{Memory, lists, area_index}
use Rattle.ms_planes.specs.contracts.planes.Planes.{the_view}
use Rattle.ms_planes.proofs.Standing.{Stands, stands, index-low, block-read, blocks-put, row-long, held-block, never-none, with_block}
use Rattle.ms_planes.proofs.planes.Planes.copy_in.Goals as goal
use Rattle.ms_alloc.specs.Places.{IsPlace}
use Rattle.ms_alloc.specs.Allocations.{of_kind}
use Rattle.ms_planes.proofs.Copied.{CopyDone, copy-done}
use Rattle.ms_planes.proofs.planes.Planes.copy_in.Goals.{in-Some, in-None}

pub index_mut-requires : goal.index_mut-requires
index_mut-requires c =
    let m : Memory = record { table = c.self.inside.table; blocks = lists c.self.inside.areas } in
    let p = c.args.place in
    let low : area_index p.kind < length (lists c.self.inside.areas) = omega (arith, c.self.invariant.three, index-low p.kind) in
    let to1 : (was : Lists) × Stands m c.args.to c.args.n p was = stands m c.args.to c.args.n p c.self.invariant (subst (λ (q : Memory). IsPlace p.kind (of_kind p.kind q.table) c.args.to c.args.n p) (sym c.self.view_is) c.requires.to) in
    let to0 : Stands m c.args.to c.args.n p to1.0 = to1.1 in
    row-long c.self.inside.areas c.area_of.result (area_index p.kind) p.index c.index-self-area_of.result c.area_of.ensures low to0.within_row

pub overflow_sub-to : goal.overflow_sub-to
overflow_sub-to c =
    let m : Memory = record { table = c.self.inside.table; blocks = lists c.self.inside.areas } in
    let p = c.args.place in
    let low : area_index p.kind < length (lists c.self.inside.areas) = omega (arith, c.self.invariant.three, index-low p.kind) in
    let to1 : (was : Lists) × Stands m c.args.to c.args.n p was = stands m c.args.to c.args.n p c.self.invariant (subst (λ (q : Memory). IsPlace p.kind (of_kind p.kind q.table) c.args.to c.args.n p) (sym c.self.view_is) c.requires.to) in
    let to0 : Stands m c.args.to c.args.n p to1.0 = to1.1 in
    omega (arith, to0.low, to0.base_is)

pub copy_within-requires-clause-to : goal.copy_within-requires-clause-to
copy_within-requires-clause-to c =
    let m : Memory = record { table = c.self.inside.table; blocks = lists c.self.inside.areas } in
    let p = c.args.place in
    let low : area_index p.kind < length (lists c.self.inside.areas) = omega (arith, c.self.invariant.three, index-low p.kind) in
    let to1 : (was : Lists) × Stands m c.args.to c.args.n p was = stands m c.args.to c.args.n p c.self.invariant (subst (λ (q : Memory). IsPlace p.kind (of_kind p.kind q.table) c.args.to c.args.n p) (sym c.self.view_is) c.requires.to) in
    let to0 : Stands m c.args.to c.args.n p to1.0 = to1.1 in
    let at = block-read c.self.inside.areas c.area_of.result p.index (area_index p.kind) c.index-self-area_of.result c.index_mut.result.now c.area_of.ensures low to0.within_row c.index_mut.ensures.value in
    let tos : Stands m c.args.to c.args.n p c.in-Some.block = held-block m c.args.to c.args.n p to1.0 to0 c.in-Some.block (sym at ∙ c.in-Some.is) in
    omega (arith, tos.low, tos.base_is, tos.high, tos.whole.bytes)

pub overflow_sub-from : goal.overflow_sub-from
overflow_sub-from c =
    let m : Memory = record { table = c.self.inside.table; blocks = lists c.self.inside.areas } in
    let p = c.args.place in
    let low : area_index p.kind < length (lists c.self.inside.areas) = omega (arith, c.self.invariant.three, index-low p.kind) in
    let from1 : (was : Lists) × Stands m c.args.from c.args.n p was = stands m c.args.from c.args.n p c.self.invariant (subst (λ (q : Memory). IsPlace p.kind (of_kind p.kind q.table) c.args.from c.args.n p) (sym c.self.view_is) c.requires.from) in
    let from0 : Stands m c.args.from c.args.n p from1.0 = from1.1 in
    omega (arith, from0.low, from0.base_is)

pub copy_within-requires-clause-from : goal.copy_within-requires-clause-from
copy_within-requires-clause-from c =
    let m : Memory = record { table = c.self.inside.table; blocks = lists c.self.inside.areas } in
    let p = c.args.place in
    let low : area_index p.kind < length (lists c.self.inside.areas) = omega (arith, c.self.invariant.three, index-low p.kind) in
    let to1 : (was : Lists) × Stands m c.args.to c.args.n p was = stands m c.args.to c.args.n p c.self.invariant (subst (λ (q : Memory). IsPlace p.kind (of_kind p.kind q.table) c.args.to c.args.n p) (sym c.self.view_is) c.requires.to) in
    let to0 : Stands m c.args.to c.args.n p to1.0 = to1.1 in
    let from1 : (was : Lists) × Stands m c.args.from c.args.n p was = stands m c.args.from c.args.n p c.self.invariant (subst (λ (q : Memory). IsPlace p.kind (of_kind p.kind q.table) c.args.from c.args.n p) (sym c.self.view_is) c.requires.from) in
    let from0 : Stands m c.args.from c.args.n p from1.0 = from1.1 in
    let at = block-read c.self.inside.areas c.area_of.result p.index (area_index p.kind) c.index-self-area_of.result c.index_mut.result.now c.area_of.ensures low to0.within_row c.index_mut.ensures.value in
    let froms : Stands m c.args.from c.args.n p c.in-Some.block = held-block m c.args.from c.args.n p from1.0 from0 c.in-Some.block (sym at ∙ c.in-Some.is) in
    omega (arith, froms.low, froms.base_is, froms.high, froms.whole.bytes)

pub copy_within-requires-clause-whole : goal.copy_within-requires-clause-whole
copy_within-requires-clause-whole c =
    let m : Memory = record { table = c.self.inside.table; blocks = lists c.self.inside.areas } in
    let p = c.args.place in
    let low : area_index p.kind < length (lists c.self.inside.areas) = omega (arith, c.self.invariant.three, index-low p.kind) in
    let to1 : (was : Lists) × Stands m c.args.to c.args.n p was = stands m c.args.to c.args.n p c.self.invariant (subst (λ (q : Memory). IsPlace p.kind (of_kind p.kind q.table) c.args.to c.args.n p) (sym c.self.view_is) c.requires.to) in
    let to0 : Stands m c.args.to c.args.n p to1.0 = to1.1 in
    let at = block-read c.self.inside.areas c.area_of.result p.index (area_index p.kind) c.index-self-area_of.result c.index_mut.result.now c.area_of.ensures low to0.within_row c.index_mut.ensures.value in
    let tos : Stands m c.args.to c.args.n p c.in-Some.block = held-block m c.args.to c.args.n p to1.0 to0 c.in-Some.block (sym at ∙ c.in-Some.is) in
    subst (λ (k : ℕ). IsLists k c.in-Some.block) (sym tos.whole.bytes) tos.whole

written : (c : goal.Joined-index_mut) → CopyDone c.args.part c.args.self.now (the_view c.match-index_mut.self-inside) c.args.to c.args.from c.args.n
written c =
    let m : Memory = record { table = c.self.inside.table; blocks = lists c.self.inside.areas } in
    let p = c.args.place in
    let low : area_index p.kind < length (lists c.self.inside.areas) = omega (arith, c.self.invariant.three, index-low p.kind) in
    let to1 : (was : Lists) × Stands m c.args.to c.args.n p was = stands m c.args.to c.args.n p c.self.invariant (subst (λ (q : Memory). IsPlace p.kind (of_kind p.kind q.table) c.args.to c.args.n p) (sym c.self.view_is) c.requires.to) in
    let to0 : Stands m c.args.to c.args.n p to1.0 = to1.1 in
    let from1 : (was : Lists) × Stands m c.args.from c.args.n p was = stands m c.args.from c.args.n p c.self.invariant (subst (λ (q : Memory). IsPlace p.kind (of_kind p.kind q.table) c.args.from c.args.n p) (sym c.self.view_is) c.requires.from) in
    let from0 : Stands m c.args.from c.args.n p from1.0 = from1.1 in
    let at = block-read c.self.inside.areas c.area_of.result p.index (area_index p.kind) c.index-self-area_of.result c.index_mut.result.now c.area_of.ensures low to0.within_row c.index_mut.ensures.value in
    elim c.match-index_mut.branch [
      | in-Some w ↦
          let tos : Stands m c.args.to c.args.n p w.in-Some.block = held-block m c.args.to c.args.n p to1.0 to0 w.in-Some.block (sym at ∙ w.in-Some.is) in
          let froms : Stands m c.args.from c.args.n p w.in-Some.block = held-block m c.args.from c.args.n p from1.0 from0 w.in-Some.block (sym at ∙ w.in-Some.is) in
          let done = copy-done c.args.part m c.args.to c.args.from c.args.n p p w.in-Some.block w.in-Some.block tos froms w.copy_within.new.block c.self.invariant c.requires.some w.copy_within.ensures in
          let same : the_view c.match-index_mut.self-inside ≡ with_block m p.kind p.index (Some w.copy_within.new.block) =
          ap the_view w.self-inside-is ∙ ap (λ (bs : List (List (Option Lists))). record { table = c.self.inside.table; blocks = bs }) (blocks-put c.self.inside.areas c.area_of.result (area_index p.kind) p.index c.index-self-area_of.result (with_item (get_or c.self.inside.areas c.area_of.result c.index-self-area_of.result) p.index (Some w.copy_within.new.block)) (Some w.copy_within.new.block) c.area_of.ensures low refl) in
          subst (λ (q : Memory). CopyDone c.args.part q (the_view c.match-index_mut.self-inside) c.args.to c.args.from c.args.n) c.self.view_is
          (subst (λ (q : Memory). CopyDone c.args.part m q c.args.to c.args.from c.args.n) (sym same) done)
      | in-None w ↦ absurd (never-none m c.args.to c.args.n p to1.0 to0 (sym at ∙ w.in-None.is))
    ]

pub invariant_of-self : goal.invariant_of-self
invariant_of-self c = (written c).memory

pub returns-clause-copied : goal.returns-clause-copied
returns-clause-copied c = (written c).maps
