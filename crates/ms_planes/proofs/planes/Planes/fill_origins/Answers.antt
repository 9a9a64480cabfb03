use Rattle.std.proofs.Common.{◌≡◌, ◌-◌, ◌<◌, length, get_or, refl, sym, ap, ◌∙◌, subst, arith, List, Option, Some}
use Rattle.std.specs.Vec.{with_item}
use Rattle.ms_bits.specs.Maps.{with_cells}
use Rattle.ms_raw.specs.Blocks.{Lists, cells}
use Rattle.ms_planes.specs.Memory.{Memory, lists, area_index, origins_of}
use Rattle.ms_planes.specs.contracts.planes.Planes.{the_view}
use Rattle.ms_planes.proofs.Standing.{Stands, stands, CellsWritten, cells-written, index-low, block-read, blocks-put, row-long, held-block, never-none, with_block}
use Rattle.ms_planes.proofs.planes.Planes.fill_origins.Goals as goal
use Rattle.ms_planes.proofs.planes.Planes.fill_origins.Goals.{in-Some-index_mut, in-None}

pub index_mut-requires : goal.index_mut-requires
index_mut-requires c =
    let m : Memory = record { table = c.self.inside.table; blocks = lists c.self.inside.areas } in
    let p = c.in-Some.place in
    let s1 : (was : Lists) × Stands m c.args.addr c.args.n p was = stands m c.args.addr c.args.n p c.self.invariant c.in-Some.ensures in
    let s0 : Stands m c.args.addr c.args.n p s1.0 = s1.1 in
    let low : area_index p.kind < length (lists c.self.inside.areas) = omega (arith, c.self.invariant.three, index-low p.kind) in
    row-long c.self.inside.areas c.area_of.result (area_index p.kind) p.index c.index-self-area_of.result c.area_of.ensures low s0.within_row

pub overflow_sub-at : goal.overflow_sub-at
overflow_sub-at c =
    let m : Memory = record { table = c.self.inside.table; blocks = lists c.self.inside.areas } in
    let p = c.in-Some.place in
    let s1 : (was : Lists) × Stands m c.args.addr c.args.n p was = stands m c.args.addr c.args.n p c.self.invariant c.in-Some.ensures in
    let s0 : Stands m c.args.addr c.args.n p s1.0 = s1.1 in
    let low : area_index p.kind < length (lists c.self.inside.areas) = omega (arith, c.self.invariant.three, index-low p.kind) in
    omega (arith, s0.low, s0.base_is)

pub overflow_add-at : goal.overflow_add-at
overflow_add-at c =
    let m : Memory = record { table = c.self.inside.table; blocks = lists c.self.inside.areas } in
    let p = c.in-Some.place in
    let s1 : (was : Lists) × Stands m c.args.addr c.args.n p was = stands m c.args.addr c.args.n p c.self.invariant c.in-Some.ensures in
    let s0 : Stands m c.args.addr c.args.n p s1.0 = s1.1 in
    let low : area_index p.kind < length (lists c.self.inside.areas) = omega (arith, c.self.invariant.three, index-low p.kind) in
    record { fits = omega (arith, s0.low, s0.high, s0.base_is, s0.size) }

pub fill_origins-requires-clause-within : goal.fill_origins-requires-clause-within
fill_origins-requires-clause-within c =
    let m : Memory = record { table = c.self.inside.table; blocks = lists c.self.inside.areas } in
    let p = c.in-Some.place in
    let s1 : (was : Lists) × Stands m c.args.addr c.args.n p was = stands m c.args.addr c.args.n p c.self.invariant c.in-Some.ensures in
    let s0 : Stands m c.args.addr c.args.n p s1.0 = s1.1 in
    let low : area_index p.kind < length (lists c.self.inside.areas) = omega (arith, c.self.invariant.three, index-low p.kind) in
    let at = block-read c.self.inside.areas c.area_of.result p.index (area_index p.kind) c.index-self-area_of.result c.index_mut.result.now c.area_of.ensures low s0.within_row c.index_mut.ensures.value in
    let s : Stands m c.args.addr c.args.n p c.in-Some-index_mut.block = held-block m c.args.addr c.args.n p s1.0 s0 c.in-Some-index_mut.block (sym at ∙ c.in-Some-index_mut.is) in
    omega (arith, s.low, s.base_is, s.high, s.whole.bytes, c.if-n-eq0.false)

pub fill_origins-requires-clause-lists : goal.fill_origins-requires-clause-lists
fill_origins-requires-clause-lists c =
    let m : Memory = record { table = c.self.inside.table; blocks = lists c.self.inside.areas } in
    let p = c.in-Some.place in
    let s1 : (was : Lists) × Stands m c.args.addr c.args.n p was = stands m c.args.addr c.args.n p c.self.invariant c.in-Some.ensures in
    let s0 : Stands m c.args.addr c.args.n p s1.0 = s1.1 in
    let low : area_index p.kind < length (lists c.self.inside.areas) = omega (arith, c.self.invariant.three, index-low p.kind) in
    let at = block-read c.self.inside.areas c.area_of.result p.index (area_index p.kind) c.index-self-area_of.result c.index_mut.result.now c.area_of.ensures low s0.within_row c.index_mut.ensures.value in
    let s : Stands m c.args.addr c.args.n p c.in-Some-index_mut.block = held-block m c.args.addr c.args.n p s1.0 s0 c.in-Some-index_mut.block (sym at ∙ c.in-Some-index_mut.is) in
    s.whole.origins ∙ sym (ap cells s.whole.bytes)

pub fill_origins-requires-clause-small : goal.fill_origins-requires-clause-small
fill_origins-requires-clause-small c =
    let m : Memory = record { table = c.self.inside.table; blocks = lists c.self.inside.areas } in
    let p = c.in-Some.place in
    let s1 : (was : Lists) × Stands m c.args.addr c.args.n p was = stands m c.args.addr c.args.n p c.self.invariant c.in-Some.ensures in
    let s0 : Stands m c.args.addr c.args.n p s1.0 = s1.1 in
    let low : area_index p.kind < length (lists c.self.inside.areas) = omega (arith, c.self.invariant.three, index-low p.kind) in
    let at = block-read c.self.inside.areas c.area_of.result p.index (area_index p.kind) c.index-self-area_of.result c.index_mut.result.now c.area_of.ensures low s0.within_row c.index_mut.ensures.value in
    let s : Stands m c.args.addr c.args.n p c.in-Some-index_mut.block = held-block m c.args.addr c.args.n p s1.0 s0 c.in-Some-index_mut.block (sym at ∙ c.in-Some-index_mut.is) in
    omega (arith, s.low, s.high, s.base_is, s.size, c.if-n-eq0.false)

written : (c : goal.Joined-index_mut) → CellsWritten c.args.self.now (the_view c.match-index_mut.self-inside) (with_cells (origins_of c.args.self.now) c.args.addr c.args.n c.args.origin)
written c =
    let m : Memory = record { table = c.self.inside.table; blocks = lists c.self.inside.areas } in
    let p = c.in-Some.place in
    let s1 : (was : Lists) × Stands m c.args.addr c.args.n p was = stands m c.args.addr c.args.n p c.self.invariant c.in-Some.ensures in
    let s0 : Stands m c.args.addr c.args.n p s1.0 = s1.1 in
    let low : area_index p.kind < length (lists c.self.inside.areas) = omega (arith, c.self.invariant.three, index-low p.kind) in
    let at = block-read c.self.inside.areas c.area_of.result p.index (area_index p.kind) c.index-self-area_of.result c.index_mut.result.now c.area_of.ensures low s0.within_row c.index_mut.ensures.value in
    elim c.match-index_mut.branch [
      | in-Some-index_mut w ↦
          let s : Stands m c.args.addr c.args.n p w.in-Some-index_mut.block = held-block m c.args.addr c.args.n p s1.0 s0 w.in-Some-index_mut.block (sym at ∙ w.in-Some-index_mut.is) in
          let done = cells-written m c.args.addr c.args.n c.args.origin p w.in-Some-index_mut.block s w.fill_origins.new.block (c.args.addr - p.base) _ c.self.invariant (omega (arith, c.if-n-eq0.false)) w.fill_origins.ensures.bytes w.fill_origins.ensures.shadow w.fill_origins.ensures.len refl refl w.fill_origins.ensures.shown in
          let same : the_view c.match-index_mut.self-inside ≡ with_block m p.kind p.index (Some w.fill_origins.new.block) =
          ap the_view w.self-inside-is ∙ ap (λ (bs : List (List (Option Lists))). record { table = c.self.inside.table; blocks = bs }) (blocks-put c.self.inside.areas c.area_of.result (area_index p.kind) p.index c.index-self-area_of.result (with_item (get_or c.self.inside.areas c.area_of.result c.index-self-area_of.result) p.index (Some w.fill_origins.new.block)) (Some w.fill_origins.new.block) c.area_of.ensures low refl) in
          subst (λ (q : Memory). CellsWritten q (the_view c.match-index_mut.self-inside) (with_cells (origins_of q) c.args.addr c.args.n c.args.origin)) c.self.view_is
          (subst (λ (q : Memory). CellsWritten m q (with_cells (origins_of m) c.args.addr c.args.n c.args.origin)) (sym same) done)
      | in-None w ↦ absurd (never-none m c.args.addr c.args.n p s1.0 s0 (sym at ∙ w.in-None.is))
    ]

pub invariant_of-self : goal.invariant_of-self
invariant_of-self c = (written c).memory

pub returns-clause-bytes : goal.returns-clause-bytes
returns-clause-bytes c = (written c).bytes_is

pub returns-clause-shadow : goal.returns-clause-shadow
returns-clause-shadow c = (written c).shadow_is

pub returns-clause-origins : goal.returns-clause-origins
returns-clause-origins c = (written c).origins_is
