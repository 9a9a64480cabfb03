use Rattle.std.proofs.Common.{◌≡◌, ℕ, ◌<◌, length, get_or, refl, sym, ap, ◌∙◌, subst, arith, List, Option, Some, true}
use Rattle.std.specs.Vec.{with_item}
use Rattle.ms_alloc.specs.Allocations.{of_kind, is_good}
use Rattle.ms_alloc.specs.Places.{IsPlace}
use Rattle.ms_bits.specs.Maps.{byte_of}
use Rattle.ms_raw.specs.Blocks.{Lists, IsLists}
use Rattle.ms_planes.specs.Memory.{Memory, lists, area_index}
use Rattle.ms_planes.specs.contracts.planes.Planes.{the_view}
use Rattle.ms_planes.proofs.Good.{placed-good}
use Rattle.ms_planes.proofs.Standing.{Stands, stands, PartWritten, part-written, index-low, block-read, blocks-put, row-long, held-block, never-none, with_block}
use Rattle.ms_planes.proofs.planes.Planes.put.Goals as goal
use Rattle.ms_planes.proofs.planes.Planes.put.Goals.{in-Some-index_mut, in-None}

pub index_mut-requires : goal.index_mut-requires
index_mut-requires c =
    let m : Memory = record { table = c.self.inside.table; blocks = lists c.self.inside.areas } in
    let p = c.in-Some.place in
    let s1 : (was : Lists) × Stands m c.args.addr c.args.n p was = stands m c.args.addr c.args.n p c.self.invariant (subst (λ (k : ℕ). IsPlace p.kind (of_kind p.kind m.table) c.args.addr k p) c.from.ensures c.in-Some.ensures) in
    let s0 : Stands m c.args.addr c.args.n p s1.0 = s1.1 in
    let low : area_index p.kind < length (lists c.self.inside.areas) = omega (arith, c.self.invariant.three, index-low p.kind) in
    row-long c.self.inside.areas c.area_of.result (area_index p.kind) p.index c.index-self-area_of.result c.area_of.ensures low s0.within_row

pub overflow_sub-addr : goal.overflow_sub-addr
overflow_sub-addr c =
    let m : Memory = record { table = c.self.inside.table; blocks = lists c.self.inside.areas } in
    let p = c.in-Some.place in
    let s1 : (was : Lists) × Stands m c.args.addr c.args.n p was = stands m c.args.addr c.args.n p c.self.invariant (subst (λ (k : ℕ). IsPlace p.kind (of_kind p.kind m.table) c.args.addr k p) c.from.ensures c.in-Some.ensures) in
    let s0 : Stands m c.args.addr c.args.n p s1.0 = s1.1 in
    let low : area_index p.kind < length (lists c.self.inside.areas) = omega (arith, c.self.invariant.three, index-low p.kind) in
    omega (arith, s0.low, s0.base_is)

pub put_number-requires-clause-within : goal.put_number-requires-clause-within
put_number-requires-clause-within c =
    let m : Memory = record { table = c.self.inside.table; blocks = lists c.self.inside.areas } in
    let p = c.in-Some.place in
    let s1 : (was : Lists) × Stands m c.args.addr c.args.n p was = stands m c.args.addr c.args.n p c.self.invariant (subst (λ (k : ℕ). IsPlace p.kind (of_kind p.kind m.table) c.args.addr k p) c.from.ensures c.in-Some.ensures) in
    let s0 : Stands m c.args.addr c.args.n p s1.0 = s1.1 in
    let low : area_index p.kind < length (lists c.self.inside.areas) = omega (arith, c.self.invariant.three, index-low p.kind) in
    let at = block-read c.self.inside.areas c.area_of.result p.index (area_index p.kind) c.index-self-area_of.result c.index_mut.result.now c.area_of.ensures low s0.within_row c.index_mut.ensures.value in
    let s : Stands m c.args.addr c.args.n p c.in-Some-index_mut.block = held-block m c.args.addr c.args.n p s1.0 s0 c.in-Some-index_mut.block (sym at ∙ c.in-Some-index_mut.is) in
    omega (arith, s.low, s.base_is, s.high, s.whole.bytes)

pub put_number-requires-clause-small : goal.put_number-requires-clause-small
put_number-requires-clause-small c =
    let m : Memory = record { table = c.self.inside.table; blocks = lists c.self.inside.areas } in
    let p = c.in-Some.place in
    let s1 : (was : Lists) × Stands m c.args.addr c.args.n p was = stands m c.args.addr c.args.n p c.self.invariant (subst (λ (k : ℕ). IsPlace p.kind (of_kind p.kind m.table) c.args.addr k p) c.from.ensures c.in-Some.ensures) in
    let s0 : Stands m c.args.addr c.args.n p s1.0 = s1.1 in
    let low : area_index p.kind < length (lists c.self.inside.areas) = omega (arith, c.self.invariant.three, index-low p.kind) in
    let at = block-read c.self.inside.areas c.area_of.result p.index (area_index p.kind) c.index-self-area_of.result c.index_mut.result.now c.area_of.ensures low s0.within_row c.index_mut.ensures.value in
    let s : Stands m c.args.addr c.args.n p c.in-Some-index_mut.block = held-block m c.args.addr c.args.n p s1.0 s0 c.in-Some-index_mut.block (sym at ∙ c.in-Some-index_mut.is) in
    omega (arith, s.low, s.high, s.base_is, s.size)

pub put_number-requires-clause-whole : goal.put_number-requires-clause-whole
put_number-requires-clause-whole c =
    let m : Memory = record { table = c.self.inside.table; blocks = lists c.self.inside.areas } in
    let p = c.in-Some.place in
    let s1 : (was : Lists) × Stands m c.args.addr c.args.n p was = stands m c.args.addr c.args.n p c.self.invariant (subst (λ (k : ℕ). IsPlace p.kind (of_kind p.kind m.table) c.args.addr k p) c.from.ensures c.in-Some.ensures) in
    let s0 : Stands m c.args.addr c.args.n p s1.0 = s1.1 in
    let low : area_index p.kind < length (lists c.self.inside.areas) = omega (arith, c.self.invariant.three, index-low p.kind) in
    let at = block-read c.self.inside.areas c.area_of.result p.index (area_index p.kind) c.index-self-area_of.result c.index_mut.result.now c.area_of.ensures low s0.within_row c.index_mut.ensures.value in
    let s : Stands m c.args.addr c.args.n p c.in-Some-index_mut.block = held-block m c.args.addr c.args.n p s1.0 s0 c.in-Some-index_mut.block (sym at ∙ c.in-Some-index_mut.is) in
    subst (λ (k : ℕ). IsLists k c.in-Some-index_mut.block) (sym s.whole.bytes) s.whole

written : (c : goal.Joined-index_mut) → PartWritten c.args.part c.args.self.now (the_view c.match-index_mut.self-inside) c.args.addr c.args.n (byte_of c.args.v)
written c =
    let m : Memory = record { table = c.self.inside.table; blocks = lists c.self.inside.areas } in
    let p = c.in-Some.place in
    let s1 : (was : Lists) × Stands m c.args.addr c.args.n p was = stands m c.args.addr c.args.n p c.self.invariant (subst (λ (k : ℕ). IsPlace p.kind (of_kind p.kind m.table) c.args.addr k p) c.from.ensures c.in-Some.ensures) in
    let s0 : Stands m c.args.addr c.args.n p s1.0 = s1.1 in
    let low : area_index p.kind < length (lists c.self.inside.areas) = omega (arith, c.self.invariant.three, index-low p.kind) in
    let at = block-read c.self.inside.areas c.area_of.result p.index (area_index p.kind) c.index-self-area_of.result c.index_mut.result.now c.area_of.ensures low s0.within_row c.index_mut.ensures.value in
    elim c.match-index_mut.branch [
      | in-Some-index_mut w ↦
          let s : Stands m c.args.addr c.args.n p w.in-Some-index_mut.block = held-block m c.args.addr c.args.n p s1.0 s0 w.in-Some-index_mut.block (sym at ∙ w.in-Some-index_mut.is) in
          let done = part-written c.args.part m c.args.addr c.args.n (byte_of c.args.v) p w.in-Some-index_mut.block s w.put_number.new.block c.self.invariant w.put_number.ensures.others w.put_number.ensures.shown in
          let same : the_view c.match-index_mut.self-inside ≡ with_block m p.kind p.index (Some w.put_number.new.block) =
          ap the_view w.self-inside-is ∙ ap (λ (bs : List (List (Option Lists))). record { table = c.self.inside.table; blocks = bs }) (blocks-put c.self.inside.areas c.area_of.result (area_index p.kind) p.index c.index-self-area_of.result (with_item (get_or c.self.inside.areas c.area_of.result c.index-self-area_of.result) p.index (Some w.put_number.new.block)) (Some w.put_number.new.block) c.area_of.ensures low refl) in
          subst (λ (q : Memory). PartWritten c.args.part q (the_view c.match-index_mut.self-inside) c.args.addr c.args.n (byte_of c.args.v)) c.self.view_is
          (subst (λ (q : Memory). PartWritten c.args.part m q c.args.addr c.args.n (byte_of c.args.v)) (sym same) done)
      | in-None w ↦ absurd (never-none m c.args.addr c.args.n p s1.0 s0 (sym at ∙ w.in-None.is))
    ]

pub invariant_of-self : goal.invariant_of-self
invariant_of-self c = (written c).memory

pub returns-clause-good : goal.returns-clause-good
returns-clause-good c =
    let p = c.in-Some.place in
    let good : is_good c.args.addr c.args.n c.self.inside.table ≡ true =
    placed-good p c.self.inside.table c.args.addr c.args.n (omega (arith, c.if-n-eq0.false)) (subst (λ (k : ℕ). IsPlace p.kind (of_kind p.kind c.self.inside.table) c.args.addr k p) c.from.ensures c.in-Some.ensures) in
    sym (subst (λ (q : Memory). is_good c.args.addr c.args.n q.table ≡ true) c.self.view_is good)

pub returns-clause-shown : goal.returns-clause-shown
returns-clause-shown c = (written c).shown_is

pub returns-clause-rest : goal.returns-clause-rest
returns-clause-rest c = (written c).rest_is

pub returns-clause-origins : goal.returns-clause-origins
returns-clause-origins c = (written c).origins_is
