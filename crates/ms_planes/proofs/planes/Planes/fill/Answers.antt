use Rattle.std.proofs.Common.{◌≡◌, ℕ, ◌+◌, ◌-◌, ◌<◌, ◌≤◌, length, get_or, set, refl, sym, ap, ◌∙◌, subst, arith, List, Option, Some, IfSome}
use Rattle.std.specs.Vec.{with_item}
use Rattle.ms_raw.specs.Blocks.{Lists, IsLists}
use Rattle.ms_planes.specs.Blocks.{IsFilledInto}
use Rattle.ms_planes.specs.Memory.{Memory, lists, area_index}
use Rattle.ms_planes.proofs.Standing.{Stands, stands, PartWritten, part-written, index-low, block-read, blocks-put, row-long, with_block}
use Rattle.ms_planes.proofs.Histories.{memory_of}
use Rattle.ms_planes.proofs.Copied.{filled-some}
use Rattle.ms_planes.proofs.planes.Planes.fill.Goals as goal

pub index_mut-requires : goal.index_mut-requires
index_mut-requires c =
    let m : Memory = record { table = c.self.inside.table; blocks = lists c.self.inside.areas } in
    let p = c.in-Some.place in
    let s1 : (was : Lists) × Stands m c.args.addr c.args.n p was = stands m c.args.addr c.args.n p c.self.invariant c.in-Some.ensures in
    let s0 : Stands m c.args.addr c.args.n p s1.0 = s1.1 in
    let low : area_index p.kind < length (lists c.self.inside.areas) = omega (arith, c.self.invariant.three, index-low p.kind) in
    row-long c.self.inside.areas c.area_of.result (area_index p.kind) p.index c.index-self-area_of.result c.area_of.ensures low s0.within_row

pub overflow_sub-addr : goal.overflow_sub-addr
overflow_sub-addr c =
    let m : Memory = record { table = c.self.inside.table; blocks = lists c.self.inside.areas } in
    let p = c.in-Some.place in
    let s1 : (was : Lists) × Stands m c.args.addr c.args.n p was = stands m c.args.addr c.args.n p c.self.invariant c.in-Some.ensures in
    let s0 : Stands m c.args.addr c.args.n p s1.0 = s1.1 in
    let low : area_index p.kind < length (lists c.self.inside.areas) = omega (arith, c.self.invariant.three, index-low p.kind) in
    omega (arith, s0.low, s0.base_is)

pub fill_into-requires-clause-within : goal.fill_into-requires-clause-within
fill_into-requires-clause-within c =
    let m : Memory = record { table = c.self.inside.table; blocks = lists c.self.inside.areas } in
    let p = c.in-Some.place in
    let s1 : (was : Lists) × Stands m c.args.addr c.args.n p was = stands m c.args.addr c.args.n p c.self.invariant c.in-Some.ensures in
    let s0 : Stands m c.args.addr c.args.n p s1.0 = s1.1 in
    let low : area_index p.kind < length (lists c.self.inside.areas) = omega (arith, c.self.invariant.three, index-low p.kind) in
    let slot : c.index_mut.result.now ≡ Some s1.0 =
    block-read c.self.inside.areas c.area_of.result p.index (area_index p.kind) c.index-self-area_of.result c.index_mut.result.now c.area_of.ensures low s0.within_row c.index_mut.ensures.value ∙ s0.block in
    subst (λ (x : Option Lists). IfSome x (λ l. c.args.addr - p.base + c.args.n ≤ length l.bytes)) (sym slot) (omega (arith, s0.low, s0.base_is, s0.high, s0.whole.bytes))

pub fill_into-requires-clause-small : goal.fill_into-requires-clause-small
fill_into-requires-clause-small c =
    let m : Memory = record { table = c.self.inside.table; blocks = lists c.self.inside.areas } in
    let p = c.in-Some.place in
    let s1 : (was : Lists) × Stands m c.args.addr c.args.n p was = stands m c.args.addr c.args.n p c.self.invariant c.in-Some.ensures in
    let s0 : Stands m c.args.addr c.args.n p s1.0 = s1.1 in
    omega (arith, s0.low, s0.high, s0.base_is, s0.size)

pub fill_into-requires-clause-whole : goal.fill_into-requires-clause-whole
fill_into-requires-clause-whole c =
    let m : Memory = record { table = c.self.inside.table; blocks = lists c.self.inside.areas } in
    let p = c.in-Some.place in
    let s1 : (was : Lists) × Stands m c.args.addr c.args.n p was = stands m c.args.addr c.args.n p c.self.invariant c.in-Some.ensures in
    let s0 : Stands m c.args.addr c.args.n p s1.0 = s1.1 in
    let low : area_index p.kind < length (lists c.self.inside.areas) = omega (arith, c.self.invariant.three, index-low p.kind) in
    let slot : c.index_mut.result.now ≡ Some s1.0 =
    block-read c.self.inside.areas c.area_of.result p.index (area_index p.kind) c.index-self-area_of.result c.index_mut.result.now c.area_of.ensures low s0.within_row c.index_mut.ensures.value ∙ s0.block in
    subst (λ (x : Option Lists). IfSome x (λ l. IsLists (length l.bytes) l)) (sym slot) (subst (λ (k : ℕ). IsLists k s1.0) (sym s0.whole.bytes) s0.whole)

abbrev put_in : (c : goal.After-self-1) → Memory
put_in c = memory_of c.self.inside.table (lists (set c.self.inside.areas c.area_of.result (with_item (get_or c.self.inside.areas c.area_of.result c.index-self-area_of.result) c.in-Some.place.index c.fill_into.new.slot)))

written : (c : goal.After-self-1) → PartWritten c.args.part c.args.self.now (put_in c) c.args.addr c.args.n (λ k. c.args.v)
written c =
    let m : Memory = record { table = c.self.inside.table; blocks = lists c.self.inside.areas } in
    let p = c.in-Some.place in
    let s1 : (was : Lists) × Stands m c.args.addr c.args.n p was = stands m c.args.addr c.args.n p c.self.invariant c.in-Some.ensures in
    let s0 : Stands m c.args.addr c.args.n p s1.0 = s1.1 in
    let low : area_index p.kind < length (lists c.self.inside.areas) = omega (arith, c.self.invariant.three, index-low p.kind) in
    let slot : c.index_mut.result.now ≡ Some s1.0 =
    block-read c.self.inside.areas c.area_of.result p.index (area_index p.kind) c.index-self-area_of.result c.index_mut.result.now c.area_of.ensures low s0.within_row c.index_mut.ensures.value ∙ s0.block in
    let done = filled-some c.args.part s1.0 c.fill_into.new.slot (c.args.addr - p.base) c.args.n c.args.v
    (subst (λ (x : Option Lists). IsFilledInto c.args.part x c.fill_into.new.slot (c.args.addr - p.base) c.args.n c.args.v) slot c.fill_into.ensures) in
    let is = part-written c.args.part m c.args.addr c.args.n (λ k. c.args.v) p s1.0 s0 done.0 c.self.invariant done.2.others done.2.shown in
    let same : put_in c ≡ with_block m p.kind p.index (Some done.0) =
    ap (λ (bs : List (List (Option Lists))). record { table = c.self.inside.table; blocks = bs }) (blocks-put c.self.inside.areas c.area_of.result (area_index p.kind) p.index c.index-self-area_of.result (with_item (get_or c.self.inside.areas c.area_of.result c.index-self-area_of.result) p.index c.fill_into.new.slot) c.fill_into.new.slot c.area_of.ensures low refl)
    ∙ ap (λ (x : Option Lists). with_block m p.kind p.index x) done.1 in
    subst (λ (q : Memory). PartWritten c.args.part q (put_in c) c.args.addr c.args.n (λ k. c.args.v)) c.self.view_is
    (subst (λ (q : Memory). PartWritten c.args.part m q c.args.addr c.args.n (λ k. c.args.v)) (sym same) is)

pub invariant_of-self : goal.invariant_of-self
invariant_of-self c = (written c).memory

pub returns-clause-shown : goal.returns-clause-shown
returns-clause-shown c = (written c).shown_is

pub returns-clause-rest : goal.returns-clause-rest
returns-clause-rest c = (written c).rest_is

pub returns-clause-origins : goal.returns-clause-origins
returns-clause-origins c = (written c).origins_is
