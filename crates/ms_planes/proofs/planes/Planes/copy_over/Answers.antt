use Rattle.std.proofs.Common.{◌≡◌, ℕ, ◌+◌, ◌-◌, ◌<◌, ◌≤◌, length, get_or, set, refl, sym, ap, ◌∙◌, subst, arith, List, Option, Some, None, []}
use Rattle.std.specs.Vec.{with_item}
use Rattle.ms_raw.specs.Blocks.{Lists, IsLists}
use Rattle.ms_planes.specs.Memory.{Memory, lists, area_index}
use Rattle.std.specs.Prelude.{Vec}
use Rattle.std.specs.Global.{Global}
use Rattle.ms_planes.proofs.Histories.{memory_of}
use Rattle.ms_planes.proofs.Standing.{Stands, stands, index-low, block-read, blocks-put, row-long}
use Rattle.ms_planes.proofs.planes.Planes.copy_over.Goals as goal
use Rattle.std.proofs.Common.{IfSome}
use Rattle.std.proofs.lemmas.List.{length-set}
use Rattle.ms_alloc.specs.Places.{IsPlace}
use Rattle.ms_alloc.specs.Allocations.{of_kind}
use Rattle.ms_planes.specs.Blocks.{IsCopiedInto}
use Rattle.ms_planes.proofs.Copied.{CopyDone, copy-done, put, put-row, put-other, put-back, into-some}

pub index_mut-requires : goal.index_mut-requires
index_mut-requires c =
    let m : Memory = record { table = c.self.inside.table; blocks = lists c.self.inside.areas } in
    let t = c.args.target in
    let q = c.args.source in
    let a : ℕ = area_index t.kind in
    let b : ℕ = area_index q.kind in
    let B : List (List (Option Lists)) = lists c.self.inside.areas in
    let la : a < length B = omega (arith, c.self.invariant.three, index-low t.kind) in
    let lb : b < length B = omega (arith, c.self.invariant.three, index-low q.kind) in
    let to1 : (was : Lists) × Stands m c.args.to c.args.n t was = stands m c.args.to c.args.n t c.self.invariant (subst (λ (v : Memory). IsPlace t.kind (of_kind t.kind v.table) c.args.to c.args.n t) (sym c.self.view_is) c.requires.to) in
    let to0 : Stands m c.args.to c.args.n t to1.0 = to1.1 in
    let from1 : (was : Lists) × Stands m c.args.from c.args.n q was = stands m c.args.from c.args.n q c.self.invariant (subst (λ (v : Memory). IsPlace q.kind (of_kind q.kind v.table) c.args.from c.args.n q) (sym c.self.view_is) c.requires.from) in
    let from0 : Stands m c.args.from c.args.n q from1.0 = from1.1 in
    row-long c.self.inside.areas c.area_of.result b q.index c.index-self-area_of.result c.area_of.ensures lb from0.within_row

pub index_mut-block-requires : goal.index_mut-block-requires
index_mut-block-requires c =
    let m : Memory = record { table = c.self.inside.table; blocks = lists c.self.inside.areas } in
    let t = c.args.target in
    let q = c.args.source in
    let a : ℕ = area_index t.kind in
    let b : ℕ = area_index q.kind in
    let B : List (List (Option Lists)) = lists c.self.inside.areas in
    let la : a < length B = omega (arith, c.self.invariant.three, index-low t.kind) in
    let lb : b < length B = omega (arith, c.self.invariant.three, index-low q.kind) in
    let to1 : (was : Lists) × Stands m c.args.to c.args.n t was = stands m c.args.to c.args.n t c.self.invariant (subst (λ (v : Memory). IsPlace t.kind (of_kind t.kind v.table) c.args.to c.args.n t) (sym c.self.view_is) c.requires.to) in
    let to0 : Stands m c.args.to c.args.n t to1.0 = to1.1 in
    let from1 : (was : Lists) × Stands m c.args.from c.args.n q was = stands m c.args.from c.args.n q c.self.invariant (subst (λ (v : Memory). IsPlace q.kind (of_kind q.kind v.table) c.args.from c.args.n q) (sym c.self.view_is) c.requires.from) in
    let from0 : Stands m c.args.from c.args.n q from1.0 = from1.1 in
    let areas1 = set c.self.inside.areas c.area_of.result (with_item (get_or c.self.inside.areas c.area_of.result c.index-self-area_of.result) q.index c.take-taken.new.self) in
    let e1 : lists areas1 ≡ put B b q.index None =
    blocks-put c.self.inside.areas c.area_of.result b q.index c.index-self-area_of.result (with_item (get_or c.self.inside.areas c.area_of.result c.index-self-area_of.result) q.index c.take-taken.new.self) c.take-taken.new.self c.area_of.ensures lb refl
    ∙ ap (λ (x : Option Lists). put B b q.index x) c.take-taken.ensures.after in
    let long1 : length (lists areas1) ≡ length B = ap (λ (bs : List (List (Option Lists))). length bs) e1 ∙ length-set B b (set (get_or B b []) q.index None) in
    let la1 : a < length (lists areas1) = omega (arith, la, long1) in
    let row1 : t.index < length (get_or (lists areas1) a []) = omega (arith, to0.within_row, ap (λ (bs : List (List (Option Lists))). length (get_or bs a [])) e1, put-row B b a q.index None lb) in
    row-long areas1 c.area_of-2.result a t.index c.index-self-area_of-2.result c.area_of-2.ensures la1 row1

pub overflow_sub-to : goal.overflow_sub-to
overflow_sub-to c =
    let m : Memory = record { table = c.self.inside.table; blocks = lists c.self.inside.areas } in
    let t = c.args.target in
    let q = c.args.source in
    let a : ℕ = area_index t.kind in
    let b : ℕ = area_index q.kind in
    let B : List (List (Option Lists)) = lists c.self.inside.areas in
    let la : a < length B = omega (arith, c.self.invariant.three, index-low t.kind) in
    let lb : b < length B = omega (arith, c.self.invariant.three, index-low q.kind) in
    let to1 : (was : Lists) × Stands m c.args.to c.args.n t was = stands m c.args.to c.args.n t c.self.invariant (subst (λ (v : Memory). IsPlace t.kind (of_kind t.kind v.table) c.args.to c.args.n t) (sym c.self.view_is) c.requires.to) in
    let to0 : Stands m c.args.to c.args.n t to1.0 = to1.1 in
    let from1 : (was : Lists) × Stands m c.args.from c.args.n q was = stands m c.args.from c.args.n q c.self.invariant (subst (λ (v : Memory). IsPlace q.kind (of_kind q.kind v.table) c.args.from c.args.n q) (sym c.self.view_is) c.requires.from) in
    let from0 : Stands m c.args.from c.args.n q from1.0 = from1.1 in
    omega (arith, to0.low, to0.base_is)

pub overflow_sub-from : goal.overflow_sub-from
overflow_sub-from c =
    let m : Memory = record { table = c.self.inside.table; blocks = lists c.self.inside.areas } in
    let t = c.args.target in
    let q = c.args.source in
    let a : ℕ = area_index t.kind in
    let b : ℕ = area_index q.kind in
    let B : List (List (Option Lists)) = lists c.self.inside.areas in
    let la : a < length B = omega (arith, c.self.invariant.three, index-low t.kind) in
    let lb : b < length B = omega (arith, c.self.invariant.three, index-low q.kind) in
    let to1 : (was : Lists) × Stands m c.args.to c.args.n t was = stands m c.args.to c.args.n t c.self.invariant (subst (λ (v : Memory). IsPlace t.kind (of_kind t.kind v.table) c.args.to c.args.n t) (sym c.self.view_is) c.requires.to) in
    let to0 : Stands m c.args.to c.args.n t to1.0 = to1.1 in
    let from1 : (was : Lists) × Stands m c.args.from c.args.n q was = stands m c.args.from c.args.n q c.self.invariant (subst (λ (v : Memory). IsPlace q.kind (of_kind q.kind v.table) c.args.from c.args.n q) (sym c.self.view_is) c.requires.from) in
    let from0 : Stands m c.args.from c.args.n q from1.0 = from1.1 in
    omega (arith, from0.low, from0.base_is)

pub copy_into-requires-clause-to : goal.copy_into-requires-clause-to
copy_into-requires-clause-to c =
    let m : Memory = record { table = c.self.inside.table; blocks = lists c.self.inside.areas } in
    let t = c.args.target in
    let q = c.args.source in
    let a : ℕ = area_index t.kind in
    let b : ℕ = area_index q.kind in
    let B : List (List (Option Lists)) = lists c.self.inside.areas in
    let la : a < length B = omega (arith, c.self.invariant.three, index-low t.kind) in
    let lb : b < length B = omega (arith, c.self.invariant.three, index-low q.kind) in
    let to1 : (was : Lists) × Stands m c.args.to c.args.n t was = stands m c.args.to c.args.n t c.self.invariant (subst (λ (v : Memory). IsPlace t.kind (of_kind t.kind v.table) c.args.to c.args.n t) (sym c.self.view_is) c.requires.to) in
    let to0 : Stands m c.args.to c.args.n t to1.0 = to1.1 in
    let from1 : (was : Lists) × Stands m c.args.from c.args.n q was = stands m c.args.from c.args.n q c.self.invariant (subst (λ (v : Memory). IsPlace q.kind (of_kind q.kind v.table) c.args.from c.args.n q) (sym c.self.view_is) c.requires.from) in
    let from0 : Stands m c.args.from c.args.n q from1.0 = from1.1 in
    let areas1 = set c.self.inside.areas c.area_of.result (with_item (get_or c.self.inside.areas c.area_of.result c.index-self-area_of.result) q.index c.take-taken.new.self) in
    let e1 : lists areas1 ≡ put B b q.index None =
    blocks-put c.self.inside.areas c.area_of.result b q.index c.index-self-area_of.result (with_item (get_or c.self.inside.areas c.area_of.result c.index-self-area_of.result) q.index c.take-taken.new.self) c.take-taken.new.self c.area_of.ensures lb refl
    ∙ ap (λ (x : Option Lists). put B b q.index x) c.take-taken.ensures.after in
    let long1 : length (lists areas1) ≡ length B = ap (λ (bs : List (List (Option Lists))). length bs) e1 ∙ length-set B b (set (get_or B b []) q.index None) in
    let la1 : a < length (lists areas1) = omega (arith, la, long1) in
    let row1 : t.index < length (get_or (lists areas1) a []) = omega (arith, to0.within_row, ap (λ (bs : List (List (Option Lists))). length (get_or bs a [])) e1, put-row B b a q.index None lb) in
    let taken : c.take-taken.result ≡ Some from1.0 =
    c.take-taken.ensures.value ∙ block-read c.self.inside.areas c.area_of.result q.index b c.index-self-area_of.result c.index_mut.result.now c.area_of.ensures lb from0.within_row c.index_mut.ensures.value ∙ from0.block in
    let slot : c.index_mut-block.result.now ≡ Some to1.0 =
    block-read areas1 c.area_of-2.result t.index a c.index-self-area_of-2.result c.index_mut-block.result.now c.area_of-2.ensures la1 row1 c.index_mut-block.ensures.value
    ∙ ap (λ (bs : List (List (Option Lists))). get_or (get_or bs a []) t.index None) e1 ∙ put-other B b a q.index t.index None lb (λ e. c.requires.apart e) ∙ to0.block in
    subst (λ (x : Option Lists). IfSome x (λ l. c.args.to - t.base + c.args.n ≤ length l.bytes)) (sym slot) (omega (arith, to0.low, to0.base_is, to0.high, to0.whole.bytes))

pub copy_into-requires-clause-from : goal.copy_into-requires-clause-from
copy_into-requires-clause-from c =
    let m : Memory = record { table = c.self.inside.table; blocks = lists c.self.inside.areas } in
    let t = c.args.target in
    let q = c.args.source in
    let a : ℕ = area_index t.kind in
    let b : ℕ = area_index q.kind in
    let B : List (List (Option Lists)) = lists c.self.inside.areas in
    let la : a < length B = omega (arith, c.self.invariant.three, index-low t.kind) in
    let lb : b < length B = omega (arith, c.self.invariant.three, index-low q.kind) in
    let to1 : (was : Lists) × Stands m c.args.to c.args.n t was = stands m c.args.to c.args.n t c.self.invariant (subst (λ (v : Memory). IsPlace t.kind (of_kind t.kind v.table) c.args.to c.args.n t) (sym c.self.view_is) c.requires.to) in
    let to0 : Stands m c.args.to c.args.n t to1.0 = to1.1 in
    let from1 : (was : Lists) × Stands m c.args.from c.args.n q was = stands m c.args.from c.args.n q c.self.invariant (subst (λ (v : Memory). IsPlace q.kind (of_kind q.kind v.table) c.args.from c.args.n q) (sym c.self.view_is) c.requires.from) in
    let from0 : Stands m c.args.from c.args.n q from1.0 = from1.1 in
    let areas1 = set c.self.inside.areas c.area_of.result (with_item (get_or c.self.inside.areas c.area_of.result c.index-self-area_of.result) q.index c.take-taken.new.self) in
    let e1 : lists areas1 ≡ put B b q.index None =
    blocks-put c.self.inside.areas c.area_of.result b q.index c.index-self-area_of.result (with_item (get_or c.self.inside.areas c.area_of.result c.index-self-area_of.result) q.index c.take-taken.new.self) c.take-taken.new.self c.area_of.ensures lb refl
    ∙ ap (λ (x : Option Lists). put B b q.index x) c.take-taken.ensures.after in
    let long1 : length (lists areas1) ≡ length B = ap (λ (bs : List (List (Option Lists))). length bs) e1 ∙ length-set B b (set (get_or B b []) q.index None) in
    let la1 : a < length (lists areas1) = omega (arith, la, long1) in
    let row1 : t.index < length (get_or (lists areas1) a []) = omega (arith, to0.within_row, ap (λ (bs : List (List (Option Lists))). length (get_or bs a [])) e1, put-row B b a q.index None lb) in
    let taken : c.take-taken.result ≡ Some from1.0 =
    c.take-taken.ensures.value ∙ block-read c.self.inside.areas c.area_of.result q.index b c.index-self-area_of.result c.index_mut.result.now c.area_of.ensures lb from0.within_row c.index_mut.ensures.value ∙ from0.block in
    let slot : c.index_mut-block.result.now ≡ Some to1.0 =
    block-read areas1 c.area_of-2.result t.index a c.index-self-area_of-2.result c.index_mut-block.result.now c.area_of-2.ensures la1 row1 c.index_mut-block.ensures.value
    ∙ ap (λ (bs : List (List (Option Lists))). get_or (get_or bs a []) t.index None) e1 ∙ put-other B b a q.index t.index None lb (λ e. c.requires.apart e) ∙ to0.block in
    subst (λ (x : Option Lists). IfSome x (λ l. c.args.from - q.base + c.args.n ≤ length l.bytes)) (sym taken) (omega (arith, from0.low, from0.base_is, from0.high, from0.whole.bytes))

pub copy_into-requires-clause-whole : goal.copy_into-requires-clause-whole
copy_into-requires-clause-whole c =
    let m : Memory = record { table = c.self.inside.table; blocks = lists c.self.inside.areas } in
    let t = c.args.target in
    let q = c.args.source in
    let a : ℕ = area_index t.kind in
    let b : ℕ = area_index q.kind in
    let B : List (List (Option Lists)) = lists c.self.inside.areas in
    let la : a < length B = omega (arith, c.self.invariant.three, index-low t.kind) in
    let lb : b < length B = omega (arith, c.self.invariant.three, index-low q.kind) in
    let to1 : (was : Lists) × Stands m c.args.to c.args.n t was = stands m c.args.to c.args.n t c.self.invariant (subst (λ (v : Memory). IsPlace t.kind (of_kind t.kind v.table) c.args.to c.args.n t) (sym c.self.view_is) c.requires.to) in
    let to0 : Stands m c.args.to c.args.n t to1.0 = to1.1 in
    let from1 : (was : Lists) × Stands m c.args.from c.args.n q was = stands m c.args.from c.args.n q c.self.invariant (subst (λ (v : Memory). IsPlace q.kind (of_kind q.kind v.table) c.args.from c.args.n q) (sym c.self.view_is) c.requires.from) in
    let from0 : Stands m c.args.from c.args.n q from1.0 = from1.1 in
    let areas1 = set c.self.inside.areas c.area_of.result (with_item (get_or c.self.inside.areas c.area_of.result c.index-self-area_of.result) q.index c.take-taken.new.self) in
    let e1 : lists areas1 ≡ put B b q.index None =
    blocks-put c.self.inside.areas c.area_of.result b q.index c.index-self-area_of.result (with_item (get_or c.self.inside.areas c.area_of.result c.index-self-area_of.result) q.index c.take-taken.new.self) c.take-taken.new.self c.area_of.ensures lb refl
    ∙ ap (λ (x : Option Lists). put B b q.index x) c.take-taken.ensures.after in
    let long1 : length (lists areas1) ≡ length B = ap (λ (bs : List (List (Option Lists))). length bs) e1 ∙ length-set B b (set (get_or B b []) q.index None) in
    let la1 : a < length (lists areas1) = omega (arith, la, long1) in
    let row1 : t.index < length (get_or (lists areas1) a []) = omega (arith, to0.within_row, ap (λ (bs : List (List (Option Lists))). length (get_or bs a [])) e1, put-row B b a q.index None lb) in
    let taken : c.take-taken.result ≡ Some from1.0 =
    c.take-taken.ensures.value ∙ block-read c.self.inside.areas c.area_of.result q.index b c.index-self-area_of.result c.index_mut.result.now c.area_of.ensures lb from0.within_row c.index_mut.ensures.value ∙ from0.block in
    let slot : c.index_mut-block.result.now ≡ Some to1.0 =
    block-read areas1 c.area_of-2.result t.index a c.index-self-area_of-2.result c.index_mut-block.result.now c.area_of-2.ensures la1 row1 c.index_mut-block.ensures.value
    ∙ ap (λ (bs : List (List (Option Lists))). get_or (get_or bs a []) t.index None) e1 ∙ put-other B b a q.index t.index None lb (λ e. c.requires.apart e) ∙ to0.block in
    subst (λ (x : Option Lists). IfSome x (λ l. IsLists (length l.bytes) l)) (sym slot) (subst (λ (k : ℕ). IsLists k to1.0) (sym to0.whole.bytes) to0.whole)

pub copy_into-requires-clause-small : goal.copy_into-requires-clause-small
copy_into-requires-clause-small c =
    let m : Memory = record { table = c.self.inside.table; blocks = lists c.self.inside.areas } in
    let t = c.args.target in
    let q = c.args.source in
    let a : ℕ = area_index t.kind in
    let b : ℕ = area_index q.kind in
    let B : List (List (Option Lists)) = lists c.self.inside.areas in
    let la : a < length B = omega (arith, c.self.invariant.three, index-low t.kind) in
    let lb : b < length B = omega (arith, c.self.invariant.three, index-low q.kind) in
    let to1 : (was : Lists) × Stands m c.args.to c.args.n t was = stands m c.args.to c.args.n t c.self.invariant (subst (λ (v : Memory). IsPlace t.kind (of_kind t.kind v.table) c.args.to c.args.n t) (sym c.self.view_is) c.requires.to) in
    let to0 : Stands m c.args.to c.args.n t to1.0 = to1.1 in
    let from1 : (was : Lists) × Stands m c.args.from c.args.n q was = stands m c.args.from c.args.n q c.self.invariant (subst (λ (v : Memory). IsPlace q.kind (of_kind q.kind v.table) c.args.from c.args.n q) (sym c.self.view_is) c.requires.from) in
    let from0 : Stands m c.args.from c.args.n q from1.0 = from1.1 in
    (omega (arith, to0.low, to0.high, to0.base_is, to0.size), omega (arith, from0.low, from0.high, from0.base_is, from0.size))

pub index_mut-requires-2 : goal.index_mut-requires-2
index_mut-requires-2 c =
    let m : Memory = record { table = c.self.inside.table; blocks = lists c.self.inside.areas } in
    let t = c.args.target in
    let q = c.args.source in
    let a : ℕ = area_index t.kind in
    let b : ℕ = area_index q.kind in
    let B : List (List (Option Lists)) = lists c.self.inside.areas in
    let la : a < length B = omega (arith, c.self.invariant.three, index-low t.kind) in
    let lb : b < length B = omega (arith, c.self.invariant.three, index-low q.kind) in
    let to1 : (was : Lists) × Stands m c.args.to c.args.n t was = stands m c.args.to c.args.n t c.self.invariant (subst (λ (v : Memory). IsPlace t.kind (of_kind t.kind v.table) c.args.to c.args.n t) (sym c.self.view_is) c.requires.to) in
    let to0 : Stands m c.args.to c.args.n t to1.0 = to1.1 in
    let from1 : (was : Lists) × Stands m c.args.from c.args.n q was = stands m c.args.from c.args.n q c.self.invariant (subst (λ (v : Memory). IsPlace q.kind (of_kind q.kind v.table) c.args.from c.args.n q) (sym c.self.view_is) c.requires.from) in
    let from0 : Stands m c.args.from c.args.n q from1.0 = from1.1 in
    let areas1 = set c.self.inside.areas c.area_of.result (with_item (get_or c.self.inside.areas c.area_of.result c.index-self-area_of.result) q.index c.take-taken.new.self) in
    let e1 : lists areas1 ≡ put B b q.index None =
    blocks-put c.self.inside.areas c.area_of.result b q.index c.index-self-area_of.result (with_item (get_or c.self.inside.areas c.area_of.result c.index-self-area_of.result) q.index c.take-taken.new.self) c.take-taken.new.self c.area_of.ensures lb refl
    ∙ ap (λ (x : Option Lists). put B b q.index x) c.take-taken.ensures.after in
    let long1 : length (lists areas1) ≡ length B = ap (λ (bs : List (List (Option Lists))). length bs) e1 ∙ length-set B b (set (get_or B b []) q.index None) in
    let la1 : a < length (lists areas1) = omega (arith, la, long1) in
    let row1 : t.index < length (get_or (lists areas1) a []) = omega (arith, to0.within_row, ap (λ (bs : List (List (Option Lists))). length (get_or bs a [])) e1, put-row B b a q.index None lb) in
    let areas2 = set areas1 c.area_of-2.result (with_item (get_or areas1 c.area_of-2.result c.index-self-area_of-2.result) t.index c.copy_into.new.slot) in
    let e2 : lists areas2 ≡ put (put B b q.index None) a t.index c.copy_into.new.slot =
    blocks-put areas1 c.area_of-2.result a t.index c.index-self-area_of-2.result (with_item (get_or areas1 c.area_of-2.result c.index-self-area_of-2.result) t.index c.copy_into.new.slot) c.copy_into.new.slot c.area_of-2.ensures la1 refl
    ∙ ap (λ (bs : List (List (Option Lists))). put bs a t.index c.copy_into.new.slot) e1 in
    let long2 : length (lists areas2) ≡ length B = ap (λ (bs : List (List (Option Lists))). length bs) e2 ∙ length-set (put B b q.index None) a (set (get_or (put B b q.index None) a []) t.index c.copy_into.new.slot) ∙ length-set B b (set (get_or B b []) q.index None) in
    let lb2 : b < length (lists areas2) = omega (arith, lb, long2) in
    let lap : a < length (put B b q.index None) = omega (arith, la, length-set B b (set (get_or B b []) q.index None)) in
    let row2 : q.index < length (get_or (lists areas2) b []) = omega (arith, from0.within_row, ap (λ (bs : List (List (Option Lists))). length (get_or bs b [])) e2, put-row (put B b q.index None) a b t.index c.copy_into.new.slot lap, put-row B b b q.index None lb) in
    row-long areas2 c.area_of-3.result b q.index c.index-self-area_of-3.result c.area_of-3.ensures lb2 row2

abbrev first : (c : goal.After-self-3-1) → List (Vec (Option Lists) Global)
first c = set c.self.inside.areas c.area_of.result (with_item (get_or c.self.inside.areas c.area_of.result c.index-self-area_of.result) c.args.source.index c.take-taken.new.self)

abbrev second : (c : goal.After-self-3-1) → List (Vec (Option Lists) Global)
second c = set (first c) c.area_of-2.result (with_item (get_or (first c) c.area_of-2.result c.index-self-area_of-2.result) c.args.target.index c.copy_into.new.slot)

abbrev third : (c : goal.After-self-3-1) → List (Vec (Option Lists) Global)
third c = set (second c) c.area_of-3.result (with_item (get_or (second c) c.area_of-3.result c.index-self-area_of-3.result) c.args.source.index c.put_back.new.slot)

written : (c : goal.After-self-3-1) → CopyDone c.args.part c.args.self.now (memory_of c.self.inside.table (lists (third c))) c.args.to c.args.from c.args.n
written c =
    let m : Memory = record { table = c.self.inside.table; blocks = lists c.self.inside.areas } in
    let t = c.args.target in
    let q = c.args.source in
    let a : ℕ = area_index t.kind in
    let b : ℕ = area_index q.kind in
    let B : List (List (Option Lists)) = lists c.self.inside.areas in
    let la : a < length B = omega (arith, c.self.invariant.three, index-low t.kind) in
    let lb : b < length B = omega (arith, c.self.invariant.three, index-low q.kind) in
    let to1 : (was : Lists) × Stands m c.args.to c.args.n t was = stands m c.args.to c.args.n t c.self.invariant (subst (λ (v : Memory). IsPlace t.kind (of_kind t.kind v.table) c.args.to c.args.n t) (sym c.self.view_is) c.requires.to) in
    let to0 : Stands m c.args.to c.args.n t to1.0 = to1.1 in
    let from1 : (was : Lists) × Stands m c.args.from c.args.n q was = stands m c.args.from c.args.n q c.self.invariant (subst (λ (v : Memory). IsPlace q.kind (of_kind q.kind v.table) c.args.from c.args.n q) (sym c.self.view_is) c.requires.from) in
    let from0 : Stands m c.args.from c.args.n q from1.0 = from1.1 in
    let areas1 = set c.self.inside.areas c.area_of.result (with_item (get_or c.self.inside.areas c.area_of.result c.index-self-area_of.result) q.index c.take-taken.new.self) in
    let e1 : lists areas1 ≡ put B b q.index None =
    blocks-put c.self.inside.areas c.area_of.result b q.index c.index-self-area_of.result (with_item (get_or c.self.inside.areas c.area_of.result c.index-self-area_of.result) q.index c.take-taken.new.self) c.take-taken.new.self c.area_of.ensures lb refl
    ∙ ap (λ (x : Option Lists). put B b q.index x) c.take-taken.ensures.after in
    let long1 : length (lists areas1) ≡ length B = ap (λ (bs : List (List (Option Lists))). length bs) e1 ∙ length-set B b (set (get_or B b []) q.index None) in
    let la1 : a < length (lists areas1) = omega (arith, la, long1) in
    let row1 : t.index < length (get_or (lists areas1) a []) = omega (arith, to0.within_row, ap (λ (bs : List (List (Option Lists))). length (get_or bs a [])) e1, put-row B b a q.index None lb) in
    let taken : c.take-taken.result ≡ Some from1.0 =
    c.take-taken.ensures.value ∙ block-read c.self.inside.areas c.area_of.result q.index b c.index-self-area_of.result c.index_mut.result.now c.area_of.ensures lb from0.within_row c.index_mut.ensures.value ∙ from0.block in
    let slot : c.index_mut-block.result.now ≡ Some to1.0 =
    block-read areas1 c.area_of-2.result t.index a c.index-self-area_of-2.result c.index_mut-block.result.now c.area_of-2.ensures la1 row1 c.index_mut-block.ensures.value
    ∙ ap (λ (bs : List (List (Option Lists))). get_or (get_or bs a []) t.index None) e1 ∙ put-other B b a q.index t.index None lb (λ e. c.requires.apart e) ∙ to0.block in
    let areas2 = set areas1 c.area_of-2.result (with_item (get_or areas1 c.area_of-2.result c.index-self-area_of-2.result) t.index c.copy_into.new.slot) in
    let e2 : lists areas2 ≡ put (put B b q.index None) a t.index c.copy_into.new.slot =
    blocks-put areas1 c.area_of-2.result a t.index c.index-self-area_of-2.result (with_item (get_or areas1 c.area_of-2.result c.index-self-area_of-2.result) t.index c.copy_into.new.slot) c.copy_into.new.slot c.area_of-2.ensures la1 refl
    ∙ ap (λ (bs : List (List (Option Lists))). put bs a t.index c.copy_into.new.slot) e1 in
    let long2 : length (lists areas2) ≡ length B = ap (λ (bs : List (List (Option Lists))). length bs) e2 ∙ length-set (put B b q.index None) a (set (get_or (put B b q.index None) a []) t.index c.copy_into.new.slot) ∙ length-set B b (set (get_or B b []) q.index None) in
    let lb2 : b < length (lists areas2) = omega (arith, lb, long2) in
    let lap : a < length (put B b q.index None) = omega (arith, la, length-set B b (set (get_or B b []) q.index None)) in
    let row2 : q.index < length (get_or (lists areas2) b []) = omega (arith, from0.within_row, ap (λ (bs : List (List (Option Lists))). length (get_or bs b [])) e2, put-row (put B b q.index None) a b t.index c.copy_into.new.slot lap, put-row B b b q.index None lb) in
    let v3 = with_item (get_or areas2 c.area_of-3.result c.index-self-area_of-3.result) q.index c.put_back.new.slot in
    let areas3 = set areas2 c.area_of-3.result v3 in
    let copied : IsCopiedInto c.args.part (Some to1.0) (Some from1.0) c.copy_into.new.slot (c.args.to - t.base) (c.args.from - q.base) c.args.n =
    subst (λ (x : Option Lists). IsCopiedInto c.args.part (Some to1.0) x c.copy_into.new.slot (c.args.to - t.base) (c.args.from - q.base) c.args.n) taken
    (subst (λ (x : Option Lists). IsCopiedInto c.args.part x c.take-taken.result c.copy_into.new.slot (c.args.to - t.base) (c.args.from - q.base) c.args.n) slot c.copy_into.ensures) in
    let l = into-some c.args.part to1.0 from1.0 c.copy_into.new.slot (c.args.to - t.base) (c.args.from - q.base) c.args.n copied in
    let back : c.put_back.new.slot ≡ get_or (get_or B b []) q.index None = c.put_back.ensures ∙ taken ∙ sym from0.block in
    let e3 : lists areas3 ≡ put B a t.index (Some l.0) =
    blocks-put areas2 c.area_of-3.result b q.index c.index-self-area_of-3.result v3 c.put_back.new.slot c.area_of-3.ensures lb2 refl
    ∙ ap (λ (bs : List (List (Option Lists))). put bs b q.index c.put_back.new.slot) e2
    ∙ ap (λ (x : Option Lists). put (put (put B b q.index None) a t.index c.copy_into.new.slot) b q.index x) back
    ∙ put-back B a b t.index q.index c.copy_into.new.slot la lb from0.within_row (λ e. c.requires.apart e)
    ∙ ap (λ (x : Option Lists). put B a t.index x) l.1 in
    let done = copy-done c.args.part m c.args.to c.args.from c.args.n t q to1.0 from1.0 to0 from0 l.0 c.self.invariant c.requires.some l.2 in
    subst (λ (v : Memory). CopyDone c.args.part v (memory_of c.self.inside.table (lists (third c))) c.args.to c.args.from c.args.n) c.self.view_is
    (subst (λ (v : Memory). CopyDone c.args.part m v c.args.to c.args.from c.args.n) (sym (ap (λ (bs : List (List (Option Lists))). memory_of c.self.inside.table bs) e3)) done)

pub invariant_of-self : goal.invariant_of-self
invariant_of-self c = (written c).memory

pub returns-clause-copied : goal.returns-clause-copied
returns-clause-copied c = (written c).maps
