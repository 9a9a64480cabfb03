-- What is shown at an address that a live allocation has, and what a change of one block shows.
use Rattle.std.proofs.Common.{◌≡◌, ◌≢◌, ℕ, zero, suc, ◌+◌, ◌-◌, ◌*◌, ◌/◌, ◌%◌, ◌^◌, ◌<◌, ◌≤◌, true, false, List, [], ◌∷◌, length, get_or, set, refl, sym, ap, ◌∙◌, subst, arith, ⊎_elim, Option, Some, None, ltb, if◌then◌else◌}
use Rattle.std.specs.Prelude.{Vec}
use Rattle.std.specs.Vec.{vec_len}
use Rattle.std.specs.Global.{Global}
use Rattle.std.proofs.Math.Path.{fun_ext}
use Rattle.std.proofs.lemmas.Bool.{cases_Bool, cases_eq, cases_lt, le-ltb, lt-ltb, and_from, le-leb}
use Rattle.std.proofs.lemmas.List.{get_or-set_same, get_or-set_other, get_or_default, map-set, length-set}
use Rattle.ms_alloc.specs.declared.kinds.AllocKind.{AllocKind}
use Rattle.ms_alloc.specs.declared.kinds.AllocKind.TheVariants.{Fixed, Heap, Stack}
use Rattle.ms_alloc.specs.declared.allocations.Allocation.{Allocation}
use Rattle.ms_alloc.specs.declared.allocations.TablePlace.{TablePlace}
use Rattle.ms_alloc.specs.Layout.{room, area_base, area_limit}
use Rattle.ms_alloc.specs.Allocations.{Allocations, IsArea, IsLaidOut, of_kind, covers}
use Rattle.ms_alloc.specs.Places.{IsPlace}
use Rattle.ms_alloc.proofs.Rows.{row-from, row-to, size-le, limit-le}
use Rattle.ms_bits.specs.Maps.{with_range, with_cells}
use Rattle.ms_raw.specs.Blocks.{Lists, IsLists}
use Rattle.ms_planes.specs.declared.parts.Plane.{Plane}
use Rattle.ms_planes.specs.Areas.{held}
use Rattle.ms_planes.specs.Blocks.{bytes_in, other, KeepsOthers}
use Rattle.ms_planes.specs.Memory.{Memory, IsMemory, IsBlockOf, AreBlocksOf, lists, area_index, kind_of, read, found, shown, part_of, bytes_of, shadow_of, origins_of}
use Rattle.ms_planes.proofs.Ranges.{range-is, range-low, range-high, range-in, touches-true, touches-low, touches-high}
use Rattle.ms_planes.proofs.Lists.{kept-whole}
use Rattle.ms_planes.proofs.Found.{Inside, inside, found-at, found-other, kept-at, kept-set, kept-length, live-block, row-even}

pub areas : (t : Allocations) (k : AllocKind) → IsLaidOut t → IsArea k (of_kind k t)
areas t Fixed laid = laid.fixed
areas t Heap laid = laid.heap
areas t Stack laid = laid.stack

pub index-same : (j k : AllocKind) → area_index j ≡ area_index k → j ≡ k
index-same Fixed Fixed e = refl
index-same Fixed Heap e = absurd (omega (arith, e))
index-same Fixed Stack e = absurd (omega (arith, e))
index-same Heap Fixed e = absurd (omega (arith, e))
index-same Heap Heap e = refl
index-same Heap Stack e = absurd (omega (arith, e))
index-same Stack Fixed e = absurd (omega (arith, e))
index-same Stack Heap e = absurd (omega (arith, e))
index-same Stack Stack e = refl

pub index-low : (k : AllocKind) → area_index k < 3
index-low Fixed = omega arith
index-low Heap = omega arith
index-low Stack = omega arith

-- an address within an area
pub kind-at : (k : AllocKind) (x : ℕ) → area_base k ≤ x → x < area_base k + area_limit k → kind_of x ≡ k
kind-at Fixed x low high = ap (λ b. if b then Fixed else (if ltb x (area_base Stack) then Heap else Stack)) (lt-ltb x (area_base Heap) (omega (arith, high)))
kind-at Heap x low high =
    ap (λ b. if b then Fixed else (if ltb x (area_base Stack) then Heap else Stack)) (le-ltb x (area_base Heap) low)
    ∙ ap (λ b. if b then Heap else Stack) (lt-ltb x (area_base Stack) (omega (arith, high)))
kind-at Stack x low high =
    ap (λ b. if b then Fixed else (if ltb x (area_base Stack) then Heap else Stack)) (le-ltb x (area_base Heap) (omega (arith, low)))
    ∙ ap (λ b. if b then Heap else Stack) (le-ltb x (area_base Stack) low)

-- an allocation of an area, where it stands
pub record Placed (k : AllocKind) (xs : List Allocation) (i : ℕ) (a : Allocation) : Type 0 where
  pub low : area_base k ≤ a.base
  pub high : a.base + room a.size ≤ area_base k + area_limit k
  pub even : a.base % 16 ≡ 0

base-even : (k : AllocKind) → area_base k % 16 ≡ 0
base-even Fixed = refl
base-even Heap = refl
base-even Stack = refl

pub placed : (k : AllocKind) (xs : List Allocation) (i : ℕ) (d : Allocation) → IsArea k xs → i < length xs → Placed k xs i (get_or xs i d)
placed k xs i d area lt = record {
  low = row-from k (area_base k) xs area.row i d lt;
  high = omega (arith, row-to k (area_base k) xs area.row i d lt, area.within);
  even = row-even k (area_base k) xs i d area.row (base-even k) lt;
}

pub kind-covered : (k : AllocKind) (xs : List Allocation) (i x : ℕ) (d : Allocation) → IsArea k xs → i < length xs → covers x 1 (get_or xs i d) ≡ true → kind_of x ≡ k
kind-covered k xs i x d area lt has =
    let p = placed k xs i d area lt in
    let w = inside x 1 (get_or xs i d) has in
    kind-at k x (omega (arith, p.low, w.low)) (omega (arith, p.high, w.high, size-le (get_or xs i d).size))

-- the memory with another block in a place
abbrev pub with_block : Memory → AllocKind → ℕ → Option Lists → Memory
with_block m k i x = record { table = m.table; blocks = set m.blocks (area_index k) (set (get_or m.blocks (area_index k) []) i x) }

pub row-same : (m : Memory) (k : AllocKind) (i : ℕ) (x : Option Lists) → length m.blocks ≡ 3 → get_or (with_block m k i x).blocks (area_index k) [] ≡ set (get_or m.blocks (area_index k) []) i x
row-same m k i x three = get_or-set_same m.blocks (area_index k) (set (get_or m.blocks (area_index k) []) i x) [] (omega (arith, three, index-low k))

pub row-other : (m : Memory) (j k : AllocKind) (i : ℕ) (x : Option Lists) → area_index j ≢ area_index k → get_or (with_block m k i x).blocks (area_index j) [] ≡ get_or m.blocks (area_index j) []
row-other m j k i x e = get_or-set_other m.blocks (area_index k) (area_index j) (set (get_or m.blocks (area_index k) []) i x) [] e

pub memory-put : (m : Memory) (k : AllocKind) (i : ℕ) (d : Allocation) (x : Option Lists) → IsMemory m → i < length (of_kind k m.table) → IsBlockOf (get_or (of_kind k m.table) i d) x → IsMemory (with_block m k i x)
memory-put m k i d x is lt fits = record {
  laid_out = is.laid_out;
  three = length-set m.blocks (area_index k) (set (get_or m.blocks (area_index k) []) i x) ∙ is.three;
  blocks = λ j. ⊎_elim
      (λ (e : area_index j ≡ area_index k).
      let same : j ≡ k = index-same j k e in
      subst (λ (h : AllocKind). AreBlocksOf (of_kind h m.table) (get_or (with_block m k i x).blocks (area_index h) [])) (sym same)
      (subst (AreBlocksOf (of_kind k m.table)) (sym (row-same m k i x is.three)) (kept-set (of_kind k m.table) (get_or m.blocks (area_index k) []) i d x (is.blocks k) lt fits)))
      (λ (e : area_index j ≢ area_index k). subst (AreBlocksOf (of_kind j m.table)) (sym (row-other m j k i x e)) (is.blocks j))
      (cases_eq (area_index j) (area_index k));
}

pub shown-at : (f : Lists → ℕ → ℕ) (m : Memory) (k : AllocKind) (i : ℕ) (d : Allocation) (x : ℕ) → IsMemory m → i < length (of_kind k m.table) → covers x 1 (get_or (of_kind k m.table) i d) ≡ true →
    shown f m x ≡ read f (get_or (get_or m.blocks (area_index k) []) i None) (x - (get_or (of_kind k m.table) i d).base)
shown-at f m k i d x is lt has =
    let area = areas m.table k is.laid_out in
    ap (λ (h : AllocKind). found f (of_kind h m.table) (get_or m.blocks (area_index h) []) x) (kind-covered k (of_kind k m.table) i x d area lt has)
    ∙ found-at f k (area_base k) (of_kind k m.table) (get_or m.blocks (area_index k) []) i x d area.row (is.blocks k) lt has

pub shown-other : (f : Lists → ℕ → ℕ) (m : Memory) (k : AllocKind) (i : ℕ) (d : Allocation) (y : Option Lists) (x : ℕ) → IsMemory m → i < length (of_kind k m.table) → covers x 1 (get_or (of_kind k m.table) i d) ≡ false →
    shown f (with_block m k i y) x ≡ shown f m x
shown-other f m k i d y x is lt has = ⊎_elim
    (λ (e : area_index (kind_of x) ≡ area_index k).
    let same : kind_of x ≡ k = index-same (kind_of x) k e in
    ap (λ (h : AllocKind). found f (of_kind h m.table) (get_or (with_block m k i y).blocks (area_index h) []) x) same
    ∙ ap (λ (bs : List (Option Lists)). found f (of_kind k m.table) bs x) (row-same m k i y is.three)
    ∙ found-other f (of_kind k m.table) (get_or m.blocks (area_index k) []) i x d y lt has
    ∙ sym (ap (λ (h : AllocKind). found f (of_kind h m.table) (get_or m.blocks (area_index h) []) x) same))
    (λ (e : area_index (kind_of x) ≢ area_index k). ap (λ (bs : List (Option Lists)). found f (of_kind (kind_of x) m.table) bs x) (row-other m (kind_of x) k i y e))
    (cases_eq (area_index (kind_of x)) (area_index k))

-- what is known of a place that has a range
pub record Stands (m : Memory) (addr n : ℕ) (p : TablePlace) (live : Lists) : Type 0 where
  pub entry : Allocation
  pub inside_table : p.index < length (of_kind p.kind m.table)
  pub entry_is : (d : Allocation) → get_or (of_kind p.kind m.table) p.index d ≡ entry
  pub base_is : p.base ≡ entry.base
  pub within_row : p.index < length (get_or m.blocks (area_index p.kind) [])
  pub block : get_or (get_or m.blocks (area_index p.kind) []) p.index None ≡ Some live
  pub alive : entry.live ≡ true
  pub whole : IsLists entry.size live
  pub low : entry.base ≤ addr
  pub high : addr + n ≤ entry.base + entry.size
  pub size : entry.size ≤ 2 ^ 26
  pub top : entry.base + entry.size ≤ 0x73 * 2 ^ 40
  pub even : entry.base % 16 ≡ 0

base-top : (k : AllocKind) → area_base k + area_limit k ≤ 0x73 * 2 ^ 40
base-top Fixed = omega arith
base-top Heap = omega arith
base-top Stack = omega arith

pub stands : (m : Memory) (addr n : ℕ) (p : TablePlace) → IsMemory m → IsPlace p.kind (of_kind p.kind m.table) addr n p → (live : Lists) × Stands m addr n p live
stands m addr n p is place =
    let d : Allocation = record { base = 0; size = 0; kind = p.kind; live = false } in
    let xs : List Allocation = of_kind p.kind m.table in
    let a : Allocation = get_or xs p.index d in
    let lt : p.index < length xs = place.only.within in
    let w : Inside addr n a = inside addr n a (place.only.passes d) in
    let at = placed p.kind xs p.index d (areas m.table p.kind is.laid_out) lt in
    let b = live-block a (get_or (get_or m.blocks (area_index p.kind) []) p.index None) (kept-at xs (get_or m.blocks (area_index p.kind) []) p.index d (is.blocks p.kind) lt) w.live in (
      b.0,
      record {
        entry = a;
        inside_table = lt;
        entry_is = λ e. get_or_default xs p.index e d lt;
        base_is = place.base_is d;
        within_row = omega (arith, lt, kept-length xs (get_or m.blocks (area_index p.kind) []) (is.blocks p.kind));
        block = b.1;
        alive = w.live;
        whole = b.2;
        low = w.low;
        high = w.high;
        size = omega (arith, at.low, at.high, limit-le p.kind, size-le a.size);
        top = omega (arith, at.high, base-top p.kind, size-le a.size);
        even = at.even;
      },
    )

pub covers-one : (a : Allocation) (x : ℕ) → a.live ≡ true → a.base ≤ x → x < a.base + a.size → covers x 1 a ≡ true
covers-one a x live low high = and_from _ _ (and_from _ _ live (le-leb a.base x low)) (le-leb (x + 1) (a.base + a.size) (omega (arith, high)))

-- an address of the allocation reads its block
pub shown-in : (f : Lists → ℕ → ℕ) (m : Memory) (addr n : ℕ) (p : TablePlace) (was : Lists) (s : Stands m addr n p was) (x : ℕ) → IsMemory m → covers x 1 s.entry ≡ true → shown f m x ≡ f was (x - p.base)
shown-in f m addr n p was s x is has =
    shown-at f m p.kind p.index s.entry x is s.inside_table (ap (covers x 1) (s.entry_is s.entry) ∙ has)
    ∙ ap (λ (b : Option Lists). read f b (x - (get_or (of_kind p.kind m.table) p.index s.entry).base)) s.block
    ∙ ap (λ (b : ℕ). f was (x - b)) (ap (λ (a : Allocation). a.base) (s.entry_is s.entry) ∙ sym s.base_is)

-- and after a change the changed block
pub shown-now : (f : Lists → ℕ → ℕ) (m : Memory) (addr n : ℕ) (p : TablePlace) (was : Lists) (s : Stands m addr n p was) (l : Lists) (x : ℕ) → IsMemory m → IsLists s.entry.size l → covers x 1 s.entry ≡ true →
    shown f (with_block m p.kind p.index (Some l)) x ≡ f l (x - p.base)
shown-now f m addr n p was s l x is whole has =
    shown-at f (with_block m p.kind p.index (Some l)) p.kind p.index s.entry x (memory-put m p.kind p.index s.entry (Some l) is s.inside_table (subst (λ (a : Allocation). IsBlockOf a (Some l)) (sym (s.entry_is s.entry)) (s.alive, whole))) s.inside_table (ap (covers x 1) (s.entry_is s.entry) ∙ has)
    ∙ ap (λ (b : Option Lists). read f b (x - (get_or (of_kind p.kind m.table) p.index s.entry).base))
    (ap (λ (bs : List (Option Lists)). get_or bs p.index None) (row-same m p.kind p.index (Some l) is.three) ∙ get_or-set_same (get_or m.blocks (area_index p.kind) []) p.index (Some l) None s.within_row)
    ∙ ap (λ (b : ℕ). f l (x - b)) (ap (λ (a : Allocation). a.base) (s.entry_is s.entry) ∙ sym s.base_is)

pub shown-else : (f : Lists → ℕ → ℕ) (m : Memory) (addr n : ℕ) (p : TablePlace) (was : Lists) (s : Stands m addr n p was) (l : Lists) (x : ℕ) → IsMemory m → covers x 1 s.entry ≡ false →
    shown f (with_block m p.kind p.index (Some l)) x ≡ shown f m x
shown-else f m addr n p was s l x is has = shown-other f m p.kind p.index s.entry (Some l) x is s.inside_table (ap (covers x 1) (s.entry_is s.entry) ∙ has)

-- a change that a map describes by address
pub shown-is : (f : Lists → ℕ → ℕ) (m : Memory) (addr n : ℕ) (p : TablePlace) (was : Lists) (s : Stands m addr n p was) (l : Lists) (g : ℕ → ℕ) (x : ℕ) → IsMemory m → IsLists s.entry.size l →
    (covers x 1 s.entry ≡ true → f l (x - p.base) ≡ g x) → (covers x 1 s.entry ≡ false → shown f m x ≡ g x) → shown f (with_block m p.kind p.index (Some l)) x ≡ g x
shown-is f m addr n p was s l g x is whole has none = ⊎_elim
    (λ (h : covers x 1 s.entry ≡ true). shown-now f m addr n p was s l x is whole h ∙ has h)
    (λ (h : covers x 1 s.entry ≡ false). shown-else f m addr n p was s l x is h ∙ none h)
    (cases_Bool (covers x 1 s.entry))

-- what stays in the block stays in the memory
pub shown-same : (f : Lists → ℕ → ℕ) (m : Memory) (addr n : ℕ) (p : TablePlace) (was : Lists) (s : Stands m addr n p was) (l : Lists) (x : ℕ) → IsMemory m → IsLists s.entry.size l → ((o : ℕ) → f l o ≡ f was o) →
    shown f (with_block m p.kind p.index (Some l)) x ≡ shown f m x
shown-same f m addr n p was s l x is whole same =
    shown-is f m addr n p was s l (shown f m) x is whole (λ h. same (x - p.base) ∙ sym (shown-in f m addr n p was s x is h)) (λ h. refl)

-- a range that is written
pub shown-range : (f : Lists → ℕ → ℕ) (m : Memory) (addr n : ℕ) (p : TablePlace) (was : Lists) (s : Stands m addr n p was) (l : Lists) (g : ℕ → ℕ) → IsMemory m → IsLists s.entry.size l →
    f l ≡ with_range (f was) (addr - p.base) n g → shown f (with_block m p.kind p.index (Some l)) ≡ with_range (shown f m) addr n g
shown-range f m addr n p was s l g is whole change =
    range-is (shown f m) g (shown f (with_block m p.kind p.index (Some l))) addr n
    (λ x low. shown-is f m addr n p was s l (shown f m) x is whole
    (λ h. let w = inside x 1 s.entry h in at x ∙ range-low (f was) g (addr - p.base) n (x - p.base) (omega (arith, low, w.low, s.base_is)) ∙ sym (shown-in f m addr n p was s x is h)) (λ h. refl))
    (λ x high. shown-is f m addr n p was s l (shown f m) x is whole
    (λ h. let w = inside x 1 s.entry h in at x ∙ range-high (f was) g (addr - p.base) n (x - p.base) (omega (arith, high, w.low, s.low, s.base_is)) ∙ sym (shown-in f m addr n p was s x is h)) (λ h. refl))
    (λ x low high.
    let in' : covers x 1 s.entry ≡ true = covers-one s.entry x s.alive (omega (arith, s.low, low)) (omega (arith, s.high, high)) in
    shown-now f m addr n p was s l x is whole in' ∙ at x ∙ range-in (f was) g (addr - p.base) n (x - p.base) (omega (arith, low)) (omega (arith, high, low, s.low, s.base_is)) ∙ ap g (let e : x - p.base - (addr - p.base) ≡ x - addr = omega (arith, low, s.low, s.base_is) in e))
  where
    at : (x : ℕ) → f l (x - p.base) ≡ with_range (f was) (addr - p.base) n g (x - p.base)
    at x = ap (λ (h : ℕ → ℕ). h (x - p.base)) change

-- the contents of one vector, and of the same vectors with another in one place
pub vector-at : (vs : List (Vec (Option Lists) Global)) (i : ℕ) (d : Vec (Option Lists) Global) → i < length (lists vs) → (get_or vs i d).items ≡ get_or (lists vs) i []
vector-at [] i d lt = absurd (omega arith)
vector-at (v ∷ vs) zero d lt = refl
vector-at (v ∷ vs) (suc i) d lt = vector-at vs i d (omega arith)

pub vector-set : (vs : List (Vec (Option Lists) Global)) (j : ℕ) (v : Vec (Option Lists) Global) → lists (set vs j v) ≡ set (lists vs) j v.items
vector-set vs j v = map-set (λ (w : Vec (Option Lists) Global). w.items) vs j v

pub block-read : (vs : List (Vec (Option Lists) Global)) (j i a : ℕ) (d : Vec (Option Lists) Global) (x : Option Lists) → j ≡ a → a < length (lists vs) → i < length (get_or (lists vs) a []) →
    x ≡ get_or (get_or vs j d).items i x → x ≡ get_or (get_or (lists vs) a []) i None
block-read vs j i a d x at low lt is =
    is ∙ ap (λ (k : ℕ). get_or (get_or vs k d).items i x) at ∙ ap (λ (bs : List (Option Lists)). get_or bs i x) (vector-at vs a d low) ∙ get_or_default (get_or (lists vs) a []) i x None lt

-- a part that is written in a range
pub record PartWritten (part : Plane) (m m' : Memory) (addr n : ℕ) (g : ℕ → ℕ) : Type 0 where
  pub memory : IsMemory m'
  pub shown_is : part_of part m' ≡ with_range (part_of part m) addr n g
  pub rest_is : part_of (other part) m' ≡ part_of (other part) m
  pub origins_is : origins_of m' ≡ origins_of m

pub part-written : (part : Plane) (m : Memory) (addr n : ℕ) (g : ℕ → ℕ) (p : TablePlace) (was : Lists) (s : Stands m addr n p was) (l : Lists) → IsMemory m → KeepsOthers part was l →
    held (bytes_in part l) ≡ with_range (held (bytes_in part was)) (addr - p.base) n g → PartWritten part m (with_block m p.kind p.index (Some l)) addr n g
part-written part m addr n g p was s l is kept change =
    let whole : IsLists s.entry.size l = kept-whole part was l s.entry.size kept s.whole in
    record {
      memory = memory-put m p.kind p.index s.entry (Some l) is s.inside_table (subst (λ (a : Allocation). IsBlockOf a (Some l)) (sym (s.entry_is s.entry)) (s.alive, whole));
      shown_is = shown-range (λ w o. held (bytes_in part w) o) m addr n p was s l g is whole change;
      rest_is = fun_ext (λ x. shown-same (λ w o. held (bytes_in (other part) w) o) m addr n p was s l x is whole (λ o. ap (λ (xs : List ℕ). held xs o) kept.rest));
      origins_is = fun_ext (λ c. shown-same (λ w o. held w.origins (o / 4)) m addr n p was s l (4 * c) is whole (λ o. ap (λ (xs : List ℕ). held xs (o / 4)) kept.origins));
    }

pub blocks-put : (vs : List (Vec (Option Lists) Global)) (j a i : ℕ) (d v : Vec (Option Lists) Global) (x : Option Lists) → j ≡ a → a < length (lists vs) →
    v.items ≡ set (get_or vs j d).items i x → lists (set vs j v) ≡ set (lists vs) a (set (get_or (lists vs) a []) i x)
blocks-put vs j a i d v x at low is =
    vector-set vs j v ∙ ap (λ (bs : List (Option Lists)). set (lists vs) j bs) (is ∙ ap (λ (bs : List (Option Lists)). set bs i x) (ap (λ (k : ℕ). (get_or vs k d).items) at ∙ vector-at vs a d low))
    ∙ ap (λ (k : ℕ). set (lists vs) k (set (get_or (lists vs) a []) i x)) at

pub row-long : (vs : List (Vec (Option Lists) Global)) (j a i : ℕ) (d : Vec (Option Lists) Global) → j ≡ a → a < length (lists vs) → i < length (get_or (lists vs) a []) → i < vec_len (get_or vs j d)
row-long vs j a i d at low lt =
    omega (arith, (get_or vs j d).ok.0, ap (λ (bs : List (Option Lists)). length bs) (ap (λ (k : ℕ). (get_or vs k d).items) at ∙ vector-at vs a d low), lt)

-- the block that the code found
pub held-block : (m : Memory) (addr n : ℕ) (p : TablePlace) (was : Lists) (s : Stands m addr n p was) (b : Lists) → get_or (get_or m.blocks (area_index p.kind) []) p.index None ≡ Some b → Stands m addr n p b
held-block m addr n p was s b is =
    let same : was ≡ b = (let e = sym s.block ∙ is in cc) in
    subst (Stands m addr n p) same s

pub never-none : (m : Memory) (addr n : ℕ) (p : TablePlace) (was : Lists) → Stands m addr n p was → get_or (get_or m.blocks (area_index p.kind) []) p.index None ≡ None → ⊥
never-none m addr n p was s is = let e = sym s.block ∙ is in cc

-- origins that change
pub record CellsWritten (m m' : Memory) (F : ℕ → ℕ) : Type 0 where
  pub memory : IsMemory m'
  pub bytes_is : bytes_of m' ≡ bytes_of m
  pub shadow_is : shadow_of m' ≡ shadow_of m
  pub origins_is : origins_of m' ≡ F

pub cell-place : (m : Memory) (addr n : ℕ) (p : TablePlace) (was : Lists) (s : Stands m addr n p was) (c : ℕ) → covers (4 * c) 1 s.entry ≡ true → (4 * c - p.base) / 4 ≡ c - p.base / 4
cell-place m addr n p was s c has = let w = inside (4 * c) 1 s.entry has in omega (arith, w.low, s.base_is, s.even)

pub cell-in : (m : Memory) (addr n : ℕ) (p : TablePlace) (was : Lists) (s : Stands m addr n p was) (c : ℕ) → IsMemory m → covers (4 * c) 1 s.entry ≡ true → origins_of m c ≡ held was.origins (c - p.base / 4)
cell-in m addr n p was s c is has = shown-in (λ w o. held w.origins (o / 4)) m addr n p was s (4 * c) is has ∙ ap (held was.origins) (cell-place m addr n p was s c has)

pub origins-are : (m : Memory) (addr n : ℕ) (p : TablePlace) (was : Lists) (s : Stands m addr n p was) (l : Lists) (F : ℕ → ℕ) → IsMemory m → IsLists s.entry.size l →
    ((c : ℕ) → covers (4 * c) 1 s.entry ≡ true → held l.origins (c - p.base / 4) ≡ F c) → ((c : ℕ) → covers (4 * c) 1 s.entry ≡ false → origins_of m c ≡ F c) →
    origins_of (with_block m p.kind p.index (Some l)) ≡ F
origins-are m addr n p was s l F is whole has none =
    fun_ext (λ c. ⊎_elim
    (λ (h : covers (4 * c) 1 s.entry ≡ true). shown-now (λ w o. held w.origins (o / 4)) m addr n p was s l (4 * c) is whole h ∙ ap (held l.origins) (cell-place m addr n p was s c h) ∙ has c h)
    (λ (h : covers (4 * c) 1 s.entry ≡ false). shown-else (λ w o. held w.origins (o / 4)) m addr n p was s l (4 * c) is h ∙ none c h)
    (cases_Bool (covers (4 * c) 1 s.entry)))

-- a cell that a range touches is one of the allocation
pub touched : (m : Memory) (addr n : ℕ) (p : TablePlace) (was : Lists) (s : Stands m addr n p was) (c : ℕ) → 0 < n → addr / 4 ≤ c → c ≤ (addr + n - 1) / 4 → covers (4 * c) 1 s.entry ≡ true
touched m addr n p was s c some low high = covers-one s.entry (4 * c) s.alive (omega (arith, low, s.low, s.even)) (omega (arith, high, s.high, some))

pub cells-written : (m : Memory) (addr n origin : ℕ) (p : TablePlace) (was : Lists) (s : Stands m addr n p was) (l : Lists) (at count : ℕ) → IsMemory m → 0 < n → l.bytes ≡ was.bytes → l.shadow ≡ was.shadow → length l.origins ≡ length was.origins →
    at ≡ addr - p.base → count ≡ (at + (n - 1)) / 4 - at / 4 + 1 → held l.origins ≡ with_range (held was.origins) (at / 4) count (λ k. origin) →
    CellsWritten m (with_block m p.kind p.index (Some l)) (with_cells (origins_of m) addr n origin)
cells-written m addr n origin p was s l at count is some bytes shadow len at_is count_is change =
    let whole : IsLists s.entry.size l = record { bytes = ap (λ (xs : List ℕ). length xs) bytes ∙ s.whole.bytes; shadow = ap (λ (xs : List ℕ). length xs) shadow ∙ s.whole.shadow; origins = len ∙ s.whole.origins } in
    record {
      memory = memory-put m p.kind p.index s.entry (Some l) is s.inside_table (subst (λ (a : Allocation). IsBlockOf a (Some l)) (sym (s.entry_is s.entry)) (s.alive, whole));
      bytes_is = fun_ext (λ x. shown-same (λ w o. held w.bytes o) m addr n p was s l x is whole (λ o. ap (λ (xs : List ℕ). held xs o) bytes));
      shadow_is = fun_ext (λ x. shown-same (λ w o. held w.shadow o) m addr n p was s l x is whole (λ o. ap (λ (xs : List ℕ). held xs o) shadow));
      origins_is = origins-are m addr n p was s l (with_cells (origins_of m) addr n origin) is whole
          (λ c h. ap (λ (g : ℕ → ℕ). g (c - p.base / 4)) change ∙ here c h)
          (λ c h. sym (out c h));
    }
  where
    old : ℕ → ℕ
    old = origins_of m

    here : (c : ℕ) → covers (4 * c) 1 s.entry ≡ true → with_range (held was.origins) (at / 4) count (λ k. origin) (c - p.base / 4) ≡ with_cells old addr n origin c
    here c h =
        let w = inside (4 * c) 1 s.entry h in
        ⊎_elim
        (λ (low : c < addr / 4).
        range-low (held was.origins) (λ k. origin) (at / 4) count (c - p.base / 4) (omega (arith, low, w.low, s.low, s.base_is, s.even, at_is))
        ∙ sym (cell-in m addr n p was s c is h) ∙ sym (ap (λ b. if b then origin else old c) (touches-low addr n c low)))
        (λ (low : addr / 4 ≤ c). ⊎_elim
        (λ (high : (addr + n - 1) / 4 < c).
        range-high (held was.origins) (λ k. origin) (at / 4) count (c - p.base / 4) (omega (arith, high, some, w.low, s.low, s.base_is, s.even, at_is, count_is))
        ∙ sym (cell-in m addr n p was s c is h) ∙ sym (ap (λ b. if b then origin else old c) (touches-high addr n c high)))
        (λ (high : c ≤ (addr + n - 1) / 4).
        range-in (held was.origins) (λ k. origin) (at / 4) count (c - p.base / 4) (omega (arith, low, w.low, s.low, s.base_is, s.even, at_is)) (omega (arith, high, low, some, w.low, s.low, s.base_is, s.even, at_is, count_is))
        ∙ sym (ap (λ b. if b then origin else old c) (touches-true addr n c some low high)))
        (cases_lt ((addr + n - 1) / 4) c))
        (cases_lt c (addr / 4))

    out : (c : ℕ) → covers (4 * c) 1 s.entry ≡ false → with_cells old addr n origin c ≡ old c
    out c h = ⊎_elim
        (λ (low : c < addr / 4). ap (λ b. if b then origin else old c) (touches-low addr n c low))
        (λ (low : addr / 4 ≤ c). ⊎_elim
        (λ (high : (addr + n - 1) / 4 < c). ap (λ b. if b then origin else old c) (touches-high addr n c high))
        (λ (high : c ≤ (addr + n - 1) / 4). absurd (let e = sym h ∙ touched m addr n p was s c some low high in cc))
        (cases_lt ((addr + n - 1) / 4) c))
        (cases_lt c (addr / 4))
