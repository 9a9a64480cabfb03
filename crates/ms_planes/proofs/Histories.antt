-- Memory as allocations come and go.
use Rattle.std.proofs.Common.{◌≡◌, ◌≢◌, ℕ, zero, suc, ◌+◌, ◌-◌, ◌*◌, ◌/◌, ◌%◌, ◌<◌, ◌≤◌, Bool, true, false, List, [], ◌∷◌, ◌++◌, length, get_or, set, take, replicate, refl, sym, ap, ◌∙◌, subst, arith, ⊎_elim, is_some, IsTrue, Option, Some, None, cond, ltb, if◌then◌else◌, Result, Ok, Err, is_err, OnOk, OnErr}
use Rattle.std.specs.Prelude.{Vec}
use Rattle.std.specs.Global.{Global}
use Rattle.std.specs.List.{find}
use Rattle.std.proofs.Math.Path.{fun_ext}
use Rattle.std.proofs.Math.Seq.{get_or-append_seam}
use Rattle.std.proofs.lemmas.Bool.{cases_Bool, cases_eq, cases_lt, le-ltb, lt-ltb}
use Rattle.std.proofs.lemmas.List.{get_or-set_same, get_or-set_other, get_or_default, length-set, length-replicate}
use Rattle.ms_alloc.specs.declared.kinds.AllocKind.{AllocKind}
use Rattle.ms_alloc.specs.declared.kinds.AllocKind.TheVariants.{Fixed, Heap, Stack}
use Rattle.ms_alloc.specs.declared.allocations.Allocation.{Allocation}
use Rattle.ms_alloc.specs.Layout.{area_base}
use Rattle.ms_alloc.specs.Allocations.{Allocations, IsLaidOut, of_kind, covers, listed, is_good, is_block, next, next_base, with_made, with_ended, without_from, used}
use Rattle.ms_alloc.specs.Only.{IsOnly}
use Rattle.ms_alloc.proofs.Places.{covers-after, covers-before, listed-fixed, listed-heap, listed-stack, ended-set}
use Rattle.ms_bits.specs.Maps.{with_range, with_cells}
use Rattle.ms_raw.specs.Blocks.{Lists, IsLists, blank, cells}
use Rattle.ms_planes.specs.declared.parts.Plane.{Plane}
use Rattle.ms_planes.specs.declared.parts.Plane.TheVariants.{Bytes, Shadow}
use Rattle.ms_planes.specs.Areas.{held}
use Rattle.ms_planes.specs.Blocks.{bytes_in}
use Rattle.ms_planes.specs.Memory.{Memory, IsMemory, IsBlockOf, AreBlocksOf, KeepsLive, IsSame, lists, area_index, kind_of, read, found, shown, part_of, bytes_of, shadow_of, origins_of}
use Rattle.ms_planes.proofs.Ranges.{range-is, touches-true, touches-low, touches-high, no-cells}
use Rattle.ms_planes.proofs.Found.{inside, found-append, found-before, find-place, kept-append, kept-before, kept-length}
use Rattle.ms_planes.proofs.Standing.{areas, index-same, index-low, placed, kind-covered, shown-at, covers-one, vector-set}

-- the memory with other blocks in an area, and another table
abbrev pub with_row : Allocations → Memory → AllocKind → List (Option Lists) → Memory
with_row t m k bs = record { table = t; blocks = set m.blocks (area_index k) bs }

pub with-same : (t : Allocations) (m : Memory) (k : AllocKind) (bs : List (Option Lists)) → length m.blocks ≡ 3 → get_or (with_row t m k bs).blocks (area_index k) [] ≡ bs
with-same t m k bs three = get_or-set_same m.blocks (area_index k) bs [] (omega (arith, three, index-low k))

pub with-other : (t : Allocations) (m : Memory) (j k : AllocKind) (bs : List (Option Lists)) → area_index j ≢ area_index k → get_or (with_row t m k bs).blocks (area_index j) [] ≡ get_or m.blocks (area_index j) []
with-other t m j k bs e = get_or-set_other m.blocks (area_index k) (area_index j) bs [] e

-- a table in which one area alone changed, and its blocks with it
pub memory-row : (t : Allocations) (m : Memory) (k : AllocKind) (bs : List (Option Lists)) → IsMemory m → IsLaidOut t → ((j : AllocKind) → area_index j ≢ area_index k → of_kind j t ≡ of_kind j m.table) →
    AreBlocksOf (of_kind k t) bs → IsMemory (with_row t m k bs)
memory-row t m k bs is laid others kept = record {
  laid_out = laid;
  three = length-set m.blocks (area_index k) bs ∙ is.three;
  blocks = λ j. ⊎_elim
      (λ (e : area_index j ≡ area_index k).
      subst (λ (h : AllocKind). AreBlocksOf (of_kind h t) (get_or (with_row t m k bs).blocks (area_index h) [])) (sym (index-same j k e))
      (subst (AreBlocksOf (of_kind k t)) (sym (with-same t m k bs is.three)) kept))
      (λ (e : area_index j ≢ area_index k).
      subst (AreBlocksOf (of_kind j t)) (sym (with-other t m j k bs e)) (subst (λ (xs : List Allocation). AreBlocksOf xs (get_or m.blocks (area_index j) [])) (sym (others j e)) (is.blocks j)))
      (cases_eq (area_index j) (area_index k));
}

-- in another area what is shown stays
pub shown-apart : (f : Lists → ℕ → ℕ) (t : Allocations) (m : Memory) (k : AllocKind) (bs : List (Option Lists)) (x : ℕ) → ((j : AllocKind) → area_index j ≢ area_index k → of_kind j t ≡ of_kind j m.table) →
    area_index (kind_of x) ≢ area_index k → shown f (with_row t m k bs) x ≡ shown f m x
shown-apart f t m k bs x others e =
    ap (λ (xs : List Allocation). found f xs (get_or (with_row t m k bs).blocks (area_index (kind_of x)) []) x) (others (kind_of x) e)
    ∙ ap (λ (ys : List (Option Lists)). found f (of_kind (kind_of x) m.table) ys x) (with-other t m (kind_of x) k bs e)

-- in the same area it is found in the new lists
pub shown-row : (f : Lists → ℕ → ℕ) (t : Allocations) (m : Memory) (k : AllocKind) (bs : List (Option Lists)) (x : ℕ) → length m.blocks ≡ 3 → area_index (kind_of x) ≡ area_index k →
    shown f (with_row t m k bs) x ≡ found f (of_kind k t) bs x
shown-row f t m k bs x three e =
    ap (λ (h : AllocKind). found f (of_kind h t) (get_or (with_row t m k bs).blocks (area_index h) []) x) (index-same (kind_of x) k e)
    ∙ ap (λ (ys : List (Option Lists)). found f (of_kind k t) ys x) (with-same t m k bs three)

pub shown-old : (f : Lists → ℕ → ℕ) (m : Memory) (k : AllocKind) (x : ℕ) → area_index (kind_of x) ≡ area_index k → shown f m x ≡ found f (of_kind k m.table) (get_or m.blocks (area_index k) []) x
shown-old f m k x e = ap (λ (h : AllocKind). found f (of_kind h m.table) (get_or m.blocks (area_index h) []) x) (index-same (kind_of x) k e)

-- ---- an allocation is made

made-row : (k : AllocKind) (n : ℕ) (t : Allocations) → of_kind k (with_made k n t) ≡ of_kind k t ++ next k n t ∷ []
made-row Fixed n t = refl
made-row Heap n t = refl
made-row Stack n t = refl

made-others : (k : AllocKind) (n : ℕ) (t : Allocations) (j : AllocKind) → area_index j ≢ area_index k → of_kind j (with_made k n t) ≡ of_kind j t
made-others Fixed n t Fixed e = absurd (e refl)
made-others Fixed n t Heap e = refl
made-others Fixed n t Stack e = refl
made-others Heap n t Fixed e = refl
made-others Heap n t Heap e = absurd (e refl)
made-others Heap n t Stack e = refl
made-others Stack n t Fixed e = refl
made-others Stack n t Heap e = refl
made-others Stack n t Stack e = absurd (e refl)

pub zeros-held : (n k : ℕ) → held (replicate n 0) k ≡ 0
zeros-held zero k = refl
zeros-held (suc n) zero = refl
zeros-held (suc n) (suc k) = zeros-held n k

blank-whole : (n : ℕ) → IsLists n (blank n)
blank-whole n = record { bytes = length-replicate n 0; shadow = length-replicate n 0; origins = length-replicate (cells n) 0 }

abbrev pub made_memory : Memory → AllocKind → ℕ → Memory
made_memory m k n = with_row (with_made k n m.table) m k (get_or m.blocks (area_index k) [] ++ Some (blank n) ∷ [])

pub made-memory : (m : Memory) (k : AllocKind) (n : ℕ) → IsMemory m → IsLaidOut (with_made k n m.table) → IsMemory (made_memory m k n)
made-memory m k n is laid =
    memory-row (with_made k n m.table) m k (get_or m.blocks (area_index k) [] ++ Some (blank n) ∷ []) is laid (made-others k n m.table)
    (subst (λ (xs : List Allocation). AreBlocksOf xs (get_or m.blocks (area_index k) [] ++ Some (blank n) ∷ [])) (sym (made-row k n m.table))
    (kept-append (of_kind k m.table) (get_or m.blocks (area_index k) []) (next k n m.table) (Some (blank n)) (is.blocks k) (refl, blank-whole n)))

-- the new allocation shows zeros, and the rest stays
made-in : (f : Lists → ℕ → ℕ) (m : Memory) (k : AllocKind) (n x : ℕ) → IsMemory m → IsLaidOut (with_made k n m.table) → ((o : ℕ) → f (blank n) o ≡ 0) → covers x 1 (next k n m.table) ≡ true → shown f (made_memory m k n) x ≡ 0
made-in f m k n x is laid none has =
    let i : ℕ = length (of_kind k m.table) in
    let d : Allocation = next k n m.table in
    let at : get_or (of_kind k (with_made k n m.table)) i d ≡ d = ap (λ (xs : List Allocation). get_or xs i d) (made-row k n m.table) ∙ get_or-append_seam (of_kind k m.table) d [] d in
    let lt : i < length (of_kind k (with_made k n m.table)) = omega (arith, ap (λ (xs : List Allocation). length xs) (made-row k n m.table), seam (of_kind k m.table) d) in
    let row : get_or (get_or (made_memory m k n).blocks (area_index k) []) i None ≡ Some (blank n) =
    ap (λ (bs : List (Option Lists)). get_or bs i None) (with-same (with_made k n m.table) m k (get_or m.blocks (area_index k) [] ++ Some (blank n) ∷ []) is.three)
    ∙ ap (λ (j : ℕ). get_or (get_or m.blocks (area_index k) [] ++ Some (blank n) ∷ []) j None) (sym (kept-length (of_kind k m.table) (get_or m.blocks (area_index k) []) (is.blocks k)))
    ∙ get_or-append_seam (get_or m.blocks (area_index k) []) (Some (blank n)) [] None in
    shown-at f (made_memory m k n) k i d x (made-memory m k n is laid) lt (ap (covers x 1) at ∙ has)
    ∙ ap (λ (b : Option Lists). read f b (x - (get_or (of_kind k (with_made k n m.table)) i d).base)) row ∙ none _
  where
    seam : (xs : List Allocation) (y : Allocation) → length (xs ++ y ∷ []) ≡ length xs + 1
    seam [] y = omega arith
    seam (a ∷ xs) y = omega (arith, seam xs y)

made-out : (f : Lists → ℕ → ℕ) (m : Memory) (k : AllocKind) (n x : ℕ) → IsMemory m → covers x 1 (next k n m.table) ≡ false → shown f (made_memory m k n) x ≡ shown f m x
made-out f m k n x is has = ⊎_elim
    (λ (e : area_index (kind_of x) ≡ area_index k).
    shown-row f (with_made k n m.table) m k (get_or m.blocks (area_index k) [] ++ Some (blank n) ∷ []) x is.three e
    ∙ ap (λ (xs : List Allocation). found f xs (get_or m.blocks (area_index k) [] ++ Some (blank n) ∷ []) x) (made-row k n m.table)
    ∙ found-append f (of_kind k m.table) (get_or m.blocks (area_index k) []) (next k n m.table) (Some (blank n)) x (is.blocks k) has
    ∙ sym (shown-old f m k x e))
    (λ (e : area_index (kind_of x) ≢ area_index k). shown-apart f (with_made k n m.table) m k (get_or m.blocks (area_index k) [] ++ Some (blank n) ∷ []) x (made-others k n m.table) e)
    (cases_eq (area_index (kind_of x)) (area_index k))

pub made-part : (part : Plane) (m : Memory) (k : AllocKind) (n : ℕ) → IsMemory m → IsLaidOut (with_made k n m.table) → part_of part (made_memory m k n) ≡ with_range (part_of part m) (next_base k m.table) n (λ j. 0)
made-part part m k n is laid =
    let f : Lists → ℕ → ℕ = λ l o. held (bytes_in part l) o in
    range-is (part_of part m) (λ j. 0) (part_of part (made_memory m k n)) (next_base k m.table) n
    (λ x low. made-out f m k n x is (covers-after x 1 (next k n m.table) low))
    (λ x high. made-out f m k n x is (covers-before x 1 (next k n m.table) (omega (arith, high))))
    (λ x low high. made-in f m k n x is laid (zeros part) (covers-one (next k n m.table) x refl low high))
  where
    zeros : (q : Plane) (o : ℕ) → held (bytes_in q (blank n)) o ≡ 0
    zeros Bytes o = zeros-held n o
    zeros Shadow o = zeros-held n o

next-even : (k : AllocKind) (t : Allocations) → next_base k t % 4 ≡ 0
next-even Fixed t = omega (arith, even t.fixed)
  where
    even : (xs : List Allocation) → used xs % 4 ≡ 0
    even [] = refl
    even (a ∷ as') = omega (arith, even as')
next-even Heap t = omega (arith, even t.heap)
  where
    even : (xs : List Allocation) → used xs % 4 ≡ 0
    even [] = refl
    even (a ∷ as') = omega (arith, even as')
next-even Stack t = omega (arith, even t.stack)
  where
    even : (xs : List Allocation) → used xs % 4 ≡ 0
    even [] = refl
    even (a ∷ as') = omega (arith, even as')

pub made-cells : (m : Memory) (k : AllocKind) (n : ℕ) → IsMemory m → IsLaidOut (with_made k n m.table) → origins_of (made_memory m k n) ≡ with_cells (origins_of m) (next_base k m.table) n 0
made-cells m k n is laid =
    fun_ext (λ c. ⊎_elim
    (λ (h : covers (4 * c) 1 (next k n m.table) ≡ true).
    let w = inside (4 * c) 1 (next k n m.table) h in
    made-in f m k n (4 * c) is laid (λ o. zeros-held (cells n) (o / 4)) h
    ∙ sym (ap (λ b. if b then 0 else origins_of m c) (touches-true base n c (omega (arith, w.low, w.high)) (omega (arith, w.low)) (omega (arith, w.low, w.high)))))
    (λ (h : covers (4 * c) 1 (next k n m.table) ≡ false). made-out f m k n (4 * c) is h ∙ sym (out c h))
    (cases_Bool (covers (4 * c) 1 (next k n m.table))))
  where
    base : ℕ
    base = next_base k m.table

    f : Lists → ℕ → ℕ
    f l o = held l.origins (o / 4)

    out : (c : ℕ) → covers (4 * c) 1 (next k n m.table) ≡ false → with_cells (origins_of m) base n 0 c ≡ origins_of m c
    out c h = ⊎_elim
        (λ (none : n ≡ 0). ap (λ (g : ℕ → ℕ). g c) (no-cells (origins_of m) base n 0 none))
        (λ (some : n ≢ 0). ⊎_elim
        (λ (low : c < base / 4). ap (λ b. if b then 0 else origins_of m c) (touches-low base n c low))
        (λ (low : base / 4 ≤ c). ⊎_elim
        (λ (high : (base + n - 1) / 4 < c). ap (λ b. if b then 0 else origins_of m c) (touches-high base n c high))
        (λ (high : c ≤ (base + n - 1) / 4).
        absurd (let e = sym h ∙ covers-one (next k n m.table) (4 * c) refl (omega (arith, low, next-even k m.table)) (omega (arith, high, some)) in cc))
        (cases_lt ((base + n - 1) / 4) c))
        (cases_lt c (base / 4)))
        (cases_eq n 0)

-- ---- a live address has a place

kind-fixed : (x : ℕ) → x < area_base Heap → kind_of x ≡ Fixed
kind-fixed x low = ap (λ b. if b then Fixed else (if ltb x (area_base Stack) then Heap else Stack)) (lt-ltb x (area_base Heap) low)

kind-heap : (x : ℕ) → area_base Heap ≤ x → x < area_base Stack → kind_of x ≡ Heap
kind-heap x low high =
    ap (λ b. if b then Fixed else (if ltb x (area_base Stack) then Heap else Stack)) (le-ltb x (area_base Heap) low)
    ∙ ap (λ b. if b then Heap else Stack) (lt-ltb x (area_base Stack) high)

kind-stack : (x : ℕ) → area_base Stack ≤ x → kind_of x ≡ Stack
kind-stack x low =
    ap (λ b. if b then Fixed else (if ltb x (area_base Stack) then Heap else Stack)) (le-ltb x (area_base Heap) (omega (arith, low)))
    ∙ ap (λ b. if b then Heap else Stack) (le-ltb x (area_base Stack) low)

pub good-found : (t : Allocations) (x : ℕ) → IsLaidOut t → IsTrue (is_good x 1 t) → is_some (find (covers x 1) (of_kind (kind_of x) t)) ≡ true
good-found t x laid good =
    let some : is_some (find (covers x 1) (listed t)) ≡ true = good in
    ⊎_elim
    (λ (low : x < area_base Heap). ap (λ (k : AllocKind). is_some (find (covers x 1) (of_kind k t))) (kind-fixed x low) ∙ ap is_some (sym (listed-fixed t x 1 (omega arith) laid low)) ∙ some)
    (λ (low : area_base Heap ≤ x). ⊎_elim
    (λ (high : x < area_base Stack). ap (λ (k : AllocKind). is_some (find (covers x 1) (of_kind k t))) (kind-heap x low high) ∙ ap is_some (sym (listed-heap t x 1 (omega arith) laid low high)) ∙ some)
    (λ (high : area_base Stack ≤ x). ap (λ (k : AllocKind). is_some (find (covers x 1) (of_kind k t))) (kind-stack x high) ∙ ap is_some (sym (listed-stack t x 1 (omega arith) laid high)) ∙ some)
    (cases_lt x (area_base Stack)))
    (cases_lt x (area_base Heap))

pub found-some : (p : Allocation → Bool) (xs : List Allocation) (i : ℕ) (d : Allocation) → i < length xs → p (get_or xs i d) ≡ true → is_some (find p xs) ≡ true
found-some p [] i d lt e = absurd (omega arith)
found-some p (a ∷ xs) zero d lt e = ap (λ c. is_some (cond c (Some a) (find p xs))) e
found-some p (a ∷ xs) (suc i) d lt e = ⊎_elim
    (λ (h : p a ≡ true). ap (λ c. is_some (cond c (Some a) (find p xs))) h)
    (λ (h : p a ≡ false). ap (λ c. is_some (cond c (Some a) (find p xs))) h ∙ found-some p xs i d (omega arith) e)
    (cases_Bool (p a))

-- the cell of a live address begins at a live address of the same allocation
pub cell-found : (t : Allocations) (x : ℕ) → IsLaidOut t → IsTrue (is_good x 1 t) → (area_index (kind_of (4 * (x / 4))) ≡ area_index (kind_of x)) × (is_some (find (covers (4 * (x / 4)) 1) (of_kind (kind_of x) t)) ≡ true)
cell-found t x laid good =
    let k : AllocKind = kind_of x in
    let xs : List Allocation = of_kind k t in
    let place = find-place (covers x 1) xs (good-found t x laid good) in
    let d : Allocation = record { base = 0; size = 0; kind = Fixed; live = false } in
    let w = inside x 1 (get_or xs place.0 d) (place.2 d) in
    let at = placed k xs place.0 d (areas t k laid) place.1 in
    let has : covers (4 * (x / 4)) 1 (get_or xs place.0 d) ≡ true = covers-one (get_or xs place.0 d) (4 * (x / 4)) w.live (omega (arith, w.low, at.even)) (omega (arith, w.high)) in
    (ap area_index (kind-covered k xs place.0 (4 * (x / 4)) d (areas t k laid) place.1 has), found-some (covers (4 * (x / 4)) 1) xs place.0 d place.1 has)

-- where every reading of a live address stays, memory keeps what is live
pub keeps-live : (m m' : Memory) → IsLaidOut m'.table →
    ((f : Lists → ℕ → ℕ) (x : ℕ) → is_some (find (covers x 1) (of_kind (kind_of x) m'.table)) ≡ true → shown f m' x ≡ shown f m x) → KeepsLive m m'
keeps-live m m' laid same = record {
  bytes = λ x good. same (λ l o. held l.bytes o) x (good-found m'.table x laid good);
  shadow = λ x good. same (λ l o. held l.shadow o) x (good-found m'.table x laid good);
  origins = λ x good.
      let cell = cell-found m'.table x laid good in
      same (λ l o. held l.origins (o / 4)) (4 * (x / 4)) (ap (λ (k : AllocKind). is_some (find (covers (4 * (x / 4)) 1) (of_kind k m'.table))) (index-same (kind_of (4 * (x / 4))) (kind_of x) cell.0) ∙ cell.1);
}

-- ---- a block of the heap ends

ended-others : (base : ℕ) (t : Allocations) (j : AllocKind) → area_index j ≢ area_index Heap → of_kind j (with_ended base t) ≡ of_kind j t
ended-others base t Fixed e = refl
ended-others base t Heap e = absurd (e refl)
ended-others base t Stack e = refl

kept-both : (xs : List Allocation) (bs : List (Option Lists)) (i : ℕ) (a : Allocation) (x : Option Lists) → AreBlocksOf xs bs → IsBlockOf a x → AreBlocksOf (set xs i a) (set bs i x)
kept-both [] [] i a x kept is = tt
kept-both [] (y ∷ bs) i a x kept is = absurd kept
kept-both (b ∷ xs) [] i a x kept is = absurd kept
kept-both (b ∷ xs) (y ∷ bs) zero a x kept is = (is, kept.1)
kept-both (b ∷ xs) (y ∷ bs) (suc i) a x kept is = (kept.0, kept-both xs bs i a x kept.1 is)

abbrev pub ended_memory : Memory → ℕ → ℕ → Memory
ended_memory m base i = with_row (with_ended base m.table) m Heap (set (get_or m.blocks 1 []) i None)

pub ended-memory : (m : Memory) (base i : ℕ) → IsMemory m → IsLaidOut (with_ended base m.table) → IsOnly (is_block base) m.table.heap i → IsMemory (ended_memory m base i)
ended-memory m base i is laid only =
    let d : Allocation = get_or m.table.heap i (record { base = 0; size = 0; kind = Heap; live = false }) in
    let same : d ≡ get_or m.table.heap i d = get_or_default m.table.heap i _ d only.within in
    memory-row (with_ended base m.table) m Heap (set (get_or m.blocks 1 []) i None) is laid (ended-others base m.table)
    (subst (λ (xs : List Allocation). AreBlocksOf xs (set (get_or m.blocks 1 []) i None)) (ended-set m.table.heap base i d only same)
    (kept-both m.table.heap (get_or m.blocks 1 []) i (record d { live = false }) None (is.blocks Heap) refl))

pub ended-live : (m : Memory) (base i : ℕ) → IsMemory m → IsLaidOut (with_ended base m.table) → IsOnly (is_block base) m.table.heap i → KeepsLive m (ended_memory m base i)
ended-live m base i is laid only = keeps-live m (ended_memory m base i) laid same
  where
    d : Allocation
    d = get_or m.table.heap i (record { base = 0; size = 0; kind = Heap; live = false })

    row : of_kind Heap (with_ended base m.table) ≡ set m.table.heap i (record d { live = false })
    row = sym (ended-set m.table.heap base i d only (get_or_default m.table.heap i _ d only.within))

    new : List (Option Lists)
    new = set (get_or m.blocks 1 []) i None

    at : (f : Lists → ℕ → ℕ) (x j : ℕ) → j < length m.table.heap → j ≢ i → covers x 1 (get_or (of_kind Heap (with_ended base m.table)) j d) ≡ true → shown f (ended_memory m base i) x ≡ shown f m x
    at f x j lt apart has =
        let entry : get_or (of_kind Heap (with_ended base m.table)) j d ≡ get_or m.table.heap j d = ap (λ (xs : List Allocation). get_or xs j d) row ∙ get_or-set_other m.table.heap i j (record d { live = false }) d apart in
        let old : covers x 1 (get_or m.table.heap j d) ≡ true = ap (covers x 1) (sym entry) ∙ has in
        let long : j < length (of_kind Heap (with_ended base m.table)) = omega (arith, ap (λ (xs : List Allocation). length xs) row, length-set m.table.heap i (record d { live = false }), lt) in
        shown-at f (ended_memory m base i) Heap j d x (ended-memory m base i is laid only) long has
        ∙ ap (λ (b : Option Lists). read f b (x - (get_or (of_kind Heap (with_ended base m.table)) j d).base))
        (ap (λ (bs : List (Option Lists)). get_or bs j None) (with-same (with_ended base m.table) m Heap new is.three) ∙ get_or-set_other (get_or m.blocks 1 []) i j None None apart)
        ∙ ap (λ (a : Allocation). read f (get_or (get_or m.blocks 1 []) j None) (x - a.base)) entry
        ∙ sym (shown-at f m Heap j d x is lt old)

    same : (f : Lists → ℕ → ℕ) (x : ℕ) → is_some (find (covers x 1) (of_kind (kind_of x) (with_ended base m.table))) ≡ true → shown f (ended_memory m base i) x ≡ shown f m x
    same f x has = ⊎_elim
        (λ (e : area_index (kind_of x) ≡ area_index Heap).
        let there = find-place (covers x 1) (of_kind Heap (with_ended base m.table)) (ap (λ (k : AllocKind). is_some (find (covers x 1) (of_kind k (with_ended base m.table)))) (sym (index-same (kind_of x) Heap e)) ∙ has) in
        let lt : there.0 < length m.table.heap = omega (arith, there.1, ap (λ (xs : List Allocation). length xs) row, length-set m.table.heap i (record d { live = false })) in
        at f x there.0 lt
        (λ (h : there.0 ≡ i).
        let gone : get_or (of_kind Heap (with_ended base m.table)) there.0 d ≡ record d { live = false } = ap (λ (xs : List Allocation). get_or xs there.0 d) row ∙ ap (λ (j : ℕ). get_or (set m.table.heap i (record d { live = false })) j d) h ∙ get_or-set_same m.table.heap i (record d { live = false }) d only.within in
        let w = inside x 1 (record d { live = false }) (ap (covers x 1) (sym gone) ∙ there.2 d) in
        absurd (let e : false ≡ true = w.live in cc))
        (there.2 d))
        (λ (e : area_index (kind_of x) ≢ area_index Heap). shown-apart f (with_ended base m.table) m Heap new x (ended-others base m.table) e)
        (cases_eq (area_index (kind_of x)) (area_index Heap))

-- ---- the stack is cut

released-others : (mark : ℕ) (t : Allocations) (j : AllocKind) → area_index j ≢ area_index Stack → of_kind j (without_from mark t) ≡ of_kind j t
released-others mark t Fixed e = refl
released-others mark t Heap e = refl
released-others mark t Stack e = absurd (e refl)

abbrev pub released_memory : Memory → ℕ → Memory
released_memory m mark = with_row (without_from mark m.table) m Stack (take (length (without_from mark m.table).stack) (get_or m.blocks 2 []))

pub released-memory : (m : Memory) (mark : ℕ) → IsMemory m → IsLaidOut (without_from mark m.table) → IsMemory (released_memory m mark)
released-memory m mark is laid =
    memory-row (without_from mark m.table) m Stack (take (length (without_from mark m.table).stack) (get_or m.blocks 2 [])) is laid (released-others mark m.table)
    (kept-before Stack (area_base Stack) mark m.table.stack (get_or m.blocks 2 []) is.laid_out.stack.row (is.blocks Stack))

pub released-live : (m : Memory) (mark : ℕ) → IsMemory m → IsLaidOut (without_from mark m.table) → KeepsLive m (released_memory m mark)
released-live m mark is laid = keeps-live m (released_memory m mark) laid (λ f x has. ⊎_elim
    (λ (e : area_index (kind_of x) ≡ area_index Stack).
    shown-row f (without_from mark m.table) m Stack (take (length (without_from mark m.table).stack) (get_or m.blocks 2 [])) x is.three e
    ∙ found-before f Stack (area_base Stack) mark m.table.stack (get_or m.blocks 2 []) x is.laid_out.stack.row (is.blocks Stack)
    (ap (λ (k : AllocKind). is_some (find (covers x 1) (of_kind k (without_from mark m.table)))) (sym (index-same (kind_of x) Stack e)) ∙ has)
    ∙ sym (shown-old f m Stack x e))
    (λ (e : area_index (kind_of x) ≢ area_index Stack). shown-apart f (without_from mark m.table) m Stack (take (length (without_from mark m.table).stack) (get_or m.blocks 2 [])) x (released-others mark m.table) e)
    (cases_eq (area_index (kind_of x)) (area_index Stack)))

abbrev pub memory_of : Allocations → List (List (Option Lists)) → Memory
memory_of t bs = record { table = t; blocks = bs }

-- two memories whose parts are the same
pub same-memory : (t t' : Allocations) (bs bs' : List (List (Option Lists))) → t ≡ t' → bs ≡ bs' → memory_of t bs ≡ memory_of t' bs'
same-memory t t' bs bs' e h = ap (λ (u : Allocations). record { table = u; blocks = bs }) e ∙ ap (λ (cs : List (List (Option Lists))). record { table = t'; blocks = cs }) h

-- ---- whether an allocation was made

pub row-put : (vs : List (Vec (Option Lists) Global)) (j a : ℕ) (v : Vec (Option Lists) Global) (bs : List (Option Lists)) → j ≡ a → v.items ≡ bs → lists (set vs j v) ≡ set (lists vs) a bs
row-put vs j a v bs at is = vector-set vs j v ∙ ap (λ (cs : List (Option Lists)). set (lists vs) j cs) is ∙ ap (λ (k : ℕ). set (lists vs) k bs) at

pub set-same : (xs : List (List (Option Lists))) (i : ℕ) → set xs i (get_or xs i []) ≡ xs
set-same [] i = refl
set-same (x ∷ xs) zero = refl
set-same (x ∷ xs) (suc i) = ap (λ (ys : List (List (Option Lists))). x ∷ ys) (set-same xs i)

pub was-made : {A E : Type 0} (r : Result A E) (t u : Allocations) → is_err r ≡ false → OnOk r (t ≡ u) → t ≡ u
was-made (Ok x) t u e h = h
was-made (Err x) t u e h = absurd (cc)

pub was-not : {A E : Type 0} (r : Result A E) (t u : Allocations) → is_err r ≡ true → OnErr r (t ≡ u) → t ≡ u
was-not (Ok x) t u e h = absurd (cc)
was-not (Err x) t u e h = h

pub no-ok : {A E : Type 0} (r : Result A E) (P : Type 0) → is_err r ≡ true → OnOk r P
no-ok (Ok x) P e = absurd (cc)
no-ok (Err x) P e = tt

pub all-ok : {A E : Type 0} (r : Result A E) (P : Type 0) → P → OnOk r P
all-ok (Ok x) P h = h
all-ok (Err x) P h = tt

pub no-err : {A E : Type 0} (r : Result A E) (P : Type 0) → is_err r ≡ false → OnErr r P
no-err (Ok x) P e = tt
no-err (Err x) P e = absurd (cc)

pub all-err : {A E : Type 0} (r : Result A E) (P : Type 0) → P → OnErr r P
all-err (Ok x) P h = tt
all-err (Err x) P h = h

pub is-same : (m q : Memory) → q ≡ m → IsSame m q
is-same m q e = record { table = sym (ap (λ (u : Memory). u.table) e); bytes = sym (ap bytes_of e); shadow = sym (ap shadow_of e); origins = sym (ap origins_of e) }
