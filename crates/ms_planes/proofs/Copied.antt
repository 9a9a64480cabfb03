-- Copies in and between blocks, as memory shows them.
use Rattle.std.proofs.Common.{◌≡◌, ◌≢◌, ℕ, zero, suc, ◌+◌, ◌-◌, ◌*◌, ◌/◌, ◌%◌, ◌<◌, ◌≤◌, Bool, true, false, List, [], ◌∷◌, ◌++◌, length, get_or, set, take, drop, refl, sym, ap, ◌∙◌, subst, arith, ⊎_elim, eqb, if◌then◌else◌, Option, Some, None}
use Rattle.std.proofs.Math.Path.{fun_ext}
use Rattle.std.proofs.lemmas.Bool.{cases_eq, cases_lt, eq-eqb, ne_eqb}
use Rattle.std.proofs.lemmas.List.{length-append, length-take-le, length-drop, length-set, get_or_append_left, get_or-append_right, get_or-take, get_or-drop, get_or-set_same, get_or-set_other}
use Rattle.ms_alloc.specs.declared.allocations.Allocation.{Allocation}
use Rattle.ms_alloc.specs.declared.allocations.TablePlace.{TablePlace}
use Rattle.ms_alloc.specs.declared.kinds.AllocKind.{AllocKind}
use Rattle.ms_alloc.specs.Allocations.{Allocations, covers, of_kind}
use Rattle.ms_alloc.specs.Only.{IsOnly}
use Rattle.ms_alloc.specs.Places.{IsPlace}
use Rattle.ms_bits.specs.Maps.{with_range, with_cell, copied_cells}
use Rattle.ms_raw.specs.Blocks.{Lists, IsLists}
use Rattle.ms_raw.specs.Copies.{copied as list_copied, copied_cells as cells_copied}
use Rattle.ms_planes.specs.declared.parts.Plane.{Plane}
use Rattle.ms_planes.specs.declared.parts.Plane.TheVariants.{Bytes, Shadow}
use Rattle.ms_planes.specs.Areas.{held}
use Rattle.ms_planes.specs.Blocks.{bytes_in, other, OriginsCopied, IsCopied, IsCopiedInto, IsFilled, IsFilledInto}
use Rattle.ms_planes.specs.Memory.{Memory, IsMemory, IsBlockOf, area_index, part_of, shadow_of, origins_of, MapsCopied, CellsCopied}
use Rattle.ms_planes.proofs.Ranges.{range-is, range-one, range-cell, range-same, copied-low, copied-high}
use Rattle.ms_planes.proofs.Found.{inside}
use Rattle.ms_planes.proofs.Standing.{Stands, index-same, with_block, memory-put, shown-range, shown-same, origins-are, cell-in, touched}
use Rattle.ms_planes.proofs.Readings.{part-read}

-- ---- copies within lists

pub copied-length : (xs : List ℕ) (to from n : ℕ) → to + n ≤ length xs → from + n ≤ length xs → length (list_copied xs to from n) ≡ length xs
copied-length xs to from n there here =
    omega (
      arith,
      length-append (take to xs) (take n (drop from xs) ++ drop (to + n) xs),
      length-append (take n (drop from xs)) (drop (to + n) xs),
      length-take-le to xs (omega arith),
      length-take-le n (drop from xs) (omega (arith, length-drop from xs)),
      length-drop (to + n) xs,
    )

pub copied-held : (xs : List ℕ) (to from n : ℕ) → to + n ≤ length xs → from + n ≤ length xs → held (list_copied xs to from n) ≡ with_range (held xs) to n (λ k. held xs (from + k))
copied-held xs to from n there here =
    range-is (held xs) (λ k. held xs (from + k)) (held (list_copied xs to from n)) to n
    (λ x low. get_or_append_left (take to xs) rest 0 x (omega (arith, front, low)) ∙ get_or-take to xs x 0 low)
    (λ x high. get_or-append_right (take to xs) rest to x 0 front (omega (arith, high))
    ∙ get_or-append_right (take n (drop from xs)) (drop (to + n) xs) n (x - to) 0 middle (omega (arith, high))
    ∙ get_or-drop (to + n) xs (x - to - n) 0 ∙ ap (held xs) (let e : to + n + (x - to - n) ≡ x = omega (arith, high) in e))
    (λ x low high. get_or-append_right (take to xs) rest to x 0 front low
    ∙ get_or_append_left (take n (drop from xs)) (drop (to + n) xs) 0 (x - to) (omega (arith, middle, high, low))
    ∙ get_or-take n (drop from xs) (x - to) 0 (omega (arith, high, low)) ∙ get_or-drop from xs (x - to) 0)
  where
    rest : List ℕ
    rest = take n (drop from xs) ++ drop (to + n) xs

    front : length (take to xs) ≡ to
    front = length-take-le to xs (omega (arith, there))

    middle : length (take n (drop from xs)) ≡ n
    middle = length-take-le n (drop from xs) (omega (arith, length-drop from xs, here))

step-held : (b : Bool) (xs : List ℕ) (to v : ℕ) → to / 4 + 1 ≤ length xs → held (if b then xs else set xs (to / 4) v) ≡ (if b then held xs else with_cell (held xs) to v)
step-held true xs to v lt = refl
step-held false xs to v lt = range-one xs (to / 4) v lt ∙ range-cell (held xs) to v

step-length : (b : Bool) (xs : List ℕ) (i v : ℕ) → length (if b then xs else set xs i v) ≡ length xs
step-length true xs i v = refl
step-length false xs i v = length-set xs i v

pub cells-length : (shadow old : List ℕ) (to from n : ℕ) (xs : List ℕ) → length (cells_copied shadow old to from n xs) ≡ length xs
cells-length shadow old to from zero xs = refl
cells-length shadow old to from (suc n) xs =
    cells-length shadow old (to + 1) (from + 1) n (if eqb (get_or shadow from 0) 0 then xs else set xs (to / 4) (get_or old (from / 4) 0)) ∙ step-length (eqb (get_or shadow from 0) 0) xs (to / 4) (get_or old (from / 4) 0)

pub cells-held : (shadow old : List ℕ) (to from n : ℕ) (xs : List ℕ) → to + n ≤ 4 * length xs → held (cells_copied shadow old to from n xs) ≡ copied_cells (held shadow) (held old) to from n (held xs)
cells-held shadow old to from zero xs lt = refl
cells-held shadow old to from (suc n) xs lt =
    cells-held shadow old (to + 1) (from + 1) n (if eqb (get_or shadow from 0) 0 then xs else set xs (to / 4) (get_or old (from / 4) 0)) (omega (arith, lt, step-length (eqb (get_or shadow from 0) 0) xs (to / 4) (get_or old (from / 4) 0)))
    ∙ ap (copied_cells (held shadow) (held old) (to + 1) (from + 1) n) (step-held (eqb (get_or shadow from 0) 0) xs to (get_or old (from / 4) 0) (omega (arith, lt)))

-- ---- a copy of cells by places of a block is one by addresses

cell-shift : (e : Bool) (f f' : ℕ → ℕ) (b to c v : ℕ) → b % 4 ≡ 0 → f' (b / 4 + c) ≡ f c → (if e then f' else with_cell f' (b + to) v) (b / 4 + c) ≡ (if e then f else with_cell f to v) c
cell-shift true f f' b to c v even same = same
cell-shift false f f' b to c v even same = ⊎_elim
    (λ (h : c ≡ to / 4). ap (λ t. if t then v else f' (b / 4 + c)) (eq-eqb (b / 4 + c) ((b + to) / 4) (omega (arith, h, even))) ∙ sym (ap (λ t. if t then v else f c) (eq-eqb c (to / 4) h)))
    (λ (h : c ≢ to / 4). ap (λ t. if t then v else f' (b / 4 + c)) (ne_eqb (b / 4 + c) ((b + to) / 4) (λ e. h (omega (arith, e, even)))) ∙ same ∙ sym (ap (λ t. if t then v else f c) (ne_eqb c (to / 4) h)))
    (cases_eq c (to / 4))

pub copied-shift : (sh old sh' old' : ℕ → ℕ) (b b' to from n : ℕ) (f f' : ℕ → ℕ) (c : ℕ) → b % 4 ≡ 0 →
    ((k : ℕ) → k < n → sh' (b' + (from + k)) ≡ sh (from + k)) → ((k : ℕ) → k < n → old' ((b' + (from + k)) / 4) ≡ old ((from + k) / 4)) → f' (b / 4 + c) ≡ f c →
    copied_cells sh' old' (b + to) (b' + from) n f' (b / 4 + c) ≡ copied_cells sh old to from n f c
copied-shift sh old sh' old' b b' to from zero f f' c even shadows cells same = same
copied-shift sh old sh' old' b b' to from (suc n) f f' c even shadows cells same =
    let t : b + to + 1 ≡ b + (to + 1) = omega arith in
    let s : b' + from + 1 ≡ b' + (from + 1) = omega arith in
    let now : from + 0 ≡ from = omega arith in
    let here : sh' (b' + from) ≡ sh from = ap (λ (k : ℕ). sh' (b' + k)) (sym now) ∙ shadows 0 (omega arith) ∙ ap sh now in
    let value : old' ((b' + from) / 4) ≡ old (from / 4) = ap (λ (k : ℕ). old' ((b' + k) / 4)) (sym now) ∙ cells 0 (omega arith) ∙ ap (λ (k : ℕ). old (k / 4)) now in
    let step : (if eqb (sh' (b' + from)) 0 then f' else with_cell f' (b + to) (old' ((b' + from) / 4))) (b / 4 + c) ≡ (if eqb (sh from) 0 then f else with_cell f to (old (from / 4))) c =
    ap (λ (x : ℕ). (if eqb x 0 then f' else with_cell f' (b + to) (old' ((b' + from) / 4))) (b / 4 + c)) here
    ∙ ap (λ (v : ℕ). (if eqb (sh from) 0 then f' else with_cell f' (b + to) v) (b / 4 + c)) value
    ∙ cell-shift (eqb (sh from) 0) f f' b to c (old (from / 4)) even same in
    ap (λ (x : ℕ). copied_cells sh' old' x (b' + from + 1) n (if eqb (sh' (b' + from)) 0 then f' else with_cell f' (b + to) (old' ((b' + from) / 4))) (b / 4 + c)) t
    ∙ ap (λ (x : ℕ). copied_cells sh' old' (b + (to + 1)) x n (if eqb (sh' (b' + from)) 0 then f' else with_cell f' (b + to) (old' ((b' + from) / 4))) (b / 4 + c)) s
    ∙ copied-shift sh old sh' old' b b' (to + 1) (from + 1) n (if eqb (sh from) 0 then f else with_cell f to (old (from / 4))) (if eqb (sh' (b' + from)) 0 then f' else with_cell f' (b + to) (old' ((b' + from) / 4))) c even
    (λ k l. ap (λ (j : ℕ). sh' (b' + j)) (up k) ∙ shadows (suc k) (omega (arith, l)) ∙ ap sh (sym (up k)))
    (λ k l. ap (λ (j : ℕ). old' ((b' + j) / 4)) (up k) ∙ cells (suc k) (omega (arith, l)) ∙ ap (λ (j : ℕ). old (j / 4)) (sym (up k)))
    step
  where
    up : (k : ℕ) → from + 1 + k ≡ from + suc k
    up k = omega arith

-- ---- a copy, as memory shows it

pub copied-whole : (part : Plane) (was src l : Lists) (to from n size : ℕ) → IsCopied part was src l to from n → IsLists size was → IsLists size l
copied-whole Bytes was src l to from n size c whole = record { bytes = c.len ∙ whole.bytes; shadow = ap (λ (xs : List ℕ). length xs) c.rest ∙ whole.shadow; origins = c.cells ∙ whole.origins }
copied-whole Shadow was src l to from n size c whole = record { bytes = ap (λ (xs : List ℕ). length xs) c.rest ∙ whole.bytes; shadow = c.len ∙ whole.shadow; origins = c.cells ∙ whole.origins }

cells-moved : (part : Plane) (m : Memory) (to from n : ℕ) (p q : TablePlace) (was src : Lists) (s : Stands m to n p was) (r : Stands m from n q src) (l : Lists) → IsMemory m → 0 < n → IsLists s.entry.size l →
    OriginsCopied part was src l (to - p.base) (from - q.base) n → CellsCopied part m (with_block m p.kind p.index (Some l)) to from n
cells-moved Bytes m to from n p q was src s r l is some whole change =
    fun_ext (λ c. shown-same (λ w o. held w.origins (o / 4)) m to n p was s l (4 * c) is whole (λ o. ap (λ (xs : List ℕ). held xs (o / 4)) change))
cells-moved Shadow m to from n p q was src s r l is some whole change =
    origins-are m to n p was s l F is whole
    (λ c h.
    let i : ℕ = c - p.base / 4 in
    let cell : p.base / 4 + i ≡ c = (let w = inside (4 * c) 1 s.entry h in omega (arith, w.low, s.base_is, s.even)) in
    let t : p.base + (to - p.base) ≡ to = omega (arith, s.low, s.base_is) in
    let f : q.base + (from - q.base) ≡ from = omega (arith, r.low, r.base_is) in
    ap (λ (g : ℕ → ℕ). g i) change
    ∙ sym (copied-shift (held src.shadow) (held src.origins) (shadow_of m) (origins_of m) p.base q.base (to - p.base) (from - q.base) n (held was.origins) (origins_of m) i (omega (arith, s.base_is, s.even)) shadows cells
    (ap (origins_of m) cell ∙ cell-in m to n p was s c is h))
    ∙ ap (λ (x : ℕ). copied_cells (shadow_of m) (origins_of m) x (q.base + (from - q.base)) n (origins_of m) (p.base / 4 + i)) t
    ∙ ap (λ (x : ℕ). copied_cells (shadow_of m) (origins_of m) to x n (origins_of m) (p.base / 4 + i)) f
    ∙ ap F cell)
    (λ c h. sym (out c h))
  where
    F : ℕ → ℕ
    F = copied_cells (shadow_of m) (origins_of m) to from n (origins_of m)

    at : (k : ℕ) → q.base + (from - q.base + k) ≡ from + k
    at k = omega (arith, r.low, r.base_is)

    shadows : (k : ℕ) → k < n → shadow_of m (q.base + (from - q.base + k)) ≡ held src.shadow (from - q.base + k)
    shadows k lt = ap (shadow_of m) (at k) ∙ part-read Shadow m from n q src r k is lt

    cells : (k : ℕ) → k < n → origins_of m ((q.base + (from - q.base + k)) / 4) ≡ held src.origins ((from - q.base + k) / 4)
    cells k lt =
        ap (λ (x : ℕ). origins_of m (x / 4)) (at k) ∙ cell-in m from n q src r ((from + k) / 4) is (touched m from n q src r ((from + k) / 4) some (omega arith) (omega (arith, lt)))
        ∙ ap (held src.origins) (let e : (from + k) / 4 - q.base / 4 ≡ (from - q.base + k) / 4 = omega (arith, r.low, r.base_is, r.even) in e)

    out : (c : ℕ) → covers (4 * c) 1 s.entry ≡ false → F c ≡ origins_of m c
    out c h = ⊎_elim
        (λ (low : c < to / 4). copied-low (shadow_of m) (origins_of m) to from n (origins_of m) c low)
        (λ (low : to / 4 ≤ c). ⊎_elim
        (λ (high : (to + n - 1) / 4 < c). copied-high (shadow_of m) (origins_of m) to from n (origins_of m) c high)
        (λ (high : c ≤ (to + n - 1) / 4). absurd (let e = sym h ∙ touched m to n p was s c some low high in cc))
        (cases_lt ((to + n - 1) / 4) c))
        (cases_lt c (to / 4))

pub record CopyDone (part : Plane) (m m' : Memory) (to from n : ℕ) : Type 0 where
  pub memory : IsMemory m'
  pub maps : MapsCopied part m m' to from n

pub copy-done : (part : Plane) (m : Memory) (to from n : ℕ) (p q : TablePlace) (was src : Lists) (s : Stands m to n p was) (r : Stands m from n q src) (l : Lists) → IsMemory m → 0 < n →
    IsCopied part was src l (to - p.base) (from - q.base) n → CopyDone part m (with_block m p.kind p.index (Some l)) to from n
copy-done part m to from n p q was src s r l is some c =
    let whole : IsLists s.entry.size l = copied-whole part was src l (to - p.base) (from - q.base) n s.entry.size c s.whole in
    record {
      memory = memory-put m p.kind p.index s.entry (Some l) is s.inside_table (subst (λ (a : Allocation). IsBlockOf a (Some l)) (sym (s.entry_is s.entry)) (s.alive, whole));
      maps = record {
        shown = shown-range (λ w o. held (bytes_in part w) o) m to n p was s l (λ k. held (bytes_in part src) (from - q.base + k)) is whole c.shown
            ∙ range-same (part_of part m) (λ k. held (bytes_in part src) (from - q.base + k)) (λ k. part_of part m (from + k)) to n (λ k lt. sym (part-read part m from n q src r k is lt));
        rest = fun_ext (λ x. shown-same (λ w o. held (bytes_in (other part) w) o) m to n p was s l x is whole (λ o. ap (λ (xs : List ℕ). held xs o) c.rest));
        origins = cells-moved part m to from n p q was src s r l is some whole c.origins;
      };
    }

-- ---- a block that is taken out and put back

pub set-undo : {X : Type 0} (xs : List X) (j : ℕ) (z d : X) → j < length xs → set (set xs j z) j (get_or xs j d) ≡ xs
set-undo [] j z d lt = absurd (omega arith)
set-undo (x ∷ xs) zero z d lt = refl
set-undo (x ∷ xs) (suc j) z d lt = ap (λ ys. x ∷ ys) (set-undo xs j z d (omega arith))

pub set-back : {X : Type 0} (xs : List X) (i j : ℕ) (y z d : X) → i ≢ j → j < length xs → set (set (set xs j z) i y) j (get_or xs j d) ≡ set xs i y
set-back [] i j y z d apart lt = absurd (omega arith)
set-back (x ∷ xs) zero zero y z d apart lt = absurd (apart refl)
set-back (x ∷ xs) zero (suc j) y z d apart lt = ap (λ ys. y ∷ ys) (set-undo xs j z d (omega arith))
set-back (x ∷ xs) (suc i) zero y z d apart lt = refl
set-back (x ∷ xs) (suc i) (suc j) y z d apart lt = ap (λ ys. x ∷ ys) (set-back xs i j y z d (λ e. apart (ap suc e)) (omega arith))

pub set-twice : {X : Type 0} (xs : List X) (i : ℕ) (y z : X) → set (set xs i y) i z ≡ set xs i z
set-twice [] i y z = refl
set-twice (x ∷ xs) zero y z = refl
set-twice (x ∷ xs) (suc i) y z = ap (λ ys. x ∷ ys) (set-twice xs i y z)

-- another block in a place of lists of blocks
abbrev pub put : List (List (Option Lists)) → ℕ → ℕ → Option Lists → List (List (Option Lists))
put bs a i x = set bs a (set (get_or bs a []) i x)

pub put-row : (bs : List (List (Option Lists))) (a b i : ℕ) (x : Option Lists) → a < length bs → length (get_or (put bs a i x) b []) ≡ length (get_or bs b [])
put-row bs a b i x low = ⊎_elim
    (λ (e : b ≡ a). ap (λ (k : ℕ). length (get_or (put bs a i x) k [])) e ∙ ap (λ (r : List (Option Lists)). length r) (get_or-set_same bs a (set (get_or bs a []) i x) [] low) ∙ length-set (get_or bs a []) i x ∙ sym (ap (λ (k : ℕ). length (get_or bs k [])) e))
    (λ (e : b ≢ a). ap (λ (r : List (Option Lists)). length r) (get_or-set_other bs a b (set (get_or bs a []) i x) [] e))
    (cases_eq b a)

-- what another place holds stays
pub put-other : (bs : List (List (Option Lists))) (a b i j : ℕ) (x : Option Lists) → a < length bs → (b ≡ a → j ≢ i) → get_or (get_or (put bs a i x) b []) j None ≡ get_or (get_or bs b []) j None
put-other bs a b i j x low apart = ⊎_elim
    (λ (e : b ≡ a). ap (λ (k : ℕ). get_or (get_or (put bs a i x) k []) j None) e ∙ ap (λ (r : List (Option Lists)). get_or r j None) (get_or-set_same bs a (set (get_or bs a []) i x) [] low)
    ∙ get_or-set_other (get_or bs a []) i j x None (apart e) ∙ sym (ap (λ (k : ℕ). get_or (get_or bs k []) j None) e))
    (λ (e : b ≢ a). ap (λ (r : List (Option Lists)). get_or r j None) (get_or-set_other bs a b (set (get_or bs a []) i x) [] e))
    (cases_eq b a)

pub put-back : (bs : List (List (Option Lists))) (a b i j : ℕ) (y : Option Lists) → a < length bs → b < length bs → j < length (get_or bs b []) → (a ≡ b → i ≢ j) →
    put (put (put bs b j None) a i y) b j (get_or (get_or bs b []) j None) ≡ put bs a i y
put-back bs a b i j y la lb lj apart = ⊎_elim
    (λ (e : a ≡ b). subst (λ (k : ℕ). put (put (put bs k j None) a i y) k j (get_or (get_or bs k []) j None) ≡ put bs a i y) e (same (subst (λ (k : ℕ). j < length (get_or bs k [])) (sym e) lj) (apart e)))
    other'
    (cases_eq a b)
  where
    row : List (Option Lists)
    row = get_or bs a []

    same : j < length (get_or bs a []) → i ≢ j → put (put (put bs a j None) a i y) a j (get_or (get_or bs a []) j None) ≡ put bs a i y
    same long ne =
        let r1 : get_or (put bs a j None) a [] ≡ set (get_or bs a []) j None = get_or-set_same bs a (set (get_or bs a []) j None) [] la in
        let p2 : put (put bs a j None) a i y ≡ set bs a (set (set (get_or bs a []) j None) i y) =
        ap (λ (r : List (Option Lists)). set (put bs a j None) a (set r i y)) r1 ∙ set-twice bs a (set (get_or bs a []) j None) (set (set (get_or bs a []) j None) i y) in
        let t : Option Lists = get_or (get_or bs a []) j None in
        ap (λ (cs : List (List (Option Lists))). put cs a j t) p2
        ∙ ap (λ (r : List (Option Lists)). set (set bs a (set (set (get_or bs a []) j None) i y)) a (set r j t)) (get_or-set_same bs a (set (set (get_or bs a []) j None) i y) [] la)
        ∙ set-twice bs a (set (set (get_or bs a []) j None) i y) (set (set (set (get_or bs a []) j None) i y) j t)
        ∙ ap (λ (r : List (Option Lists)). set bs a r) (set-back (get_or bs a []) i j y None None ne long)

    other' : a ≢ b → put (put (put bs b j None) a i y) b j (get_or (get_or bs b []) j None) ≡ put bs a i y
    other' ne =
        let p1 : List (List (Option Lists)) = put bs b j None in
        let ra : get_or p1 a [] ≡ get_or bs a [] = get_or-set_other bs b a (set (get_or bs b []) j None) [] ne in
        let t : Option Lists = get_or (get_or bs b []) j None in
        let rb : get_or (set p1 a (set (get_or bs a []) i y)) b [] ≡ set (get_or bs b []) j None =
        get_or-set_other p1 a b (set (get_or bs a []) i y) [] (λ e. ne (sym e)) ∙ get_or-set_same bs b (set (get_or bs b []) j None) [] lb in
        ap (λ (r : List (Option Lists)). put (set p1 a (set r i y)) b j t) ra
        ∙ ap (λ (r : List (Option Lists)). set (set p1 a (set (get_or bs a []) i y)) b (set r j t)) rb
        ∙ ap (λ (r : List (Option Lists)). set (set p1 a (set (get_or bs a []) i y)) b r) (set-undo (get_or bs b []) j None None lj)
        ∙ set-back bs a b (set (get_or bs a []) i y) (set (get_or bs b []) j None) [] ne lb

-- a copy into a block that is there leaves one there
pub into-some : (part : Plane) (was src : Lists) (x : Option Lists) (to from n : ℕ) → IsCopiedInto part (Some was) (Some src) x to from n → (l : Lists) × (x ≡ Some l) × IsCopied part was src l to from n
into-some part was src None to from n h = absurd h
into-some part was src (Some l) to from n h = (l, refl, h)

-- a fill of a block that is there leaves one there
pub filled-some : (part : Plane) (was : Lists) (x : Option Lists) (at n v : ℕ) → IsFilledInto part (Some was) x at n v → (l : Lists) × (x ≡ Some l) × IsFilled part was l at n v
filled-some part was None at n v h = absurd h
filled-some part was (Some l) at n v h = (l, refl, h)

-- two places of one index are one
pub place-same : (t : Allocations) (p q : TablePlace) (to from n : ℕ) → IsPlace p.kind (of_kind p.kind t) to n p → IsPlace q.kind (of_kind q.kind t) from n q → area_index p.kind ≡ area_index q.kind → p.index ≡ q.index →
    IsPlace p.kind (of_kind p.kind t) from n p
place-same t p q to from n here there kinds index =
    let same : q.kind ≡ p.kind = sym (index-same p.kind q.kind kinds) in
    record {
      kind_is = refl;
      only = subst (IsOnly (covers from n) (of_kind p.kind t)) (sym index) (subst (λ (k : AllocKind). IsOnly (covers from n) (of_kind k t) q.index) same there.only);
      base_is = here.base_is;
    }
