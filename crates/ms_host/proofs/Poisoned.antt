-- Worlds whose shadow and cells were changed, and poisoned bytes that are found.
use Rattle.std.proofs.Common.{◌≡◌, ◌≢◌, ℕ, zero, suc, ◌+◌, ◌-◌, ◌%◌, ◌<◌, ◌≤◌, Bool, true, false, refl, sym, ap, ◌∙◌, subst, arith, if◌then◌else◌, IsTrue, eqb, Option, Some, None, MatchOption, ◌^◌, ◌&&◌, ltb}
use Rattle.std.proofs.lemmas.Bool.{lt-ltb, and_from, and_right, eq-eqb, ne_eqb}
use Rattle.ms_alloc.specs.Allocations.{Allocations, is_good as is_live}
use Rattle.ms_bits.specs.Maps.{with_range, with_cells, with_cell, first_nonzero, number_at, copied, copied_cells}
use Rattle.ms_planes.specs.Memory.{Memory, bytes_of, shadow_of, origins_of}
use Rattle.ms_runs.specs.World.{World}
use Rattle.ms_runs.specs.Memory.{is_good, set_cells, set_shadow, copy_shadow}
use Rattle.ms_runs.specs.Origins.{poison, unpoison, copy_planes, first_in_string}
use Rattle.ms_host.specs.State.{WorldState, Beside}
use Rattle.ms_host.specs.Shows.{Agrees, Shows}
use Rattle.ms_host.specs.Poisonings.{with_mark}
use Rattle.ms_host.proofs.Liveness.{part-live}
use Rattle.ms_host.proofs.Agreement.{cells-agree, cell-agrees, range-agrees}
use Rattle.ms_host.proofs.Changes.{good-of, changed, kept, cells-kept, shadow-set, shadow-copied}

-- ---- tests

pub shows-yes : (w : WorldState) (beside : Beside) (b : Bool) (x y : World) → b ≡ true → Shows w beside x → Shows w beside (if b then x else y)
shows-yes w beside true x y e h = h
shows-yes w beside false x y e h = absurd (cc)

pub shows-no : (w : WorldState) (beside : Beside) (b : Bool) (x y : World) → b ≡ false → Shows w beside y → Shows w beside (if b then x else y)
shows-no w beside true x y e h = absurd (cc)
shows-no w beside false x y e h = h

pub none-then : {A : Type 0} (o : Option A) (P : Type 0) (Q : A → Type 0) → ((x : A) → o ≡ Some x → ⊥) → MatchOption o P Q → P
none-then None P Q never m = m
none-then (Some x) P Q never m = absurd (never x refl)

-- ---- shadow and cells

-- shadow bytes and the cells that they touch were written
pub poison-set : (w : WorldState) (beside : Beside) (world : World) (m : Memory) (addr n origin : ℕ) (new : ℕ → ℕ) → Shows w beside world → m.table ≡ w.planes.table →
    bytes_of m ≡ bytes_of w.planes → shadow_of m ≡ with_range (shadow_of w.planes) addr n new → origins_of m ≡ with_cells (origins_of w.planes) addr n origin →
    Shows (record w { planes = m }) beside (set_cells addr n origin (set_shadow addr n new world))
poison-set w beside world m addr n origin new shows same b s o =
    changed w beside world m world.bytes (with_range world.shadow addr n new) (with_cells world.origins addr n origin) shows same
    (kept w.planes.table world.bytes (bytes_of w.planes) (bytes_of m) b shows.bytes)
    (kept w.planes.table (with_range world.shadow addr n new) (with_range (shadow_of w.planes) addr n new) (shadow_of m) s (range-agrees w.planes.table world.shadow (shadow_of w.planes) addr n new shows.shadow))
    (cells-kept w.planes.table (with_cells world.origins addr n origin) (with_cells (origins_of w.planes) addr n origin) (origins_of m) o (cells-agree w.planes.table world.origins (origins_of w.planes) addr n origin shows.origins))

-- a cell was written
pub cell-set : (w : WorldState) (beside : Beside) (world : World) (m : Memory) (addr origin : ℕ) → Shows w beside world → m.table ≡ w.planes.table →
    bytes_of m ≡ bytes_of w.planes → shadow_of m ≡ shadow_of w.planes → origins_of m ≡ with_cell (origins_of w.planes) addr origin →
    Shows (record w { planes = m }) beside (record world { origins = with_cell world.origins addr origin })
cell-set w beside world m addr origin shows same b s o =
    changed w beside world m world.bytes world.shadow (with_cell world.origins addr origin) shows same
    (kept w.planes.table world.bytes (bytes_of w.planes) (bytes_of m) b shows.bytes)
    (kept w.planes.table world.shadow (shadow_of w.planes) (shadow_of m) s shows.shadow)
    (cells-kept w.planes.table (with_cell world.origins addr origin) (with_cell (origins_of w.planes) addr origin) (origins_of m) o (cell-agrees w.planes.table world.origins (origins_of w.planes) addr origin shows.origins))

-- good bytes were poisoned
pub poisoned : (w : WorldState) (beside : Beside) (world : World) (m : Memory) (a from to origin : ℕ) → Shows w beside world → from < to → is_live ((a + from) % 2 ^ 64) (to - from) w.planes.table ≡ true → m.table ≡ w.planes.table →
    bytes_of m ≡ bytes_of w.planes → shadow_of m ≡ with_range (shadow_of w.planes) ((a + from) % 2 ^ 64) (to - from) (λ k. 255) → origins_of m ≡ with_cells (origins_of w.planes) ((a + from) % 2 ^ 64) (to - from) origin →
    Shows (record w { planes = m }) beside (poison a from to origin world)
poisoned w beside world m a from to origin shows some good same b s o =
    let p : ℕ = (a + from) % 2 ^ 64 in
    shows-yes (record w { planes = m }) beside (ltb from to && is_good world p (to - from)) (set_cells p (to - from) origin (set_shadow p (to - from) (λ k. 255) world)) world
    (and_from _ _ (lt-ltb from to some) (good-of w beside world p (to - from) shows ∙ good))
    (poison-set w beside world m p (to - from) origin (λ k. 255) shows same b s o)

-- bytes that aren't good stay
pub not-poisoned : (w : WorldState) (beside : Beside) (world : World) (a from to origin : ℕ) → Shows w beside world → is_live ((a + from) % 2 ^ 64) (to - from) w.planes.table ≡ false → Shows w beside (poison a from to origin world)
not-poisoned w beside world a from to origin shows bad =
    let p : ℕ = (a + from) % 2 ^ 64 in
    shows-no w beside (ltb from to && is_good world p (to - from)) (set_cells p (to - from) origin (set_shadow p (to - from) (λ k. 255) world)) world
    (and_right (ltb from to) (is_good world p (to - from)) (good-of w beside world p (to - from) shows ∙ bad)) shows

-- good bytes were made clean, and others stay
pub cleaned : (w : WorldState) (beside : Beside) (world : World) (m : Memory) (a n : ℕ) → Shows w beside world → is_live a n w.planes.table ≡ true → m.table ≡ w.planes.table →
    bytes_of m ≡ bytes_of w.planes → shadow_of m ≡ with_range (shadow_of w.planes) a n (λ k. 0) → origins_of m ≡ origins_of w.planes → Shows (record w { planes = m }) beside (unpoison a n world)
cleaned w beside world m a n shows good same b s o =
    shows-yes (record w { planes = m }) beside (is_good world a n) (set_shadow a n (λ k. 0) world) world (good-of w beside world a n shows ∙ good) (shadow-set w beside world m a n (λ k. 0) shows same b s o)

pub not-cleaned : (w : WorldState) (beside : Beside) (world : World) (a n : ℕ) → Shows w beside world → is_live a n w.planes.table ≡ false → Shows w beside (unpoison a n world)
not-cleaned w beside world a n shows bad = shows-no w beside (is_good world a n) (set_shadow a n (λ k. 0) world) world (good-of w beside world a n shows ∙ bad) shows

-- shadow and origins were copied, where both ranges are good
pub planes-copied : (w : WorldState) (beside : Beside) (world : World) (m : Memory) (to from n : ℕ) → Shows w beside world → is_live to n w.planes.table ≡ true → is_live from n w.planes.table ≡ true → m.table ≡ w.planes.table →
    bytes_of m ≡ bytes_of w.planes → shadow_of m ≡ copied (shadow_of w.planes) to from n → origins_of m ≡ copied_cells (shadow_of w.planes) (origins_of w.planes) to from n (origins_of w.planes) →
    Shows (record w { planes = m }) beside (copy_planes to from n world)
planes-copied w beside world m to from n shows good_to good_from same b s o =
    shows-yes (record w { planes = m }) beside (is_good world to n && is_good world from n) (copy_shadow to from n world) world
    (and_from _ _ (good-of w beside world to n shows ∙ good_to) (good-of w beside world from n shows ∙ good_from))
    (shadow-copied w beside world m to from n shows good_from same b s o)

pub not-copied : (w : WorldState) (beside : Beside) (world : World) (to from n : ℕ) → (is_good world to n && is_good world from n) ≡ false → Shows w beside world → Shows w beside (copy_planes to from n world)
not-copied w beside world to from n bad shows = shows-no w beside (is_good world to n && is_good world from n) (copy_shadow to from n world) world bad shows

-- a live byte's cell was marked
pub marked : (w : WorldState) (beside : Beside) (world : World) (m : Memory) (a live origin : ℕ) → Shows w beside world → live ≡ a → is_live live 1 w.planes.table ≡ true → m.table ≡ w.planes.table →
    bytes_of m ≡ bytes_of w.planes → shadow_of m ≡ shadow_of w.planes → origins_of m ≡ with_cell (origins_of w.planes) live origin →
    Shows (record w { planes = m }) beside (with_mark a origin world)
marked w beside world m a live origin shows at good same b s o =
    subst (λ (x : ℕ). Shows (record w { planes = m }) beside (with_mark x origin world)) at
    (shows-yes (record w { planes = m }) beside (is_good world live 1) (record world { origins = with_cell world.origins live origin }) world (good-of w beside world live 1 shows ∙ good)
    (cell-set w beside world m live origin shows same b s o))

-- a byte that isn't live has no cell to mark
pub not-marked : (w : WorldState) (beside : Beside) (world : World) (a origin : ℕ) → Shows w beside world → is_live a 1 w.planes.table ≡ false → Shows w beside (with_mark a origin world)
not-marked w beside world a origin shows dead =
    shows-no w beside (is_good world a 1) (record world { origins = with_cell world.origins a origin }) world (good-of w beside world a 1 shows ∙ dead) shows

-- ---- bytes that are found

pub one-byte : (f : ℕ → ℕ) (a : ℕ) → number_at f a 1 ≡ f a
one-byte f a = omega arith

-- a byte that is found stands in the range
found-at : (f : ℕ → ℕ) (a n x : ℕ) → Some x ≡ first_nonzero f a n → (a ≤ x) × (x < a + n)
found-at f a zero x e = absurd (cc)
found-at f a (suc n) x e = by (found-at f (a + 1) n x) (eqb (f a) 0) e
  where
    by : (Some x ≡ first_nonzero f (a + 1) n → (a + 1 ≤ x) × (x < a + 1 + n)) → (b : Bool) → Some x ≡ (if b then first_nonzero f (a + 1) n else Some a) → (a ≤ x) × (x < a + suc n)
    by later true h = let r = later h in (omega (arith, r.0), omega (arith, r.1))
    by later false h = let here : x ≡ a = cc in (omega (arith, here), omega (arith, here))

pub found-within : (f : ℕ → ℕ) (a n k : ℕ) → Some (a + k) ≡ first_nonzero f a n → k < n
found-within f a n k e = let r = found-at f a n (a + k) e in omega (arith, r.1)

first-alike : (f g : ℕ → ℕ) (a n : ℕ) → ((k : ℕ) → k < n → f (a + k) ≡ g (a + k)) → first_nonzero f a n ≡ first_nonzero g a n
first-alike f g a zero same = refl
first-alike f g a (suc n) same =
    let here : a ≡ a + 0 = omega arith in
    let first : f a ≡ g a = ap f here ∙ same 0 (omega arith) ∙ ap g (sym here) in
    let rest : first_nonzero f (a + 1) n ≡ first_nonzero g (a + 1) n =
    first-alike f g (a + 1) n (λ k l. let next : a + 1 + k ≡ a + suc k = omega arith in ap f next ∙ same (suc k) (omega arith) ∙ ap g (sym next)) in
    ap (λ (v : ℕ). if eqb v 0 then first_nonzero f (a + 1) n else Some a) first
    ∙ ap (λ (o : Option ℕ). if eqb (g a) 0 then o else Some a) rest

pub first-agrees : (t : Allocations) (f g : ℕ → ℕ) (a n : ℕ) → Agrees t f g → IsTrue (is_live a n t) → first_nonzero f a n ≡ first_nonzero g a n
first-agrees t f g a n same good = first-alike f g a n (λ k l. same (a + k) (part-live t a n k good l))

-- ---- strings

-- the search goes on after a clean byte that isn't 0
pub string-clean : (world : World) (a k room : ℕ) → k < room → world.shadow (a + k) ≡ 0 → world.bytes (a + k) ≢ 0 → first_in_string world (a + k) (room - k) ≡ first_in_string world (a + (k + 1)) (room - (k + 1))
string-clean world a k room l clean some =
    let n : room - k ≡ suc (room - (k + 1)) = omega (arith, l) in
    let b : a + k + 1 ≡ a + (k + 1) = omega arith in
    ap (first_in_string world (a + k)) n
    ∙ ap (λ (c : Bool). if c then (if eqb (world.bytes (a + k)) 0 then None else first_in_string world (a + k + 1) (room - (k + 1))) else Some (a + k)) (eq-eqb (world.shadow (a + k)) 0 clean)
    ∙ ap (λ (c : Bool). if c then None else first_in_string world (a + k + 1) (room - (k + 1))) (ne_eqb (world.bytes (a + k)) 0 some)
    ∙ ap (λ (x : ℕ). first_in_string world x (room - (k + 1))) b

-- it ends at a byte with shadow
pub string-poisoned : (world : World) (a k room : ℕ) → k < room → world.shadow (a + k) ≢ 0 → first_in_string world (a + k) (room - k) ≡ Some (a + k)
string-poisoned world a k room l dirty =
    let n : room - k ≡ suc (room - (k + 1)) = omega (arith, l) in
    ap (first_in_string world (a + k)) n
    ∙ ap (λ (c : Bool). if c then (if eqb (world.bytes (a + k)) 0 then None else first_in_string world (a + k + 1) (room - (k + 1))) else Some (a + k)) (ne_eqb (world.shadow (a + k)) 0 dirty)

-- and at a clean zero byte
pub string-ended : (world : World) (a k room : ℕ) → k < room → world.shadow (a + k) ≡ 0 → world.bytes (a + k) ≡ 0 → first_in_string world (a + k) (room - k) ≡ None
string-ended world a k room l clean none =
    let n : room - k ≡ suc (room - (k + 1)) = omega (arith, l) in
    ap (first_in_string world (a + k)) n
    ∙ ap (λ (c : Bool). if c then (if eqb (world.bytes (a + k)) 0 then None else first_in_string world (a + k + 1) (room - (k + 1))) else Some (a + k)) (eq-eqb (world.shadow (a + k)) 0 clean)
    ∙ ap (λ (c : Bool). if c then None else first_in_string world (a + k + 1) (room - (k + 1))) (eq-eqb (world.bytes (a + k)) 0 none)
