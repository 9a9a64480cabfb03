-- Worlds that show a changed world of the definitions.
use Rattle.std.proofs.Common.{◌≡◌, ℕ, zero, suc, eqb, ltb, ◌+◌, ◌-◌, ◌/◌, ◌<◌, ◌≤◌, Bool, true, false, List, [], ◌∷◌, ◌++◌, refl, sym, ap, ◌∙◌, subst, arith, ⊎_elim, ◌⊎◌, inl, inr, ◌&&◌, ◌^◌, if◌then◌else◌, IsTrue, None, MatchBool, leb, Result, Ok, Err}
use Rattle.std.specs.Prelude.{IsErrOf}
use Rattle.std.proofs.lemmas.Bool.{le-leb, lt-leb, and_parts, leb-true, ltb-true, cases_eq}
use Rattle.ms_alloc.specs.declared.kinds.AllocKind.{AllocKind}
use Rattle.ms_alloc.specs.declared.errors.AllocError.{AllocError}
use Rattle.ms_alloc.specs.declared.errors.AllocError.TheVariants as refused
use Rattle.ms_alloc.specs.Layout.{room as room_taken, area_limit as limit_of}
use Rattle.ms_alloc.specs.Allocations.{Allocations, IsLaidOut, of_kind, with_made, with_ended, without_from, used as taken_by, next_base as base_after, is_good as is_live}
use Rattle.ms_bits.specs.Fill.{made_byte}
use Rattle.ms_bits.specs.Maps.{within, with_range, touches, with_cells, with_cell, copied, copied_cells}
use Rattle.ms_planes.specs.Memory.{Memory, bytes_of, shadow_of, origins_of, IsSame, KeepsLive}
use Rattle.ms_planes.proofs.Reaches.{good-reaches}
use Rattle.ms_planes.proofs.Ranges.{range-in, touches-true}
use Rattle.ms_runs.specs.World.{Allocation, World}
use Rattle.ms_runs.specs.Memory.{is_good, heap_size, fits, next_base, make, end_block, keeps}
use Rattle.ms_runs.specs.Control.{release}
use Rattle.ms_host.specs.Shows.{Agrees, CellsAgree, area_of, allocation_of, Lists, Shows, Allocated, Cleared}
use Rattle.ms_host.proofs.Liveness.{part-live}
use Rattle.ms_host.proofs.Agreement.{range-agrees, cells-agree}
use Rattle.ms_host.specs.State.{WorldState, Beside, Keeps}
use Rattle.ms_host.proofs.Tables.{good-same, base-same, fits-same, made-lists, made-live, ended-lists, ended-live, kept-lists, kept-live, no-block}

pub good-of : (w : WorldState) (beside : Beside) (world : World) (addr n : ℕ) → Shows w beside world → is_good world addr n ≡ is_live addr n w.planes.table
good-of w beside world addr n shows = good-same w.planes.table world addr n shows.allocs

pub on-true : (b : Bool) (P Q : Type 0) → b ≡ true → P → MatchBool b P Q
on-true true P Q e p = p
on-true false P Q e p = absurd (cc)

pub on-false : (b : Bool) (P Q : Type 0) → b ≡ false → Q → MatchBool b P Q
on-false true P Q e q = absurd (cc)
on-false false P Q e q = q

-- the planes changed, and not the table
pub changed : (w : WorldState) (beside : Beside) (world : World) (m : Memory) (bytes shadow origins : ℕ → ℕ) → Shows w beside world → m.table ≡ w.planes.table →
    Agrees w.planes.table bytes (bytes_of m) → Agrees w.planes.table shadow (shadow_of m) → CellsAgree w.planes.table origins (origins_of m) →
    Shows (record w { planes = m }) beside (record world { bytes = bytes; shadow = shadow; origins = origins })
changed w beside world m bytes shadow origins shows same b s o = record {
  allocs = subst (λ (t : Allocations). Lists t world.allocs) (sym same) shows.allocs;
  bytes = subst (λ (t : Allocations). Agrees t bytes (bytes_of m)) (sym same) b;
  shadow = subst (λ (t : Allocations). Agrees t shadow (shadow_of m)) (sym same) s;
  origins = subst (λ (t : Allocations). CellsAgree t origins (origins_of m)) (sym same) o;
  made = shows.made;
  input = shows.input;
  output = shows.output;
  pairs = shows.pairs;
  reports = shows.reports;
  blind = shows.blind;
  fibers = shows.fibers;
}

pub kept : (t : Allocations) (f g g' : ℕ → ℕ) → g' ≡ g → Agrees t f g → Agrees t f g'
kept t f g g' same agrees = subst (Agrees t f) (sym same) agrees

pub cells-kept : (t : Allocations) (f g g' : ℕ → ℕ) → g' ≡ g → CellsAgree t f g → CellsAgree t f g'
cells-kept t f g g' same agrees = subst (CellsAgree t f) (sym same) agrees

-- bytes were written
pub bytes-set : (w : WorldState) (beside : Beside) (world : World) (m : Memory) (addr n : ℕ) (new : ℕ → ℕ) → Shows w beside world → m.table ≡ w.planes.table →
    bytes_of m ≡ with_range (bytes_of w.planes) addr n new → shadow_of m ≡ shadow_of w.planes → origins_of m ≡ origins_of w.planes →
    Shows (record w { planes = m }) beside (record world { bytes = with_range world.bytes addr n new })
bytes-set w beside world m addr n new shows same b s o =
    changed w beside world m (with_range world.bytes addr n new) world.shadow world.origins shows same
    (kept w.planes.table (with_range world.bytes addr n new) (with_range (bytes_of w.planes) addr n new) (bytes_of m) b (range-agrees w.planes.table world.bytes (bytes_of w.planes) addr n new shows.bytes))
    (kept w.planes.table world.shadow (shadow_of w.planes) (shadow_of m) s shows.shadow)
    (cells-kept w.planes.table world.origins (origins_of w.planes) (origins_of m) o shows.origins)

-- shadow bytes were written
pub shadow-set : (w : WorldState) (beside : Beside) (world : World) (m : Memory) (addr n : ℕ) (new : ℕ → ℕ) → Shows w beside world → m.table ≡ w.planes.table →
    bytes_of m ≡ bytes_of w.planes → shadow_of m ≡ with_range (shadow_of w.planes) addr n new → origins_of m ≡ origins_of w.planes →
    Shows (record w { planes = m }) beside (record world { shadow = with_range world.shadow addr n new })
shadow-set w beside world m addr n new shows same b s o =
    changed w beside world m world.bytes (with_range world.shadow addr n new) world.origins shows same
    (kept w.planes.table world.bytes (bytes_of w.planes) (bytes_of m) b shows.bytes)
    (kept w.planes.table (with_range world.shadow addr n new) (with_range (shadow_of w.planes) addr n new) (shadow_of m) s (range-agrees w.planes.table world.shadow (shadow_of w.planes) addr n new shows.shadow))
    (cells-kept w.planes.table world.origins (origins_of w.planes) (origins_of m) o shows.origins)

-- ---- one more allocation

-- a new allocation's bytes agree where they are set
range-made : (t : Allocations) (k : AllocKind) (f g : ℕ → ℕ) (n : ℕ) (new : ℕ → ℕ) → Agrees t f g →
    Agrees (with_made k n t) (with_range f (base_after k t) n new) (with_range g (base_after k t) n new)
range-made t k f g n new same x live = ⊎_elim
    (λ (e : IsTrue (is_live x 1 t)). range-agrees t f g (base_after k t) n new same x e)
    (λ (e : (base_after k t ≤ x) × (x < base_after k t + n)). range-in f new (base_after k t) n x e.0 e.1 ∙ sym (range-in g new (base_after k t) n x e.0 e.1))
    (made-live t k n x live)

cells-made : (t : Allocations) (k : AllocKind) (f g : ℕ → ℕ) (n origin : ℕ) → CellsAgree t f g →
    CellsAgree (with_made k n t) (with_cells f (base_after k t) n origin) (with_cells g (base_after k t) n origin)
cells-made t k f g n origin same x live = ⊎_elim
    (λ (e : IsTrue (is_live x 1 t)). cells-agree t f g (base_after k t) n origin same x e)
    (λ (e : (base_after k t ≤ x) × (x < base_after k t + n)).
    let touched : touches (base_after k t) n (x / 4) ≡ true = touches-true (base_after k t) n (x / 4) (omega (arith, e.0, e.1)) (omega (arith, e.0)) (omega (arith, e.1)) in
    ap (λ (b : Bool). if b then origin else f (x / 4)) touched ∙ sym (ap (λ (b : Bool). if b then origin else g (x / 4)) touched))
    (made-live t k n x live)

-- the world with an allocation of n zero bytes at b
abbrev zero_at : AllocKind → (b n : ℕ) → World → World
zero_at k b n world = record world {
  allocs = world.allocs ++ record { base = b; size = n; area = area_of k; live = true } ∷ [];
  bytes = with_range world.bytes b n (λ k. 0);
  shadow = with_range world.shadow b n (λ k. 0);
  origins = with_cells world.origins b n 0;
}

-- the planes have one more allocation, of zero bytes
pub record Zeroed (k : AllocKind) (w : WorldState) (n : ℕ) (m : Memory) : Type 0 where
  pub table : m.table ≡ with_made k n w.planes.table
  pub bytes : bytes_of m ≡ with_range (bytes_of w.planes) (base_after k w.planes.table) n (λ k. 0)
  pub shadow : shadow_of m ≡ with_range (shadow_of w.planes) (base_after k w.planes.table) n (λ k. 0)
  pub origins : origins_of m ≡ with_cells (origins_of w.planes) (base_after k w.planes.table) n 0

zeroed-at : (k : AllocKind) (w : WorldState) (beside : Beside) (world : World) (n : ℕ) (m : Memory) → Shows w beside world → Zeroed k w n m →
    Shows (record w { planes = m }) beside (zero_at k (base_after k w.planes.table) n world)
zeroed-at k w beside world n m shows zeroed = record {
  allocs = subst (λ (u : Allocations). Lists u (zero_at k b n world).allocs) (sym zeroed.table)
      (subst (λ (e : Allocation). Lists t' (world.allocs ++ e ∷ [])) (entry k) (made-lists w.planes.table world.allocs k n shows.allocs));
  bytes = subst (λ (u : Allocations). Agrees u (with_range world.bytes b n (λ k. 0)) (bytes_of m)) (sym zeroed.table)
      (kept t' (with_range world.bytes b n (λ k. 0)) _ (bytes_of m) zeroed.bytes (range-made w.planes.table k world.bytes (bytes_of w.planes) n (λ k. 0) shows.bytes));
  shadow = subst (λ (u : Allocations). Agrees u (with_range world.shadow b n (λ k. 0)) (shadow_of m)) (sym zeroed.table)
      (kept t' (with_range world.shadow b n (λ k. 0)) _ (shadow_of m) zeroed.shadow (range-made w.planes.table k world.shadow (shadow_of w.planes) n (λ k. 0) shows.shadow));
  origins = subst (λ (u : Allocations). CellsAgree u (with_cells world.origins b n 0) (origins_of m)) (sym zeroed.table)
      (cells-kept t' (with_cells world.origins b n 0) _ (origins_of m) zeroed.origins (cells-made w.planes.table k world.origins (origins_of w.planes) n 0 shows.origins));
  made = shows.made;
  input = shows.input;
  output = shows.output;
  pairs = shows.pairs;
  reports = shows.reports;
  blind = shows.blind;
  fibers = shows.fibers;
}
  where
    b : ℕ
    b = base_after k w.planes.table

    t' : Allocations
    t' = with_made k n w.planes.table

    entry : (k : AllocKind) → allocation_of (record { base = base_after k w.planes.table; size = n; kind = k; live = true }) ≡ record { base = base_after k w.planes.table; size = n; area = area_of k; live = true }
    entry k = refl

pub zeroed : (k : AllocKind) (w : WorldState) (beside : Beside) (world : World) (n : ℕ) (m : Memory) → Shows w beside world → IsLaidOut w.planes.table → Zeroed k w n m →
    Shows (record w { planes = m }) beside (make (area_of k) n world)
zeroed k w beside world n m shows laid z =
    subst (λ (b : ℕ). Shows (record w { planes = m }) beside (zero_at k b n world)) (sym (base-same w.planes.table world k laid shows.allocs)) (zeroed-at k w beside world n m shows z)

-- bytes became uninitialised
pub made-bytes : (w : WorldState) (beside : Beside) (world : World) (m : Memory) (a n : ℕ) → Shows w beside world → m.table ≡ w.planes.table →
    bytes_of m ≡ with_range (bytes_of w.planes) a n (λ k. made_byte w.fill (w.made + k)) → shadow_of m ≡ shadow_of w.planes → origins_of m ≡ origins_of w.planes →
    Shows (record w { planes = m; made = w.made + n }) beside (record world { bytes = with_range world.bytes a n (λ k. made_byte w.fill (world.made + k)); made = world.made + n })
made-bytes w beside world m a n shows same b s o =
    subst (λ (c : ℕ). Shows (record w { planes = m; made = w.made + n }) beside (record world { bytes = with_range world.bytes a n (λ k. made_byte w.fill (c + k)); made = c + n })) (sym shows.made)
    (let r = bytes-set w beside world m a n (λ k. made_byte w.fill (w.made + k)) shows same b s o in record {
      allocs = r.allocs;
      bytes = r.bytes;
      shadow = r.shadow;
      origins = r.origins;
      made = refl;
      input = r.input;
      output = r.output;
      pairs = r.pairs;
      reports = r.reports;
      blind = r.blind;
      fibers = r.fibers;
    })

pub ok-not-err : (r : Result ℕ AllocError) (x : ℕ) (e : AllocError) → r ≡ Ok x → r ≡ Err e → ⊥
ok-not-err r x e is other = cc

-- the bytes were made
pub allocated : (k : AllocKind) (w : WorldState) (beside : Beside) (world : World) (n base : ℕ) (m m' : Memory) → Shows w beside world → IsLaidOut w.planes.table → base ≡ base_after k w.planes.table →
    taken_by (of_kind k w.planes.table) + room_taken n ≤ limit_of k → Zeroed k w n m → m'.table ≡ m.table →
    bytes_of m' ≡ with_range (bytes_of m) base n (λ j. made_byte w.fill (w.made + j)) → shadow_of m' ≡ shadow_of m → origins_of m' ≡ origins_of m →
    Allocated k beside world n (Ok base) (record w { planes = m'; made = w.made + n })
allocated k w beside world n base m m' shows laid at room z t b s o =
    let same : next_base (area_of k) world ≡ base_after k w.planes.table = base-same w.planes.table world k laid shows.allocs in
    let here : base ≡ next_base (area_of k) world = at ∙ sym same in (
      fits-same w.planes.table world k n laid shows.allocs ∙ le-leb _ _ room,
      here,
      subst (λ (a : ℕ). Shows (record w { planes = m'; made = w.made + n }) beside
          (record (make (area_of k) n world) { bytes = with_range (make (area_of k) n world).bytes a n (λ j. made_byte w.fill (world.made + j)); made = world.made + n })) here
          (made-bytes (record w { planes = m }) beside (make (area_of k) n world) m' base n (zeroed k w beside world n m shows laid z) t b s o),
    )

-- the planes are as they were
pub unchanged : (w : WorldState) (beside : Beside) (world : World) (m : Memory) → Shows w beside world → IsSame w.planes m → Shows (record w { planes = m }) beside world
unchanged w beside world m shows same =
    changed w beside world m world.bytes world.shadow world.origins shows (sym same.table)
    (kept w.planes.table world.bytes (bytes_of w.planes) (bytes_of m) (sym same.bytes) shows.bytes)
    (kept w.planes.table world.shadow (shadow_of w.planes) (shadow_of m) (sym same.shadow) shows.shadow)
    (cells-kept w.planes.table world.origins (origins_of w.planes) (origins_of m) (sym same.origins) shows.origins)

-- what a write answers, and what it then shows
pub bytes-written : (w : WorldState) (beside : Beside) (world : World) (m : Memory) (addr n : ℕ) (new : ℕ → ℕ) (good : Bool) → Shows w beside world → good ≡ is_live addr n w.planes.table → m.table ≡ w.planes.table →
    bytes_of m ≡ (if good then with_range (bytes_of w.planes) addr n new else bytes_of w.planes) → shadow_of m ≡ shadow_of w.planes → origins_of m ≡ origins_of w.planes →
    MatchBool good ((is_good world addr n ≡ true) × Shows (record w { planes = m }) beside (record world { bytes = with_range world.bytes addr n new })) ((is_good world addr n ≡ false) × Shows (record w { planes = m }) beside world)
bytes-written w beside world m addr n new true shows is same b s o = (good-of w beside world addr n shows ∙ sym is, bytes-set w beside world m addr n new shows same b s o)
bytes-written w beside world m addr n new false shows is same b s o = (good-of w beside world addr n shows ∙ sym is, unchanged w beside world m shows (record { table = sym same; bytes = sym b; shadow = sym s; origins = sym o }))

pub shadow-written : (w : WorldState) (beside : Beside) (world : World) (m : Memory) (addr n : ℕ) (new : ℕ → ℕ) (good : Bool) → Shows w beside world → good ≡ is_live addr n w.planes.table → m.table ≡ w.planes.table →
    bytes_of m ≡ bytes_of w.planes → shadow_of m ≡ (if good then with_range (shadow_of w.planes) addr n new else shadow_of w.planes) → origins_of m ≡ origins_of w.planes →
    MatchBool good ((is_good world addr n ≡ true) × Shows (record w { planes = m }) beside (record world { shadow = with_range world.shadow addr n new })) ((is_good world addr n ≡ false) × Shows (record w { planes = m }) beside world)
shadow-written w beside world m addr n new true shows is same b s o = (good-of w beside world addr n shows ∙ sym is, shadow-set w beside world m addr n new shows same b s o)
shadow-written w beside world m addr n new false shows is same b s o = (good-of w beside world addr n shows ∙ sym is, unchanged w beside world m shows (record { table = sym same; bytes = sym b; shadow = sym s; origins = sym o }))

-- they didn't fit
pub not-allocated : (k : AllocKind) (w : WorldState) (beside : Beside) (world : World) (n : ℕ) (m : Memory) → Shows w beside world → IsLaidOut w.planes.table → limit_of k < taken_by (of_kind k w.planes.table) + room_taken n → IsSame w.planes m →
    Allocated k beside world n (Err refused.Full) (record w { planes = m })
not-allocated k w beside world n m shows laid full same = (fits-same w.planes.table world k n laid shows.allocs ∙ lt-leb _ _ full, unchanged w beside world m shows same)

pub not-full : (r : Result ℕ AllocError) → r ≡ Err refused.NoMemory → r ≡ Err refused.Full → ⊥
not-full r is other = cc

-- memory was wanting
pub wanting : (k : AllocKind) (w : WorldState) (beside : Beside) (world : World) (n : ℕ) (m : Memory) → Shows w beside world → IsLaidOut w.planes.table → ¬ (limit_of k < taken_by (of_kind k w.planes.table) + room_taken n) → IsSame w.planes m →
    (fits (area_of k) n world ≡ true) × Shows (record w { planes = m }) beside world
wanting k w beside world n m shows laid room same = (fits-same w.planes.table world k n laid shows.allocs ∙ le-leb _ _ (omega (arith, room)), unchanged w beside world m shows same)

-- the slots are no part of it
pub slots-aside : (w : WorldState) (beside : Beside) (world : World) (bytes : List ℕ) → Shows w beside world → Shows (record w { slots = bytes }) beside world
slots-aside w beside world bytes shows = record {
  allocs = shows.allocs;
  bytes = shows.bytes;
  shadow = shows.shadow;
  origins = shows.origins;
  made = shows.made;
  input = shows.input;
  output = shows.output;
  pairs = shows.pairs;
  reports = shows.reports;
  blind = shows.blind;
  fibers = shows.fibers;
}

-- ---- fewer that are live

fewer : (w : WorldState) (beside : Beside) (world : World) (m : Memory) (as' : List Allocation) → Shows w beside world → Lists m.table as' → ((x : ℕ) → IsTrue (is_live x 1 m.table) → IsTrue (is_live x 1 w.planes.table)) → KeepsLive w.planes m →
    Shows (record w { planes = m }) beside (record world { allocs = as' })
fewer w beside world m as' shows lists before keeps = record {
  allocs = lists;
  bytes = λ x live. shows.bytes x (before x live) ∙ sym (keeps.bytes x live);
  shadow = λ x live. shows.shadow x (before x live) ∙ sym (keeps.shadow x live);
  origins = λ x live. shows.origins x (before x live) ∙ sym (keeps.origins x live);
  made = shows.made;
  input = shows.input;
  output = shows.output;
  pairs = shows.pairs;
  reports = shows.reports;
  blind = shows.blind;
  fibers = shows.fibers;
}

pub ended : (w : WorldState) (beside : Beside) (world : World) (m : Memory) (base : ℕ) → Shows w beside world → IsLaidOut w.planes.table → m.table ≡ with_ended base w.planes.table → KeepsLive w.planes m →
    Shows (record w { planes = m }) beside (end_block base world)
ended w beside world m base shows laid table keeps =
    fewer w beside world m (end_block base world).allocs shows
    (subst (λ (t : Allocations). Lists t (end_block base world).allocs) (sym table) (ended-lists w.planes.table world.allocs base laid shows.allocs))
    (λ x live. ended-live w.planes.table base x (subst (λ (t : Allocations). IsTrue (is_live x 1 t)) table live)) keeps

pub released : (w : WorldState) (beside : Beside) (world : World) (m : Memory) (mark : ℕ) → Shows w beside world → IsLaidOut w.planes.table → m.table ≡ without_from mark w.planes.table → KeepsLive w.planes m →
    Shows (record w { planes = m }) beside (release mark world)
released w beside world m mark shows laid table keeps =
    fewer w beside world m (release mark world).allocs shows
    (subst (λ (t : Allocations). Lists t (release mark world).allocs) (sym table) (kept-lists w.planes.table world.allocs mark laid shows.allocs))
    (λ x live. kept-live w.planes.table mark x (subst (λ (t : Allocations). IsTrue (is_live x 1 t)) table live)) keeps

-- bytes were copied
pub copy-agrees : (t : Allocations) (f g : ℕ → ℕ) (to from n : ℕ) → IsTrue (is_live from n t) → Agrees t f g → Agrees t (copied f to from n) (copied g to from n)
copy-agrees t f g to from n good same x live = by (within to n x) refl
  where
    by : (b : Bool) → within to n x ≡ b → (if b then f (from + (x - to)) else f x) ≡ (if b then g (from + (x - to)) else g x)
    by true e =
        let parts : (leb to x ≡ true) × (ltb x (to + n) ≡ true) = and_parts _ _ e in
        same (from + (x - to)) (part-live t from n (x - to) good (omega (arith, leb-true to x parts.0, ltb-true x (to + n) parts.1)))
    by false e = same x live

pub bytes-copied : (w : WorldState) (beside : Beside) (world : World) (m : Memory) (to from n : ℕ) → Shows w beside world → IsTrue (is_live from n w.planes.table) → m.table ≡ w.planes.table →
    bytes_of m ≡ copied (bytes_of w.planes) to from n → shadow_of m ≡ shadow_of w.planes → origins_of m ≡ origins_of w.planes →
    Shows (record w { planes = m }) beside (record world { bytes = copied world.bytes to from n })
bytes-copied w beside world m to from n shows good same b s o =
    changed w beside world m (copied world.bytes to from n) world.shadow world.origins shows same
    (kept w.planes.table (copied world.bytes to from n) (copied (bytes_of w.planes) to from n) (bytes_of m) b (copy-agrees w.planes.table world.bytes (bytes_of w.planes) to from n good shows.bytes))
    (kept w.planes.table world.shadow (shadow_of w.planes) (shadow_of m) s shows.shadow)
    (cells-kept w.planes.table world.origins (origins_of w.planes) (origins_of m) o shows.origins)

-- cells that agree, of which those of copied bytes take the origins of their sources
copied-cells-agree : (t : Allocations) (sf sg f g : ℕ → ℕ) (to from n : ℕ) (h k : ℕ → ℕ) → ((j : ℕ) → j < n → IsTrue (is_live (from + j) 1 t)) → Agrees t sf sg → CellsAgree t f g → CellsAgree t h k →
    CellsAgree t (copied_cells sf f to from n h) (copied_cells sg g to from n k)
copied-cells-agree t sf sg f g to from zero h k live shadows cells same = same
copied-cells-agree t sf sg f g to from (suc n) h k live shadows cells same =
    copied-cells-agree t sf sg f g (to + 1) (from + 1) n _ _
    (λ j l. let e : from + suc j ≡ from + 1 + j = omega arith in subst (λ (a : ℕ). IsTrue (is_live a 1 t)) e (live (suc j) (omega (arith, l)))) shadows cells
    (one (sf from) (sg from) (shadows from here))
  where
    here : IsTrue (is_live from 1 t)
    here = let e : from + 0 ≡ from = omega arith in subst (λ (a : ℕ). IsTrue (is_live a 1 t)) e (live 0 (omega arith))

    put : (b : Bool) → CellsAgree t (if b then h else with_cell h to (f (from / 4))) (if b then k else with_cell k to (g (from / 4)))
    put true x l = same x l
    put false x l = ap (λ (o : ℕ). if eqb (x / 4) (to / 4) then o else h (x / 4)) (cells from here) ∙ ap (λ (v : ℕ). if eqb (x / 4) (to / 4) then g (from / 4) else v) (same x l)

    one : (a b : ℕ) → a ≡ b → CellsAgree t (if eqb a 0 then h else with_cell h to (f (from / 4))) (if eqb b 0 then k else with_cell k to (g (from / 4)))
    one a b e = subst (λ (c : ℕ). CellsAgree t (if eqb a 0 then h else with_cell h to (f (from / 4))) (if eqb c 0 then k else with_cell k to (g (from / 4)))) e (put (eqb a 0))

pub shadow-copied : (w : WorldState) (beside : Beside) (world : World) (m : Memory) (to from n : ℕ) → Shows w beside world → IsTrue (is_live from n w.planes.table) → m.table ≡ w.planes.table →
    bytes_of m ≡ bytes_of w.planes → shadow_of m ≡ copied (shadow_of w.planes) to from n → origins_of m ≡ copied_cells (shadow_of w.planes) (origins_of w.planes) to from n (origins_of w.planes) →
    Shows (record w { planes = m }) beside (record world { shadow = copied world.shadow to from n; origins = copied_cells world.shadow world.origins to from n world.origins })
shadow-copied w beside world m to from n shows good same b s o =
    changed w beside world m world.bytes (copied world.shadow to from n) (copied_cells world.shadow world.origins to from n world.origins) shows same
    (kept w.planes.table world.bytes (bytes_of w.planes) (bytes_of m) b shows.bytes)
    (kept w.planes.table (copied world.shadow to from n) (copied (shadow_of w.planes) to from n) (shadow_of m) s (copy-agrees w.planes.table world.shadow (shadow_of w.planes) to from n good shows.shadow))
    (cells-kept w.planes.table (copied_cells world.shadow world.origins to from n world.origins) (copied_cells (shadow_of w.planes) (origins_of w.planes) to from n (origins_of w.planes)) (origins_of m) o
    (copied-cells-agree w.planes.table world.shadow (shadow_of w.planes) world.origins (origins_of w.planes) to from n world.origins (origins_of w.planes)
    (λ j l. part-live w.planes.table from n j good l) shows.shadow shows.origins shows.origins))

-- ---- answers

pub neither : (b c : Bool) → (b ≡ false) ⊎ (c ≡ false) → (b && c) ≡ false
neither true c (inl e) = absurd (cc)
neither false c (inl e) = refl
neither true c (inr e) = e
neither false c (inr e) = refl

pub no-end : (w : WorldState) (beside : Beside) (world : World) (base : ℕ) → heap_size world base ≡ None → Shows w beside world → Shows w beside (end_block base world)
no-end w beside world base none shows = subst (λ (as' : List Allocation). Shows w beside (record world { allocs = as' })) (sym (no-block world base none)) shows

-- a good range lies within an area
pub live-size : (t : Allocations) (x n : ℕ) → IsLaidOut t → IsTrue (is_live x n t) → n ≤ 2 ^ 26
live-size t x n laid live = ⊎_elim
    (λ (e : n ≡ 0). omega (arith, e))
    (λ (e : n ≡ 0 → ⊥). let r = good-reaches t x n laid (omega (arith, e)) live in omega (arith, r.within, r.apart))
    (cases_eq n 0)

-- an allocation of zero bytes was made
pub cleared : (k : AllocKind) (w : WorldState) (beside : Beside) (world : World) (n base : ℕ) (m : Memory) → Shows w beside world → IsLaidOut w.planes.table → base ≡ base_after k w.planes.table →
    taken_by (of_kind k w.planes.table) + room_taken n ≤ limit_of k → Zeroed k w n m → Cleared k beside world n (Ok base) (record w { planes = m })
cleared k w beside world n base m shows laid at room z =
    (fits-same w.planes.table world k n laid shows.allocs ∙ le-leb _ _ room, at ∙ sym (base-same w.planes.table world k laid shows.allocs), zeroed k w beside world n m shows laid z)

-- an allocation was refused
pub refused-made : (k : AllocKind) (w : WorldState) (beside : Beside) (world : World) (n : ℕ) (m : Memory) (e : AllocError) → Shows w beside world → IsLaidOut w.planes.table →
    (IsErrOf {T = ℕ} {E = AllocError} (Err e) refused.Full → limit_of k < taken_by (of_kind k w.planes.table) + room_taken n) → (limit_of k < taken_by (of_kind k w.planes.table) + room_taken n → IsErrOf {T = ℕ} {E = AllocError} (Err e) refused.Full) →
    IsSame w.planes m → Allocated k beside world n (Err e) (record w { planes = m })
refused-made k w beside world n m refused.Full shows laid only if_full same = not-allocated k w beside world n m shows laid (only refl) same
refused-made k w beside world n m refused.NoMemory shows laid only if_full same = wanting k w beside world n m shows laid (λ full. not-full _ refl (if_full full)) same

pub as-refused : (k : AllocKind) (w : WorldState) (beside : Beside) (world : World) (n : ℕ) (r : Result ℕ AllocError) (e : AllocError) → r ≡ Err e → Allocated k beside world n (Err e) w → Allocated k beside world n r w
as-refused k w beside world n r e is h = subst (λ (q : Result ℕ AllocError). Allocated k beside world n q w) (sym is) h

pub refused-cleared : (k : AllocKind) (w : WorldState) (beside : Beside) (world : World) (n : ℕ) (r : Result ℕ AllocError) (e : AllocError) → r ≡ Err e → Allocated k beside world n (Err e) w → Cleared k beside world n r w
refused-cleared k w beside world n r e is h = subst (λ (q : Result ℕ AllocError). Cleared k beside world n q w) (sym is) (by e h)
  where
    by : (x : AllocError) → Allocated k beside world n (Err x) w → Cleared k beside world n (Err x) w
    by refused.Full g = g
    by refused.NoMemory g = g

pub made-again : (w : WorldState) (beside : Beside) (world : World) (m : Memory) (a n : ℕ) (fill : List ℕ) → w.fill ≡ fill → Shows w beside world → m.table ≡ w.planes.table →
    bytes_of m ≡ with_range (bytes_of w.planes) a n (λ k. made_byte w.fill (w.made + k)) → shadow_of m ≡ shadow_of w.planes → origins_of m ≡ origins_of w.planes →
    Shows (record w { planes = m; made = w.made + n }) beside (record world { bytes = with_range world.bytes a n (λ k. made_byte fill (world.made + k)); made = world.made + n })
made-again w beside world m a n fill is shows same b s o =
    subst (λ (f : List ℕ). Shows (record w { planes = m; made = w.made + n }) beside (record world { bytes = with_range world.bytes a n (λ k. made_byte f (world.made + k)); made = world.made + n })) is
    (made-bytes w beside world m a n shows same b s o)

pub keeps-both : (a b c : WorldState) → Keeps a b → Keeps b c → Keeps a c
keeps-both a b c k j = record { input = j.input ∙ k.input; fill = j.fill ∙ k.fill; slots = j.slots ∙ k.slots }
