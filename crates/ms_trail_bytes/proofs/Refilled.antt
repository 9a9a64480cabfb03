-- Bytes that are filled with one byte.
use Rattle.std.proofs.Common.{◌≡◌, ◌<◌, ◌+◌, ◌-◌, ◌%◌, ℕ, zero, suc, Bool, true, false, not, eqb, ◌&&◌, ◌||◌, List, [], ◌++◌, map, if◌then◌else◌, refl, sym, ap, ◌∙◌, subst, arith, append-nil}
use Rattle.std.proofs.lemmas.Bool.{le-leb, lt-ltb, eq-eqb}
use Rattle.ms_bits.specs.Maps.{byte_of, within}
use Rattle.ms_runs.specs.World.{World}
use Rattle.ms_runs.specs.Memory.{is_good, set_cells, set_shadow}
use Rattle.ms_runs.specs.Origins.{unpoison}
use Rattle.ms_runs_good_laws.specs.GoodWorlds.{GoodWorld, FitsCell}
use Rattle.ms_runs_good_laws.proofs.WorldChanges.{either, set_shadow_good, set_cells_good}
use Rattle.ms_runs_laws.specs.Follows.{light, fill_shadow}
use Rattle.ms_host.specs.State.{WorldState, Beside}
use Rattle.ms_host.specs.Shows.{Shows}
use Rattle.ms_trail_moves.specs.declared.moves.Source.{Source}
use Rattle.ms_trail_moves.specs.declared.moves.Target.TheVariants.{Bytes}
use Rattle.ms_trail_moves.specs.declared.moves.Move.{Move}
use Rattle.ms_trail_moves.specs.Written.{Filled}
use Rattle.ms_trail_moves.specs.Events.{moved, joined, runs, written_moves}
use Rattle.ms_trail_bytes.specs.declared.logs.Log.{Log}
use Rattle.ms_trail_bytes.specs.Logs.{IsLog}
use Rattle.ms_trail_bytes.specs.Shading.{ShadedAs}
use Rattle.ms_trail_laws.proofs.MemoryMoves.{byte_of_zero}

-- no run where no byte is poisoned
pub clean_runs : (T : ℕ → ℕ) (a n : ℕ) → ((k : ℕ) → k < n → T (a + k) ≡ 0) → runs T a n ≡ []
clean_runs T a zero clean = refl
clean_runs T a (suc n) clean =
    let here : T a ≡ 0 = (let e : a ≡ a + 0 = omega arith in ap T e) ∙ clean 0 (omega arith) in
    ap (λ t. if eqb t 0 then runs T (a + 1) n else joined a (runs T (a + 1) n)) here
    ∙ clean_runs T (a + 1) n (λ k lt. (let e : a + 1 + k ≡ a + suc k = omega arith in ap T e) ∙ clean (suc k) (omega (arith, lt)))

-- no move where a mask is clean
pub stored_clean : (log : Log) (moves : List Move) (event site : ℕ) (w : World) (a n mask : ℕ) (from : Source) → mask ≡ 0 → IsLog log moves
    → IsLog log (moves ++ written_moves event site (set_shadow a n (byte_of mask) w).shadow (Filled a n from))
stored_clean log moves event site w a n mask from clean is =
    subst (λ (ms : List Move). IsLog log (moves ++ ms)) (sym none) (subst (λ (ms : List Move). IsLog log ms) (sym (append-nil moves)) is)
  where
    there : (k : ℕ) → k < n → (set_shadow a n (byte_of mask) w).shadow (a + k) ≡ 0
    there k lt =
        let inside : within a n (a + k) ≡ true = (λ j. le-leb a (a + k) (omega arith) j && lt-ltb (a + k) (a + n) (omega (arith, lt)) j) in
        ap (λ (b : Bool). if b then byte_of mask (a + k - a) else w.shadow (a + k)) inside ∙ ap (λ v. byte_of v (a + k - a)) clean ∙ byte_of_zero (a + k - a)

    none : written_moves event site (set_shadow a n (byte_of mask) w).shadow (Filled a n from) ≡ []
    none = ap (map (λ r. moved event site from (Bytes r.0 r.1))) (clean_runs (set_shadow a n (byte_of mask) w).shadow a n there)

zero_there : (w : World) (a n k : ℕ) → k < n → (set_shadow a n (λ j. 0) w).shadow (a + k) ≡ 0
zero_there w a n k lt =
    let inside : within a n (a + k) ≡ true = (λ j. le-leb a (a + k) (omega arith) j && lt-ltb (a + k) (a + n) (omega (arith, lt)) j) in
    ap (λ (b : Bool). if b then 0 else w.shadow (a + k)) inside

module _ (w : World) (a n mask : ℕ) (good : is_good w a n ≡ true) (byte : mask < 256) where
  low : mask % 256 ≡ mask
  low = omega (arith, byte)

  good_is : fill_shadow a n mask w ≡ (if eqb (mask % 256) 0 || eqb n 0 then set_shadow a n (λ k. 0) w else set_shadow a n (λ k. mask % 256) w)
  good_is = ap (λ (b : Bool). if not b then w else (if eqb (mask % 256) 0 || eqb n 0 then set_shadow a n (λ k. 0) w else set_shadow a n (λ k. mask % 256) w)) good

  by_clean : (b : Bool) → (eqb mask 0 || eqb n 0) ≡ b → fill_shadow a n mask w ≡ (if b then set_shadow a n (λ k. 0) w else set_shadow a n (λ k. mask) w)
  by_clean b e =
      good_is ∙ ap (λ m. if eqb m 0 || eqb n 0 then set_shadow a n (λ k. 0) w else set_shadow a n (λ k. m) w) low
      ∙ ap (λ (t : Bool). if t then set_shadow a n (λ k. 0) w else set_shadow a n (λ k. mask) w) e

  unpoison_is : unpoison a n w ≡ set_shadow a n (λ k. 0) w
  unpoison_is = ap (λ (b : Bool). if b then set_shadow a n (λ k. 0) w else w) good

  module _ (beside : Beside) (world : WorldState) (event site : ℕ) (from : Source) (log : Log) (moves : List Move) where
    -- no byte is poisoned then
    pub set_clean : (eqb mask 0 || eqb n 0) ≡ true → Shows world beside (unpoison a n w) → IsLog log moves
        → ShadedAs beside w (fill_shadow a n mask w) world × IsLog log (moves ++ written_moves event site (fill_shadow a n mask w).shadow (Filled a n from))
    set_clean clean shows is = (
      (
        unpoison a n w,
        (
          shows,
          ap light (unpoison_is ∙ sym (by_clean true clean)),
          λ g. either (GoodWorld FitsCell) (is_good w a n) _ w (set_shadow_good FitsCell a n (λ k. 0) w g (λ k. omega arith)) g,
        ),
      ),
      subst (λ (ms : List Move). IsLog log (moves ++ ms)) (sym none) (subst (λ (ms : List Move). IsLog log ms) (sym (append-nil moves)) is),
    )
      where
        none : written_moves event site (fill_shadow a n mask w).shadow (Filled a n from) ≡ []
        none =
            ap (λ (x : World). written_moves event site x.shadow (Filled a n from)) (by_clean true clean)
            ∙ ap (map (λ r. moved event site from (Bytes r.0 r.1))) (clean_runs (set_shadow a n (λ k. 0) w).shadow a n (λ k lt. zero_there w a n k lt))

    -- all are
    pub set_marked : (eqb mask 0 || eqb n 0) ≡ false → Shows world beside (set_cells a n 0 (set_shadow a n (λ k. mask) w)) × IsLog log (moves ++ written_moves event site (set_shadow a n (λ k. mask) w).shadow (Filled a n from))
        → ShadedAs beside w (fill_shadow a n mask w) world × IsLog log (moves ++ written_moves event site (fill_shadow a n mask w).shadow (Filled a n from))
    set_marked some (shows, told) = (
      (
        set_cells a n 0 (set_shadow a n (λ k. mask) w),
        (
          shows,
          ap light (sym (by_clean false some)),
          λ g. set_cells_good FitsCell a n 0 (set_shadow a n (λ k. mask) w) (set_shadow_good FitsCell a n (λ k. mask) w g (λ k. byte)) (omega arith),
        ),
      ),
      subst (λ (x : World). IsLog log (moves ++ written_moves event site x.shadow (Filled a n from))) (sym (by_clean false some)) told,
    )

pub not_clean : (mask n : ℕ) → (eqb mask 0 || eqb n 0) ≡ false → mask ≡ 0 → false ≡ true
not_clean mask n e z = sym e ∙ ap (λ (b : Bool). b || eqb n 0) (eq-eqb mask 0 z)

pub some_bytes : (mask n : ℕ) → (eqb mask 0 || eqb n 0) ≡ false → n ≡ 0 → false ≡ true
some_bytes mask n e z = sym e ∙ ap (λ (b : Bool). eqb mask 0 || b) (eq-eqb n 0 z) ∙ by_test (eqb mask 0)
  where
    by_test : (b : Bool) → (b || true) ≡ true
    by_test true = refl
    by_test false = refl

-- the low byte of a mask is all that counts
pub same_byte : (a n mask : ℕ) (w : World) → fill_shadow a n (mask % 256) w ≡ fill_shadow a n mask w
same_byte a n mask w =
    let low : mask % 256 % 256 ≡ mask % 256 = omega arith in
    ap (λ m. if not (is_good w a n) then w else (if eqb m 0 || eqb n 0 then set_shadow a n (λ k. 0) w else set_shadow a n (λ k. m) w)) low
