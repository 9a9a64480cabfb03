-- Bytes that externals make uninitialised, and bytes that they copy.
use Rattle.std.proofs.Common.{◌≡◌, ◌≢◌, ◌<◌, ◌+◌, ◌-◌, ◌%◌, ◌^◌, ℕ, zero, suc, Bool, true, false, ltb, ◌&&◌, List, [], ◌∷◌, ◌++◌, if◌then◌else◌, refl, sym, ap, ◌∙◌, subst, arith, append-nil, append_assoc}
use Rattle.ms_ir.specs.Areas.{Heap}
use Rattle.ms_runs.specs.World.{World}
use Rattle.ms_runs.specs.Memory.{fits, is_good, next_base, set_cells, set_shadow}
use Rattle.ms_runs.specs.Origins.{copy_planes, poison}
use Rattle.ms_runs_good_laws.specs.GoodWorlds.{GoodWorld, FitsCell}
use Rattle.ms_runs_good_laws.proofs.WorldChanges.{either, copy_shadow_good}
use Rattle.ms_host.specs.State.{WorldState, Beside}
use Rattle.ms_host.specs.Shows.{Shows}
use Rattle.ms_trail_moves.specs.declared.moves.Move.{Move}
use Rattle.ms_trail_moves.specs.Written.{Written, Copied, heap_place}
use Rattle.ms_trail_moves.specs.Events.{written_moves, memory_moves}
use Rattle.ms_trail_bytes.specs.declared.logs.Log.{Log}
use Rattle.ms_trail_bytes.specs.Logs.{IsLog}
use Rattle.ms_trail_bytes.specs.Shading.{ShadedAs}
use Rattle.ms_trail_bytes.proofs.Filling.{good_poison}

-- a world without poison on a range is as good
pub poison_same : (a from to : ℕ) (w : World) (b n : ℕ) → is_good (poison a from to 0 w) b n ≡ is_good w b n
poison_same a from to w b n = by_test (ltb from to && is_good w ((a + from) % 2 ^ 64) (to - from))
  where
    by_test : (t : Bool) → is_good (if t then set_cells ((a + from) % 2 ^ 64) (to - from) 0 (set_shadow ((a + from) % 2 ^ 64) (to - from) (λ k. 255) w) else w) b n ≡ is_good w b n
    by_test true = refl
    by_test false = refl

pub poisoned_as : (beside : Beside) (w : World) (a from to : ℕ) (world : WorldState) → Shows world beside (poison a from to 0 w) → ShadedAs beside w (poison a from to 0 w) world
poisoned_as beside w a from to world shows = (poison a from to 0 w, (shows, refl, λ g. good_poison a from to w g))

pub copied_as : (beside : Beside) (w : World) (to from n : ℕ) (world : WorldState) → Shows world beside (copy_planes to from n w) → ShadedAs beside w (copy_planes to from n w) world
copied_as beside w to from n world shows =
    (copy_planes to from n w, (shows, refl, λ g. either (GoodWorld FitsCell) (is_good w to n && is_good w from n) _ w (copy_shadow_good FitsCell to from n w g) g))

-- nothing is written of no bytes
pub none_copied : (log : Log) (moves : List Move) (event site : ℕ) (T : ℕ → ℕ) (to from n : ℕ) → n ≡ 0 → IsLog log moves → IsLog log (moves ++ written_moves event site T (Copied to n from))
none_copied log moves event site T to from n none is =
    subst (λ (ms : List Move). IsLog log ms) (sym (append-nil moves) ∙ sym (ap (λ k. moves ++ written_moves event site T (Copied to k from)) none)) is

-- where a new block is, its address isn't 0
place_some : (n : ℕ) (before : World) → fits Heap n before ≡ true → heap_place n before ≡ 0 → ⊥
place_some n before fit none =
    let at : heap_place n before ≡ next_base Heap before = ap (λ (b : Bool). if b then next_base Heap before else 0) fit in
    let zero : next_base Heap before ≡ 0 = sym at ∙ none in
    absurd (omega (arith, zero))

module _ (log : Log) (moves : List Move) (event site : ℕ) (T : ℕ → ℕ) (given block kept n : ℕ) (before : World) (place : given ≡ heap_place n before) where
  abbrev come : Bool → List Written
  come b = if b then Copied (next_base Heap before) kept block ∷ [] else []

  pub no_block : given ≡ 0 → IsLog log moves → IsLog log (moves ++ memory_moves event site T (come (fits Heap n before)))
  no_block none is = by_test (fits Heap n before) refl
    where
      by_test : (b : Bool) → fits Heap n before ≡ b → IsLog log (moves ++ memory_moves event site T (come b))
      by_test true e = absurd (place_some n before e (sym place ∙ none))
      by_test false e = subst (λ (ms : List Move). IsLog log ms) (sym (append-nil moves)) is

  fits_there : given ≢ 0 → fits Heap n before ≡ true
  fits_there some = by_test (fits Heap n before) refl
    where
      by_test : (b : Bool) → fits Heap n before ≡ b → fits Heap n before ≡ true
      by_test true e = e
      by_test false e = absurd (some (place ∙ ap (λ (b : Bool). if b then next_base Heap before else 0) e))

  pub new_block : given ≢ 0 → fits Heap n before ≡ true
  new_block some = fits_there some

  pub block_told : given ≢ 0 → IsLog log (moves ++ written_moves event site T (Copied given kept block)) → IsLog log (moves ++ memory_moves event site T (come (fits Heap n before)))
  block_told some is =
      let at : given ≡ next_base Heap before = place ∙ ap (λ (b : Bool). if b then next_base Heap before else 0) (fits_there some) in
      subst (λ (b : Bool). IsLog log (moves ++ memory_moves event site T (come b))) (sym (fits_there some))
      (subst (λ (ms : List Move). IsLog log (moves ++ ms)) (ap (λ k. written_moves event site T (Copied k kept block)) at ∙ sym (append-nil (written_moves event site T (Copied (next_base Heap before) kept block)))) is)

-- moves of what was written, one part after the other
pub moves_both : (event site : ℕ) (T : ℕ → ℕ) (xs ys : List Written) → memory_moves event site T (xs ++ ys) ≡ memory_moves event site T xs ++ memory_moves event site T ys
moves_both event site T [] ys = refl
moves_both event site T (x ∷ xs) ys = ap (λ ms. written_moves event site T x ++ ms) (moves_both event site T xs ys) ∙ sym (append_assoc (written_moves event site T x) (memory_moves event site T xs) (memory_moves event site T ys))

pub both_told : (log : Log) (moves : List Move) (event site : ℕ) (T : ℕ → ℕ) (xs ys : List Written) → IsLog log ((moves ++ memory_moves event site T xs) ++ memory_moves event site T ys) → IsLog log (moves ++ memory_moves event site T (xs ++ ys))
both_told log moves event site T xs ys is =
    subst (λ (ms : List Move). IsLog log ms)
    (append_assoc moves (memory_moves event site T xs) (memory_moves event site T ys) ∙ ap (λ ms. moves ++ ms) (sym (moves_both event site T xs ys))) is

pub positive : (n : ℕ) → n ≢ 0 → 0 < n
positive n some = by_number n refl
  where
    by_number : (k : ℕ) → n ≡ k → 0 < n
    by_number zero e = absurd (some e)
    by_number (suc k) e = omega (arith, e)
