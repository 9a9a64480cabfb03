-- Two runs of fibers that are alike pick the same.
use Rattle.std.proofs.Common.{◌≡◌, ◌≤◌, ℕ, zero, suc, List, refl, sym, ap, ◌∙◌, arith}
use Rattle.std.specs.Prelude.{◌++◌}
use Rattle.std.proofs.Math.Path.{ap₂}
use Rattle.ms_runs.specs.declared.runs.End.{End}
use Rattle.ms_runs.specs.World.{World}
use Rattle.ms_runs.specs.Plain.{Stepped, More, Stop}
use Rattle.ms_runs_threads.specs.Fibers.{Meaning, Fibers, Goes, Waits, runnable, fibers_step, world_of, finish, ends_in}
use Rattle.ms_runs_threads.specs.Alike.{SteppedAlike, count_of, Relation, Laws, LateLaws, Counts, FibersAlike, EarlyFibers, left_world}
use Rattle.ms_runs_threads.proofs.Follow.{runnable_same, fibers_alike, step_counted, runs_counted}
use Rattle.ms_threads_schedules_laws.specs.Picks.{Pick, number_at, pick_by, picked_now, picked_on, picks_in}

module _ {F S G T : Type 0} (left : Meaning F S) (right : Meaning G T) (r : Relation left right) (laws : Laws left right r) (counts : Counts left right r) (late : LateLaws left right r)
    (never : (e : End) (w v : World) → r.Early e w v → ⊥) where
  picked_same : (schedule : List ℕ) (c : Fibers F S) (d : Fibers G T) → FibersAlike left right r c d → picked_now left schedule c ≡ picked_now right schedule d
  picked_same schedule (Goes f s a) (Goes g t b) h = refl
  picked_same schedule (Waits s a) (Waits t b) h =
      ap₂ (λ (n : ℕ) (l : List ℕ). pick_by (number_at schedule n) l) h.1.picks
      (runnable_same left right r laws counts late (left.world s).threads (right.world t).threads a.stands b.stands (laws.threads s t h.0) h.1.stands)
  picked_same schedule (Goes f s a) (Waits t b) h = absurd h
  picked_same schedule (Waits s a) (Goes g t b) h = absurd h

  pub picks_alike : (schedule : List ℕ) (n : ℕ) (c : Fibers F S) (d : Fibers G T) → FibersAlike left right r c d → r.count (ends_in left schedule n c).1 ≡ r.count (left_world left right r c)
      → picks_in left schedule n c ≡ picks_in right schedule n d
  picks_alike schedule zero c d h quiet = refl
  picks_alike schedule (suc n) c d h quiet =
      ap₂ (λ (a b : List Pick). a ++ b) (picked_same schedule c d h)
      (by_step (λ c' d' k q. picks_alike schedule n c' d' k q) (fibers_step left schedule c) (fibers_step right schedule d) (step_counted left right r laws counts late schedule c)
      (λ q. fibers_alike left right r laws counts late schedule c d h q) quiet)
    where
      by_step : ((c' : Fibers F S) (d' : Fibers G T) → FibersAlike left right r c' d' → r.count (ends_in left schedule n c').1 ≡ r.count (left_world left right r c')
          → picks_in left schedule n c' ≡ picks_in right schedule n d')
          → (x : Stepped (Fibers F S)) (y : Stepped (Fibers G T)) → r.count (left_world left right r c) ≤ count_of r.count (left_world left right r) x
          → (count_of r.count (left_world left right r) x ≡ r.count (left_world left right r c) → SteppedAlike (FibersAlike left right r) r.Ends (EarlyFibers left right r) x y)
          → r.count (finish left (ends_in left schedule n) x).1 ≡ r.count (left_world left right r c)
          → picked_on left (picks_in left schedule n) x ≡ picked_on right (picks_in right schedule n) y
      by_step rest (More c') (More d') le k q =
          let up = runs_counted left right r laws counts late schedule n c' in
          let one : r.count (left_world left right r c') ≡ r.count (left_world left right r c) = omega (arith, le, up, q) in
          rest c' d' (k one) (q ∙ sym one)
      by_step rest (Stop e w) (Stop x v) le k q = refl
      by_step rest (More c') (Stop x v) le k q =
          let up = runs_counted left right r laws counts late schedule n c' in
          absurd (k (omega (arith, le, up, q)))
      by_step rest (Stop e w) (More d') le k q = absurd (never e w (world_of right d') (k q))
