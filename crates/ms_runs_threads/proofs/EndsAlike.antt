-- Two runs of fibers that are alike, of which neither ends alone, end in the same calls.
use Rattle.std.proofs.Common.{◌≡◌, Option, Some, ℕ, zero, suc, List, refl, ap, ◌∙◌}
use Rattle.ms_runs.specs.declared.runs.Calls.{Calls}
use Rattle.ms_runs.specs.World.{World}
use Rattle.ms_runs.specs.Plain.{Stepped, More, Stop}
use Rattle.ms_runs_threads.specs.Fibers.{Meaning, Fibers, fibers_step, world_of}
use Rattle.ms_runs_threads.specs.Alike.{SteppedAlike, Relation, Laws, LateLaws, Counts, FibersAlike, EarlyFibers}
use Rattle.ms_runs_threads.specs.Calls.{Told, start_of, acting, sites_from, told_by}
use Rattle.ms_runs_threads.specs.Blind.{fibers_end_after, fibers_end}
use Rattle.ms_runs_threads.proofs.Follow.{fibers_alike}
use Rattle.ms_runs_threads.proofs.BlindAlike.{quiet_step}
use Rattle.ms_runs_threads.proofs.CallsAlike.{SaysSame, ActSame, acting_same, told_same, threads_same, reports_same}

module _ {F S G T : Type 0} (left : Meaning F S) (right : Meaning G T) (r : Relation left right) (laws : Laws left right r) (counts : Counts left right r) (late : LateLaws left right r) (sites : F → List ℕ) (sites' : G → List ℕ)
    (none : (w v : World) → r.count w ≡ r.count v) (says : SaysSame left right r laws counts late sites sites') where
  pub ends_alike : (schedule : List ℕ) (n : ℕ) (c : Fibers F S) (d : Fibers G T) → FibersAlike left right r c d → (told : Told) → fibers_end left sites schedule n c told ≡ fibers_end right sites' schedule n d told
  ends_alike schedule zero c d h told = refl
  ends_alike schedule (suc n) c d h told =
      by_step (λ c' d' k more. ends_alike schedule n c' d' k more) (fibers_step left schedule c) (fibers_step right schedule d)
      (fibers_alike left right r laws counts late schedule c d h (quiet_step left right r laws counts late none schedule c))
    where
      same : ActSame left right r laws counts late sites sites' (acting left sites schedule c) (acting right sites' schedule d)
      same = acting_same left right r laws counts late sites sites' says.act schedule c d h

      by_step : ((c' : Fibers F S) (d' : Fibers G T) → FibersAlike left right r c' d' → (more : Told) → fibers_end left sites schedule n c' more ≡ fibers_end right sites' schedule n d' more)
          → (x : Stepped (Fibers F S)) (y : Stepped (Fibers G T)) → SteppedAlike (FibersAlike left right r) r.Ends (EarlyFibers left right r) x y
          → fibers_end_after left sites (acting left sites schedule c) (fibers_end left sites schedule n) told x ≡ fibers_end_after right sites' (acting right sites' schedule d) (fibers_end right sites' schedule n) told y
      by_step rest (More c') (More d') k =
          ap (fibers_end left sites schedule n c')
          (told_same left right r laws counts late sites sites' (acting left sites schedule c) (acting right sites' schedule d) same told (world_of left c') (world_of right d')
          (threads_same left right r laws counts late sites sites' says c' d' k) (reports_same left right r laws counts late sites sites' says c' d' k))
          ∙ rest c' d' k (told_by right sites' (acting right sites' schedule d) (world_of right d') told)
      by_step rest (Stop e w) (Stop x v) k = λ i. Some (let c : Calls = record { sites = same.calls i; started = start_of (same.number i) told.starts } in c)
      by_step rest (More c') (Stop x v) k = absurd k
      by_step rest (Stop e w) (More d') k = absurd (says.never e w (world_of right d') k)
