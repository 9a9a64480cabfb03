-- A shadow run of fibers up to its first report without a blind use is the same, whatever fill each step has.
use Rattle.std.proofs.Common.{◌≡◌, ◌≤◌, ℕ, zero, suc, List, refl, sym, ap, ◌∙◌, arith}
use Rattle.ms_ir.specs.declared.syntax.Module.{Module}
use Rattle.ms_ir.specs.Instructions.{NoMarks}
use Rattle.ms_runs.specs.declared.runs.End.TheVariants as «end»
use Rattle.ms_runs.specs.declared.runs.RunResult.{RunResult}
use Rattle.ms_runs.specs.declared.runs.Setup.{Setup}
use Rattle.ms_runs.specs.World.{World, result}
use Rattle.ms_runs.specs.Control.{Frame}
use Rattle.ms_runs.specs.Plain.{Stepped, More, Stop, and_then, go_on, setting_of, start_world}
use Rattle.ms_runs.specs.Poisoned.{Poisoned}
use Rattle.ms_runs.specs.Masks.{by_formulas, by_completions}
use Rattle.ms_runs.specs.Globals.{address_of}
use Rattle.ms_runs_laws.proofs.ExactRules.{formulas_exact}
use Rattle.ms_check_valid.specs.Formed.{Formed}
use Rattle.ms_check_valid.specs.Valid.{Valid}
use Rattle.ms_runs_good_laws.specs.Fills.{IsFill, refilled, to_first_report}
use Rattle.ms_runs_good_laws.specs.GoodWorlds.{GivesBytes}
use Rattle.ms_runs_fills_laws.specs.Chosen.{steps_by}
use Rattle.ms_runs_fills_laws.proofs.Kept.{globals_kept}
use Rattle.ms_runs_fills_laws.proofs.Runs.{result_same}
use Rattle.ms_runs_threads.specs.Alike.{count_of, Relation, Laws, LateLaws, Counts}
use Rattle.ms_runs_threads.specs.Fibers.{Meaning, Fibers, Goes, Waits, fibers_step, world_of, finish, ends_in}
use Rattle.ms_runs_threads.specs.ShadowFibers.{shadow_fiber, shadow_threads, shadow_threads_start}
use Rattle.ms_runs_threads.proofs.Follow.{fibers_alike, step_counted, runs_counted}
use Rattle.ms_threads_laws.proofs.FollowedRuns.{same_fiber, computed_threads}
use Rattle.ms_threads_laws.proofs.LowFibers as low
use Rattle.ms_threads_runs_laws.specs.ChangingThreads.{shadow_world, shadow_threads_chosen}
use Rattle.ms_threads_runs_laws.proofs.CertainRuns.{Filling, LowAlike, LowSteps, bytes_one, bytes_too, low_worlds, low_again, start_low}

module _ (m : Module) (formed : Formed m) (valid : Valid m) (unmarked : NoMarks m) (setup : Setup) (bytes : GivesBytes setup) (schedule : List ℕ) (fills : ℕ → List ℕ) (are : (k : ℕ) → IsFill (fills k)) where
  abbrev at : ℕ → Filling
  at k = record { fill = fills k; is = are k }

  -- the run up to its first report, and the same under the fill of a step
  abbrev one : Meaning (List (Frame Poisoned)) World
  one = shadow_fiber by_formulas (setting_of m (to_first_report setup)) m

  abbrev filled : ℕ → Meaning (List (Frame Poisoned)) World
  filled k = shadow_fiber by_formulas (setting_of m (refilled (to_first_report setup) (fills k))) m

  abbrev filled_step : ℕ → Fibers (List (Frame Poisoned)) World → Stepped (Fibers (List (Frame Poisoned)) World)
  filled_step k = fibers_step (filled k) schedule

  abbrev Lows : (k : ℕ) → Relation (shadow_fiber by_formulas (setting_of m (to_first_report setup)) m) (shadow_fiber by_formulas (setting_of m (refilled (to_first_report setup) (fills k))) m)
  Lows k = low.relation m formed valid unmarked (to_first_report setup) refl (bytes_one m formed valid unmarked setup bytes schedule) (fills k) (bytes_too m formed valid unmarked setup bytes schedule (at k))

  laws : (k : ℕ) → Laws one (filled k) (Lows k)
  laws k = low.laws m formed valid unmarked (to_first_report setup) refl (bytes_one m formed valid unmarked setup bytes schedule) (fills k) (bytes_too m formed valid unmarked setup bytes schedule (at k))

  counts : (k : ℕ) → Counts one (filled k) (Lows k)
  counts k = low.counts m formed valid unmarked (to_first_report setup) refl (bytes_one m formed valid unmarked setup bytes schedule) (fills k) (bytes_too m formed valid unmarked setup bytes schedule (at k))

  late : (k : ℕ) → LateLaws one (filled k) (Lows k)
  late k = low.late m formed valid unmarked (to_first_report setup) refl (bytes_one m formed valid unmarked setup bytes schedule) (fills k) (bytes_too m formed valid unmarked setup bytes schedule (at k))

  abbrev Low : ℕ → Fibers (List (Frame Poisoned)) World → Fibers (List (Frame Poisoned)) World → Type 0
  Low k c d = LowAlike m formed valid unmarked setup bytes schedule (at k) c d

  abbrev answer : Stepped (Fibers (List (Frame Poisoned)) World) → RunResult
  answer x = go_on (λ c. result «end».Spent (shadow_world c)) x

  world_is : (c : Fibers (List (Frame Poisoned)) World) → world_of one c ≡ shadow_world c
  world_is (Goes f w rest) = refl
  world_is (Waits w rest) = refl

  spent_same : (k : ℕ) (c d : Fibers (List (Frame Poisoned)) World) → Low k c d → result «end».Spent (world_of one c) ≡ result «end».Spent (shadow_world d)
  spent_same k c d h = ap (result «end».Spent) (world_is c) ∙ result_same «end».Spent (shadow_world c) (shadow_world d) (low_worlds m formed valid unmarked setup bytes schedule (at k) c d h)

  -- the blind uses of what a step comes to
  abbrev blinds : Stepped (Fibers (List (Frame Poisoned)) World) → ℕ
  blinds x = count_of (λ w. w.blind) (world_of one) x

  chosen_alike : (n k : ℕ) (c d : Fibers (List (Frame Poisoned)) World) → Low k c d → (ends_in one schedule n c).1.blind ≡ (world_of one c).blind
      → result (ends_in one schedule n c).0 (ends_in one schedule n c).1 ≡ answer (steps_by filled_step n k d)
  chosen_alike zero k c d h quiet = spent_same k c d h
  chosen_alike (suc n) k c d h quiet =
      by_step (λ c' d' g q. chosen_alike n (suc k) c' d' (low_again m formed valid unmarked setup bytes schedule (at k) (at (suc k)) c' d' g) q) (fibers_step one schedule c) (filled_step k d)
      (step_counted one (filled k) (Lows k) (laws k) (counts k) (late k) schedule c)
      (λ q. fibers_alike one (filled k) (Lows k) (laws k) (counts k) (late k) schedule c d h q) quiet
    where
      by_step : ((c' d' : Fibers (List (Frame Poisoned)) World) → Low k c' d' → (ends_in one schedule n c').1.blind ≡ (world_of one c').blind
          → result (ends_in one schedule n c').0 (ends_in one schedule n c').1 ≡ answer (steps_by filled_step n (suc k) d'))
          → (x y : Stepped (Fibers (List (Frame Poisoned)) World)) → (world_of one c).blind ≤ blinds x → (blinds x ≡ (world_of one c).blind → LowSteps m formed valid unmarked setup bytes schedule (at k) x y)
          → (finish one (ends_in one schedule n) x).1.blind ≡ (world_of one c).blind
          → result (finish one (ends_in one schedule n) x).0 (finish one (ends_in one schedule n) x).1 ≡ answer (and_then y (steps_by filled_step n (suc k)))
      by_step rest (More c') (More d') le g q =
          let up = runs_counted one (filled k) (Lows k) (laws k) (counts k) (late k) schedule n c' in
          let same : (world_of one c').blind ≡ (world_of one c).blind = omega (arith, le, up, q) in
          rest c' d' (g same) (q ∙ sym same)
      by_step rest (Stop e w) (Stop x v) le g q = let h = g q in ap (λ z. result z w) h.0 ∙ result_same x w v h.1
      by_step rest (More c') (Stop x v) le g q =
          let up = runs_counted one (filled k) (Lows k) (laws k) (counts k) (late k) schedule n c' in
          absurd (g (omega (arith, le, up, q)))
      by_step rest (Stop e w) (More d') le g q = absurd (g q)

  -- ---- by completions

  step_same : (k : ℕ) → fibers_step (shadow_fiber by_completions (setting_of m (refilled (to_first_report setup) (fills k))) m) schedule ≡ filled_step k
  step_same k = ap (λ means. fibers_step means schedule) (same_fiber formulas_exact (setting_of m (refilled (to_first_report setup) (fills k))) m)

  pub chosen_same : (shadow_threads m (to_first_report setup) schedule).blind ≡ 0 → shadow_threads_chosen m (to_first_report setup) fills schedule ≡ shadow_threads m (to_first_report setup) schedule
  chosen_same quiet =
      let c = shadow_threads_start m setup in
      let none : (start_world m setup).blind ≡ 0 = (globals_kept m.types (address_of m) m.globals _).blind in
      let alike = chosen_alike setup.steps 0 c c (start_low m formed valid unmarked setup bytes schedule (at 0)) (ap (λ (r : RunResult). r.blind) (sym (computed_threads m (to_first_report setup) schedule)) ∙ quiet ∙ sym none) in
      ap (λ (step : ℕ → Fibers (List (Frame Poisoned)) World → Stepped (Fibers (List (Frame Poisoned)) World)). answer (steps_by step setup.steps 0 (shadow_threads_start m setup))) (λ i k. step_same k i)
      ∙ sym alike ∙ sym (computed_threads m (to_first_report setup) schedule)
