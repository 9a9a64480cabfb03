-- A shadow run of fibers that ends as reported has a report.
use Rattle.std.proofs.Common.{◌+◌, ◌%◌, ℕ, zero, suc, Bool, true, false, List, [], ◌∷◌, length, get_or, Option, Some, None, ap}
use Rattle.std.proofs.lemmas.Bool.{false≢true}
use Rattle.ms_bits.specs.declared.traps.Trap.TheVariants as trap
use Rattle.ms_ir.specs.declared.syntax.Inst.{Inst}
use Rattle.ms_ir.specs.declared.syntax.Module.{Module}
use Rattle.ms_ir.specs.Instructions.{operands}
use Rattle.ms_runs.specs.declared.runs.End.{End}
use Rattle.ms_runs.specs.declared.runs.End.TheVariants as «end»
use Rattle.ms_runs.specs.World.{World, Thread, Setting, Effect, Gives, Does, Goes, Enters, Leaves, Ends as Over}
use Rattle.ms_runs.specs.Threads.{thread_at}
use Rattle.ms_runs.specs.Control.{Frame, Outcome, On, Over as Stops, here, rest_of, read_all}
use Rattle.ms_runs.specs.Plain.{Stepped, More, Stop}
use Rattle.ms_runs.specs.Poisoned.{Poisoned}
use Rattle.ms_runs.specs.Masks.{Rules}
use Rattle.ms_runs.specs.Uses.{uses}
use Rattle.ms_runs.specs.Shadow.{read_poisoned, shadow_moved, after_checks, shadow_frames}
use Rattle.ms_runs_threads.specs.Fibers.{Due, Own, Asks, Returns, Going, Meaning, Others, Fibers, Goes as GoesOn, Waits, goes_on, moved, resumed, resumes, picked, fibers_step, runnable, standing, turned, finish, ends_in, world_of}
use Rattle.ms_runs_threads.specs.ShadowFibers.{shadow_going, checked, reach_first, perform_first, shadow_fiber}
use Rattle.ms_runs_fills_laws.proofs.Reported.{Told, ToldAfter, ToldOutcome, trapped, uses_told, after_told, frames_told}

-- an end as reported
abbrev is_told : End → Bool
is_told «end».Reported = true
is_told e = false

spent_told : (w : World) → Told «end».Spent w
spent_told w e z = false≢true (ap is_told e)

module _ (d : Rules) (s : Setting) (m : Module) where
  abbrev means : Meaning (List (Frame Poisoned)) World
  means = shadow_fiber d s m

  abbrev ToldGoing : Stepped (Going (List (Frame Poisoned)) World) → Type 0
  ToldGoing (More g) = Unit {0}
  ToldGoing (Stop e w) = Told e w

  abbrev ToldRun : Stepped (Fibers (List (Frame Poisoned)) World) → Type 0
  ToldRun (More c) = Unit {0}
  ToldRun (Stop e w) = Told e w

  told_moved : (x : Outcome Poisoned) → ToldOutcome x → ToldGoing (shadow_going (shadow_moved x))
  told_moved (On fs w) h = tt
  told_moved (Stops e w) h = h

  told_checked : (fs : List (Frame Poisoned)) (e : Effect) → ToldAfter e → ToldGoing (shadow_going (checked fs e))
  told_checked fs (Does u) h = tt
  told_checked fs (Over e u) h = h
  told_checked fs (Gives v u) h = trapped trap.Unreachable 0 u
  told_checked fs (Goes v u) h = trapped trap.Unreachable 0 u
  told_checked fs (Enters v u) h = trapped trap.Unreachable 0 u
  told_checked fs (Leaves u) h = trapped trap.Unreachable 0 u

  step_told : (f : List (Frame Poisoned)) (w : World) → ToldGoing (means.step f w)
  step_told f w = told_moved (shadow_frames d s m f w) (frames_told d s m f w)

  reach_told : (f : List (Frame Poisoned)) (w : World) → ToldGoing (means.reach f w)
  reach_told [] w = trapped trap.Unreachable 0 w
  reach_told (f ∷ fs) w = by_list (rest_of m f)
    where
      by_list : (l : List Inst) → ToldGoing (shadow_going (reach_first s m l f fs w))
      by_list [] = trapped trap.Unreachable 0 w
      by_list (i ∷ is) =
          let at = here s m f in told_checked (f ∷ fs) _ (uses_told s at.site (operands i.op) (read_all (read_poisoned s f.values) (operands i.op) at.root) (uses s.func at.main i.op) w)

  perform_told : (f : List (Frame Poisoned)) (w : World) → ToldGoing (means.perform f w)
  perform_told [] w = trapped trap.Unreachable 0 w
  perform_told (f ∷ fs) w = by_list (rest_of m f)
    where
      by_list : (l : List Inst) → ToldGoing (shadow_going (perform_first d s m l f fs w))
      by_list [] = trapped trap.Unreachable 0 w
      by_list (i ∷ is) =
          let at = here s m f in
          let ps = read_all (read_poisoned s f.values) (operands i.op) at.root in
          told_moved (after_checks d s m i at ps f fs (Does w)) (after_told d s m i at ps f fs (Does w) tt)

  goes_told : (x : Stepped (Going (List (Frame Poisoned)) World)) → ToldGoing x → (go : Going (List (Frame Poisoned)) World → Stepped (Fibers (List (Frame Poisoned)) World))
      → ((g : Going (List (Frame Poisoned)) World) → ToldRun (go g)) → ToldRun (goes_on x go)
  goes_told (More g) h go k = k g
  goes_told (Stop e w) h go k = h

  moved_told : (f : List (Frame Poisoned)) (w : World) (rest : Others (List (Frame Poisoned))) (due : Due) → ToldRun (moved means f w rest due)
  moved_told f w rest Own = goes_told (means.step f w) (step_told f w) _ (λ g. tt)
  moved_told f w rest Asks = goes_told (means.reach f w) (reach_told f w) _ (λ g. tt)
  moved_told f w rest Returns = goes_told (means.reach f w) (reach_told f w) _ (λ g. tt)

  resumed_told : (w : World) (rest : Others (List (Frame Poisoned))) (k : ℕ) (o : Option (List (Frame Poisoned))) (t : Option Thread) → ToldRun (resumed means w rest k o t)
  resumed_told w rest k (Some f) t = goes_told (means.perform f w) (perform_told f w) _ (λ g. moved_told g.fiber g.shared rest (means.due g.fiber))
  resumed_told w rest k None (Some t) = let g = means.begun t.func t.argument w in moved_told g.fiber g.shared rest (means.due g.fiber)
  resumed_told w rest k None None = trapped trap.Unreachable 0 w

  resumes_told : (w : World) (rest : Others (List (Frame Poisoned))) (k : ℕ) → ToldRun (resumes means w rest k)
  resumes_told w rest k =
      resumed_told (turned k w) (record { stands = standing k None rest.stands; picks = rest.picks + 1 }) k (rest.stands k) (thread_at k w.threads)

  picked_told : (schedule : List ℕ) (w : World) (rest : Others (List (Frame Poisoned))) (l : List ℕ) → ToldRun (picked means schedule w rest l)
  picked_told schedule w rest [] = trapped trap.Deadlock _ w
  picked_told schedule w rest (k ∷ ks) = resumes_told w rest (get_or (k ∷ ks) (get_or schedule (rest.picks % length schedule) 0 % length (k ∷ ks)) k)

  step_so : (schedule : List ℕ) (c : Fibers (List (Frame Poisoned)) World) → ToldRun (fibers_step means schedule c)
  step_so schedule (GoesOn f w rest) = moved_told f w rest (means.due f)
  step_so schedule (Waits w rest) = picked_told schedule w rest (runnable means.joins (means.world w).threads rest.stands)

  pub ends_told : (schedule : List ℕ) (n : ℕ) (c : Fibers (List (Frame Poisoned)) World) → Told (ends_in means schedule n c).0 (ends_in means schedule n c).1
  ends_told schedule zero c = spent_told (world_of means c)
  ends_told schedule (suc n) c = by_step (fibers_step means schedule c) (step_so schedule c) (λ d. ends_told schedule n d)
    where
      by_step : (x : Stepped (Fibers (List (Frame Poisoned)) World)) → ToldRun x
          → ((d : Fibers (List (Frame Poisoned)) World) → Told (ends_in means schedule n d).0 (ends_in means schedule n d).1)
          → Told (finish means (ends_in means schedule n) x).0 (finish means (ends_in means schedule n) x).1
      by_step (More d) h later = later d
      by_step (Stop e w) h later = h
