-- No step of a shadow run of fibers takes back a report or a blind use.
use Rattle.std.proofs.Common.{◌≡◌, ◌≤◌, ◌+◌, ◌%◌, ℕ, zero, suc, List, [], ◌∷◌, length, get_or, Option, Some, None, refl, sym, ap, ◌∙◌, arith}
use Rattle.ms_ir.specs.declared.syntax.Inst.{Inst}
use Rattle.ms_ir.specs.declared.syntax.Module.{Module}
use Rattle.ms_ir.specs.Instructions.{operands}
use Rattle.ms_runs.specs.declared.runs.Report.{Report}
use Rattle.ms_runs.specs.World.{World, Setting, Thread, Effect, Gives, Does, Goes as Jumps, Enters, Leaves, Ends}
use Rattle.ms_runs.specs.Threads.{thread_at}
use Rattle.ms_runs.specs.Control.{Frame, Outcome, On, Over, here, rest_of, read_all}
use Rattle.ms_runs.specs.Plain.{Stepped, More, Stop, steps, and_then}
use Rattle.ms_runs.specs.Poisoned.{Poisoned}
use Rattle.ms_runs.specs.Masks.{by_formulas}
use Rattle.ms_runs.specs.Uses.{uses}
use Rattle.ms_runs.specs.Shadow.{read_poisoned, shadow_moved, after_checks, shadow_frames}
use Rattle.ms_runs_fills_laws.specs.Certain.{Untold}
use Rattle.ms_runs_fills_laws.proofs.Kept.{StartsWith, ChecksAfter, uses_kept, given_back_kept}
use Rattle.ms_runs_fills_laws.proofs.Runs.{GrownOutcome, after_grown, frames_grown}
use Rattle.ms_runs_threads.specs.Fibers.{Due, Own, Asks, Returns, Going, Meaning, Others, Fibers, Goes, Waits, standing, turned, goes_on, ended, moved, moves, resumed, picked, runnable, fibers_step}
use Rattle.ms_runs_threads.specs.ShadowFibers.{shadow_going, checked, reach_first, shadow_reach, perform_first, shadow_perform, shadow_fiber}
use Rattle.ms_threads_runs_laws.specs.CertainThreads.{UntoldFibers}
use Rattle.ms_threads_runs_laws.specs.ChangingThreads.{shadow_world}

-- no blind use is taken back, and the first reports stay the first
pub record Further (w u : World) : Type 0 where
  pub blind : w.blind ≤ u.blind
  pub leads : (l : List Report) → StartsWith l w → StartsWith l u

itself : (w : World) → Further w w
itself w = record { blind = omega arith; leads = λ r h. h }

then_further : (w v u : World) → Further w v → Further v u → Further w u
then_further w v u h g = record { blind = omega (arith, h.blind, g.blind); leads = λ r k. g.leads r (h.leads r k) }

-- where nothing is told in the end, nothing was told before
pub untold_before : (w u : World) → Further w u → Untold u → Untold w
untold_before w u g h = record { reports = by_reports w.reports refl; blind = omega (arith, g.blind, h.blind) }
  where
    by_reports : (rs : List Report) → w.reports ≡ rs → w.reports ≡ []
    by_reports [] e = e
    by_reports (r ∷ rest) e = let f = g.leads (r ∷ []) (rest, e) in absurd (omega (arith, ap length (sym f.1 ∙ h.reports)))

module _ (s : Setting) (m : Module) where
  abbrev means : Meaning (List (Frame Poisoned)) World
  means = shadow_fiber by_formulas s m

  abbrev GoingFurther : World → Stepped (Going (List (Frame Poisoned)) World) → Type 0
  GoingFurther w (More g) = Further w g.shared
  GoingFurther w (Stop e u) = Further w u

  abbrev pub RunFurther : World → Stepped (Fibers (List (Frame Poisoned)) World) → Type 0
  RunFurther w (More c) = Further w (shadow_world c)
  RunFurther w (Stop e u) = Further w u

  -- ---- one fiber

  outcome_further : (w : World) (x : Outcome Poisoned) → GrownOutcome w x → GoingFurther w (shadow_going (shadow_moved x))
  outcome_further w (On fs u) g = record { blind = g.blind; leads = g.leads }
  outcome_further w (Over e u) g = record { blind = g.blind; leads = g.leads }

  checks_further : (w : World) (fs : List (Frame Poisoned)) (e : Effect) → ChecksAfter w e → GoingFurther w (shadow_going (checked fs e))
  checks_further w fs (Does u) c = record { blind = omega (arith, c.blind); leads = c.leads }
  checks_further w fs (Ends x u) c = record { blind = omega (arith, c.blind); leads = c.leads }
  checks_further w fs (Gives v u) c = record { blind = omega (arith, c.blind); leads = c.leads }
  checks_further w fs (Jumps to u) c = record { blind = omega (arith, c.blind); leads = c.leads }
  checks_further w fs (Enters n u) c = record { blind = omega (arith, c.blind); leads = c.leads }
  checks_further w fs (Leaves u) c = record { blind = omega (arith, c.blind); leads = c.leads }

  reach_further : (f : List (Frame Poisoned)) (w : World) → GoingFurther w (shadow_going (shadow_reach s m f w))
  reach_further [] w = itself w
  reach_further (f ∷ fs) w = by_list (rest_of m f)
    where
      by_list : (l : List Inst) → GoingFurther w (shadow_going (reach_first s m l f fs w))
      by_list [] = itself w
      by_list (i ∷ is) =
          let at = here s m f in
          checks_further w (f ∷ fs) _ (uses_kept s at.site (operands i.op) (read_all (read_poisoned s f.values) (operands i.op) at.root) (uses s.func at.main i.op) w)

  perform_further : (f : List (Frame Poisoned)) (w : World) → GoingFurther w (shadow_going (shadow_perform by_formulas s m f w))
  perform_further [] w = itself w
  perform_further (f ∷ fs) w = by_list (rest_of m f)
    where
      by_list : (l : List Inst) → GoingFurther w (shadow_going (perform_first by_formulas s m l f fs w))
      by_list [] = itself w
      by_list (i ∷ is) =
          let at = here s m f in
          let ps = read_all (read_poisoned s f.values) (operands i.op) at.root in
          outcome_further w (after_checks by_formulas s m i at ps f fs (Does w)) (after_grown s m i at ps f fs w (Does w) (record { blind = refl; leads = λ r h. h; placed = λ h. h }))

  ended_further : (f : List (Frame Poisoned)) (w : World) → Further w (ended means f w)
  ended_further [] w = record { blind = omega arith; leads = λ r h. h }
  ended_further (f ∷ fs) w =
      let k = given_back_kept f w in record { blind = by_blind _ k.blind; leads = λ r h. (h.0, k.reports ∙ h.1) }
    where
      by_blind : (n : ℕ) → n ≡ w.blind → w.blind ≤ n
      by_blind n e = omega (arith, e)

  -- ---- a step

  goes_further : (w : World) (x : Stepped (Going (List (Frame Poisoned)) World)) (go : Going (List (Frame Poisoned)) World → Stepped (Fibers (List (Frame Poisoned)) World)) → GoingFurther w x
      → ((g : Going (List (Frame Poisoned)) World) → Further w g.shared → RunFurther w (go g)) → RunFurther w (goes_on x go)
  goes_further w (More g) go h k = k g h
  goes_further w (Stop e u) go h k = h

  moved_further : (v : World) (f : List (Frame Poisoned)) (w : World) (rest : Others (List (Frame Poisoned))) (due : Due) → Further v w → RunFurther v (moved means f w rest due)
  moved_further v f w rest Own h =
      goes_further v (means.step f w) _ (from (means.step f w) (outcome_further w (shadow_frames by_formulas s m f w) (frames_grown s m f w))) (λ g k. k)
    where
      from : (x : Stepped (Going (List (Frame Poisoned)) World)) → GoingFurther w x → GoingFurther v x
      from (More g) k = then_further v w g.shared h k
      from (Stop e u) k = then_further v w u h k
  moved_further v f w rest Asks h = goes_further v (means.reach f w) _ (from (means.reach f w) (reach_further f w)) (λ g k. k)
    where
      from : (x : Stepped (Going (List (Frame Poisoned)) World)) → GoingFurther w x → GoingFurther v x
      from (More g) k = then_further v w g.shared h k
      from (Stop e u) k = then_further v w u h k
  moved_further v f w rest Returns h =
      goes_further v (means.reach f w) _ (from (means.reach f w) (reach_further f w)) (λ g k. then_further v g.shared (ended means g.fiber g.shared) k (ended_further g.fiber g.shared))
    where
      from : (x : Stepped (Going (List (Frame Poisoned)) World)) → GoingFurther w x → GoingFurther v x
      from (More g) k = then_further v w g.shared h k
      from (Stop e u) k = then_further v w u h k

  turned_further : (k : ℕ) (w : World) → Further w (turned k w)
  turned_further k w = record { blind = omega arith; leads = λ r h. h }

  resumed_further : (v w : World) (rest : Others (List (Frame Poisoned))) (k : ℕ) (o : Option (List (Frame Poisoned))) (t : Option Thread) → Further v w → RunFurther v (resumed means w rest k o t)
  resumed_further v w rest k (Some f) t h =
      goes_further v (means.perform f w) (moves means rest) (from (means.perform f w) (perform_further f w)) (λ g q. moved_further v g.fiber g.shared rest (means.due g.fiber) q)
    where
      from : (x : Stepped (Going (List (Frame Poisoned)) World)) → GoingFurther w x → GoingFurther v x
      from (More g) q = then_further v w g.shared h q
      from (Stop e u) q = then_further v w u h q
  resumed_further v w rest k None (Some t) h = let g = means.begun t.func t.argument w in moved_further v g.fiber g.shared rest (means.due g.fiber) h
  resumed_further v w rest k None None h = h

  picked_further : (schedule : List ℕ) (w : World) (rest : Others (List (Frame Poisoned))) (l : List ℕ) → RunFurther w (picked means schedule w rest l)
  picked_further schedule w rest [] = itself w
  picked_further schedule w rest (k ∷ ks) =
      let n = get_or (k ∷ ks) (get_or schedule (rest.picks % length schedule) 0 % length (k ∷ ks)) k in
      resumed_further w (turned n w) (record { stands = standing n None rest.stands; picks = rest.picks + 1 }) n (rest.stands n) (thread_at n w.threads) (turned_further n w)

  pub step_further : (schedule : List ℕ) (c : Fibers (List (Frame Poisoned)) World) → RunFurther (shadow_world c) (fibers_step means schedule c)
  step_further schedule (Goes f w rest) = moved_further w f w rest (means.due f) (itself w)
  step_further schedule (Waits w rest) = picked_further schedule w rest (runnable means.joins w.threads rest.stands)

  untold_state : (c : Fibers (List (Frame Poisoned)) World) → UntoldFibers (More c) → Untold (shadow_world c)
  untold_state (Goes f w rest) h = h
  untold_state (Waits w rest) h = h

  state_untold : (c : Fibers (List (Frame Poisoned)) World) → Untold (shadow_world c) → UntoldFibers (More c)
  state_untold (Goes f w rest) h = h
  state_untold (Waits w rest) h = h

  -- what led to a step where nothing is told
  pub before_step : (schedule : List ℕ) (c : Fibers (List (Frame Poisoned)) World) → UntoldFibers (fibers_step means schedule c) → Untold (shadow_world c)
  before_step schedule c h = by_step (fibers_step means schedule c) (step_further schedule c) h
    where
      by_step : (x : Stepped (Fibers (List (Frame Poisoned)) World)) → RunFurther (shadow_world c) x → UntoldFibers x → Untold (shadow_world c)
      by_step (More d) g k = untold_before (shadow_world c) (shadow_world d) g (untold_state d k)
      by_step (Stop e u) g k = untold_before (shadow_world c) u g k

  pub before_steps : (schedule : List ℕ) (n : ℕ) (c : Fibers (List (Frame Poisoned)) World) → UntoldFibers (steps (fibers_step means schedule) n c) → UntoldFibers (More c)
  before_steps schedule zero c h = h
  before_steps schedule (suc n) c h = state_untold c (before_step schedule c (by_step (λ d k. before_steps schedule n d k) (fibers_step means schedule c) h))
    where
      by_step : ((d : Fibers (List (Frame Poisoned)) World) → UntoldFibers (steps (fibers_step means schedule) n d) → UntoldFibers (More d)) → (x : Stepped (Fibers (List (Frame Poisoned)) World)) → UntoldFibers (and_then x (steps (fibers_step means schedule) n)) → UntoldFibers x
      by_step later (More d) k = later d k
      by_step later (Stop e u) k = k
