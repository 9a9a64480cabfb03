-- Each blind use of a run of fibers has a site.
use Rattle.std.proofs.Common.{◌≡◌, ◌≤◌, ℕ, zero, suc, Bool, true, false, List, [], ◌∷◌, length, if◌then◌else◌, refl, sym, ap, subst, ◌∙◌, arith}
use Rattle.ms_ir.specs.declared.syntax.Inst.{Inst}
use Rattle.ms_ir.specs.declared.syntax.Module.{Module}
use Rattle.ms_runs.specs.declared.runs.End.{End}
use Rattle.ms_runs.specs.declared.runs.RunResult.{RunResult}
use Rattle.ms_runs.specs.declared.runs.Setup.{Setup}
use Rattle.ms_runs.specs.World.{World, Setting, result}
use Rattle.ms_runs.specs.Globals.{address_of}
use Rattle.ms_runs.specs.Control.{Frame, rest_of}
use Rattle.ms_runs.specs.Plain.{PlainState, Stepped, More, Stop, and_then, go_on, run, plain_inst, plain_step, setting_of}
use Rattle.ms_runs.specs.Poisoned.{Poisoned}
use Rattle.ms_runs.specs.Masks.{by_formulas}
use Rattle.ms_runs.specs.Calls.{places_of}
use Rattle.ms_runs.proofs.EachSaid.{counted_after, each_said}
use Rattle.ms_runs_laws.specs.Places.{uses_at}
use Rattle.ms_runs_laws.proofs.BlindPlaces.{all_counted}
use Rattle.ms_runs_good_laws.proofs.ReportsGrow.{stepped_world, inst_blind_grows, step_blind_grows}
use Rattle.ms_runs_fills_laws.proofs.Kept.{given_back_kept, globals_kept}
use Rattle.ms_runs_threads.specs.Alike.{count_of, Relation, of_going, left_world, Laws, LateLaws, Counts}
use Rattle.ms_runs_threads.specs.Fibers.{Meaning, Fibers, Goes, Waits, site_at, fibers_step, world_of, finish, ends_in}
use Rattle.ms_runs_threads.specs.Blind.{going, fibers_blind, plain_threads_blind, shadow_threads_blind}
use Rattle.ms_runs_threads.specs.PlainFibers.{Shared, state_of, plain_going, through_marked, plain_reach, frames_left, plain_fiber, plain_threads_start, plain_threads}
use Rattle.ms_runs_threads.specs.ShadowFibers.{shadow_fiber, shadow_threads_start, shadow_threads}
use Rattle.ms_runs_threads.proofs.Follow.{step_counted}
use Rattle.ms_threads_laws.proofs.FollowedRuns.{computed_threads}
use Rattle.ms_threads_laws.proofs.FollowedBlind.{computed_blind}
use Rattle.ms_threads_runs_laws.specs.ChangingThreads.{shadow_world}
use Rattle.ms_threads_runs_laws.proofs.Grown.{RunFurther, step_further}

-- ---- of any meaning of fibers

abbrev shown : End × World → RunResult
shown at = result at.0 at.1

module _ {F S : Type 0} (means : Meaning F S) (schedule : List ℕ) where
  -- a run of fibers is the run of their steps
  run_ends : (n : ℕ) (c : Fibers F S) → run (world_of means) (fibers_step means schedule) n c ≡ shown (ends_in means schedule n c)
  run_ends zero c = refl
  run_ends (suc n) c = by_step (λ d. run_ends n d) (fibers_step means schedule c)
    where
      by_step : ((d : Fibers F S) → run (world_of means) (fibers_step means schedule) n d ≡ shown (ends_in means schedule n d)) → (x : Stepped (Fibers F S))
          → go_on (run (world_of means) (fibers_step means schedule) n) x ≡ shown (finish means (ends_in means schedule n) x)
      by_step rest (More d) = rest d
      by_step rest (Stop e w) = refl

  -- where no step makes blind uses fewer
  blind_said : ((c : Fibers F S) → (world_of means c).blind ≤ counted_after (λ (w : World). w.blind) (world_of means) (fibers_step means schedule c))
      → (n : ℕ) (c : Fibers F S) → 0 ≡ (world_of means c).blind → length (fibers_blind means schedule n c []) ≡ (shown (ends_in means schedule n c)).blind
  blind_said grows n c none =
      each_said (λ (w : World). w.blind) (λ (r : RunResult). r.blind) (λ e w. refl) (world_of means) (λ (d : Fibers F S). site_at means (going means schedule d)) (fibers_step means schedule) grows n c [] none
      ∙ ap (λ (r : RunResult). r.blind) (run_ends n c)

-- ---- shadow runs

module _ (m : Module) (setup : Setup) (schedule : List ℕ) where
  abbrev means_of : Meaning (List (Frame Poisoned)) World
  means_of = shadow_fiber by_formulas (setting_of m setup) m

  same_world : (c : Fibers (List (Frame Poisoned)) World) → shadow_world c ≡ world_of means_of c
  same_world (Goes f w rest) = refl
  same_world (Waits w rest) = refl

  further_counts : (w : World) (x : Stepped (Fibers (List (Frame Poisoned)) World)) → RunFurther (setting_of m setup) m w x → w.blind ≤ counted_after (λ (u : World). u.blind) (world_of means_of) x
  further_counts w (More c) h = subst (λ (u : World). w.blind ≤ u.blind) (same_world c) h.blind
  further_counts w (Stop e u) h = h.blind

  step_counts : (c : Fibers (List (Frame Poisoned)) World) → (world_of means_of c).blind ≤ counted_after (λ (u : World). u.blind) (world_of means_of) (fibers_step means_of schedule c)
  step_counts c =
      subst (λ (w : World). w.blind ≤ counted_after (λ (u : World). u.blind) (world_of means_of) (fibers_step means_of schedule c)) (same_world c)
      (further_counts (shadow_world c) (fibers_step means_of schedule c) (step_further (setting_of m setup) m schedule c))

  pub shadow_each : length (shadow_threads_blind m setup schedule) ≡ (shadow_threads m setup schedule).blind
  shadow_each =
      ap length (computed_blind m setup schedule)
      ∙ blind_said means_of schedule step_counts setup.steps (shadow_threads_start m setup) (sym (globals_kept m.types (address_of m) m.globals _).blind)
      ∙ ap (λ (r : RunResult). r.blind) (sym (computed_threads m setup schedule))

  pub shadow_places : uses_at (places_of (shadow_threads_blind m setup schedule)) ≡ (shadow_threads m setup schedule).blind
  shadow_places = all_counted (shadow_threads_blind m setup schedule) ∙ shadow_each

-- ---- plain runs

module _ {F S : Type 0} (means : Meaning F S) where
  -- blind uses are counted alone: no two states are alike
  abbrev counting : Relation means means
  counting = record {
    Go = λ f s g t. ⊥;
    At = λ f g. ⊥;
    Shared = λ s t. ⊥;
    Ends = λ e w x v. ⊥;
    Early = λ e w v. ⊥;
    count = λ w. w.blind;
  }

  none_alike : Laws means means counting
  none_alike = record {
    due = λ f s g t h. absurd h;
    turn = λ f s g t h. absurd h;
    step = λ f s g t h own quiet. absurd h;
    reach = λ f s g t h asks quiet. absurd h;
    returns = λ f s g t h due quiet. absurd h;
    shared_turn = λ s t h. absurd h;
    joins = λ f g h. absurd h;
    site = λ f g h. absurd h;
    perform = λ f s g t h shared quiet. absurd h;
    begun = λ s t h k x is. absurd h;
    shared_turned = λ s t h k. absurd h;
    threads = λ s t h. absurd h;
    ends = λ s t h e. absurd h;
    spent = λ f s g t h. absurd h;
  }

  none_late : LateLaws means means counting
  none_late = record {
    step = λ e w g t h. absurd h;
    reach = λ e w g t h. absurd h;
    perform = λ e w g t h. absurd h;
    ended = λ e w g t h. absurd h;
    begun = λ e w t func argument h. absurd h;
    turned = λ e w t k h. absurd h;
    ends = λ e w v h x. absurd h;
  }

  counts_after : (x : Stepped (Fibers F S)) (n : ℕ) → n ≤ count_of (λ (w : World). w.blind) (left_world means means counting) x → n ≤ counted_after (λ (w : World). w.blind) (world_of means) x
  counts_after (More c) n le = le
  counts_after (Stop e w) n le = le

module _ (s : Setting) (m : Module) where
  marked_grows : (is : List Inst) (state : PlainState) → state.world.blind ≤ (stepped_world (through_marked s m is state)).blind
  marked_grows [] state = omega arith
  marked_grows (i ∷ is) state = by_inst (λ c. marked_grows is c) (plain_inst s m i state state.frames) (inst_blind_grows s m i state state.frames) i.marked
    where
      by_inst : ((c : PlainState) → c.world.blind ≤ (stepped_world (through_marked s m is c)).blind) → (x : Stepped PlainState) → state.world.blind ≤ (stepped_world x).blind
          → (b : Bool) → state.world.blind ≤ (stepped_world (if b then and_then x (through_marked s m is) else More state)).blind
      by_inst rest (More c) le true = omega (arith, le, rest c)
      by_inst rest (Stop e w) le true = le
      by_inst rest x le false = omega arith

  reach_grows : (frames : List (Frame ℕ)) (shared : Shared) → shared.world.blind ≤ (stepped_world (plain_reach s m frames shared)).blind
  reach_grows [] shared = omega arith
  reach_grows (f ∷ below) shared = marked_grows (rest_of m f) (state_of (f ∷ below) shared)

  going_grows : (w : World) (x : Stepped PlainState) → w.blind ≤ (stepped_world x).blind
      → w.blind ≤ count_of (λ (u : World). u.blind) (of_going (plain_fiber s m) (plain_fiber s m) (counting (plain_fiber s m))) (plain_going x)
  going_grows w (More c) le = le
  going_grows w (Stop e u) le = le

  left_same : (frames : List (Frame ℕ)) (w : World) → (frames_left frames w).blind ≡ w.blind
  left_same [] w = refl
  left_same (f ∷ below) w = (given_back_kept f w).blind

  grows : Counts (plain_fiber s m) (plain_fiber s m) (counting (plain_fiber s m))
  grows = record {
    step = λ frames shared. going_grows shared.world (plain_step s m (state_of frames shared)) (step_blind_grows s m (state_of frames shared));
    reach = λ frames shared. going_grows shared.world (plain_reach s m frames shared) (reach_grows frames shared);
    perform = λ frames shared. going_grows shared.world (plain_step s m (state_of frames shared)) (step_blind_grows s m (state_of frames shared));
    ended = λ frames shared. left_same frames shared.world;
    begun = λ shared func argument. refl;
    turned = λ shared k. refl;
  }

pub plain_each : (m : Module) (setup : Setup) (schedule : List ℕ) → length (plain_threads_blind m setup schedule) ≡ (plain_threads m setup schedule).blind
plain_each m setup schedule =
    let means = plain_fiber (setting_of m setup) m in
    blind_said means schedule
    (λ c. counts_after means (fibers_step means schedule c) (world_of means c).blind (step_counted means means (counting means) (none_alike means) (grows (setting_of m setup) m) (none_late means) schedule c))
    setup.steps (plain_threads_start m setup) (sym (globals_kept m.types (address_of m) m.globals _).blind)

pub plain_places : (m : Module) (setup : Setup) (schedule : List ℕ) → uses_at (places_of (plain_threads_blind m setup schedule)) ≡ (plain_threads m setup schedule).blind
plain_places m setup schedule = all_counted (plain_threads_blind m setup schedule) ∙ plain_each m setup schedule
