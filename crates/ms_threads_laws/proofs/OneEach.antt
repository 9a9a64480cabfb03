-- Each report of a run of fibers has its calls.
use Rattle.std.proofs.Common.{◌≡◌, ◌≤◌, ℕ, zero, suc, Bool, true, false, List, [], ◌∷◌, length, if◌then◌else◌, refl, sym, ap, ◌∙◌, arith}
use Rattle.ms_ir.specs.declared.syntax.Inst.{Inst}
use Rattle.ms_ir.specs.declared.syntax.Module.{Module}
use Rattle.ms_runs.specs.declared.runs.Calls.{Calls}
use Rattle.ms_runs.specs.declared.runs.RunResult.{RunResult}
use Rattle.ms_runs.specs.declared.runs.Setup.{Setup}
use Rattle.ms_runs.specs.World.{World, Setting}
use Rattle.ms_runs.specs.Globals.{address_of}
use Rattle.ms_runs.specs.Control.{Frame, rest_of}
use Rattle.ms_runs.specs.Plain.{PlainState, Stepped, More, Stop, and_then, plain_inst, plain_step, setting_of}
use Rattle.ms_runs.specs.Calls.{call_sites}
use Rattle.ms_runs.proofs.Telling.{tell_count}
use Rattle.ms_runs_good_laws.proofs.ReportsGrow.{stepped_world, inst_grows, step_grows}
use Rattle.ms_runs_threads.specs.Alike.{count_of, Relation, of_going, left_world, Laws, LateLaws, Counts}
use Rattle.ms_runs_threads.specs.Calls.{Told, none_told, start_of, sites_from, acting, told_by, told_after, fibers_told, plain_threads_calls, shadow_threads_calls}
use Rattle.ms_runs_threads.specs.Fibers.{Meaning, Fibers, fibers_step, world_of, finish, ends_in}
use Rattle.ms_runs_threads.specs.PlainFibers.{Shared, state_of, plain_going, through_marked, plain_reach, frames_left, plain_fiber, plain_threads_start, plain_threads}
use Rattle.ms_runs_threads.specs.ShadowFibers.{shadow_threads}
use Rattle.ms_runs_threads.proofs.Follow.{step_counted}
use Rattle.ms_runs_fills_laws.proofs.Kept.{given_back_kept, globals_kept}

-- ---- of any meaning of fibers

module _ {F S : Type 0} (means : Meaning F S) (sites : F → List ℕ) where
  -- reports are counted alone: no two states are alike
  abbrev pub counting : Relation means means
  counting = record {
    Go = λ f s g t. ⊥;
    At = λ f g. ⊥;
    Shared = λ s t. ⊥;
    Ends = λ e w x v. ⊥;
    Early = λ e w v. ⊥;
    count = λ w. length w.reports;
  }

  pub none_alike : Laws means means counting
  none_alike = record {
    due = λ f s g t h. absurd h;
    turn = λ f s g t h. absurd h;
    step = λ f s g t h own quiet. absurd h;
    reach = λ f s g t h asks quiet. absurd h;
    returns = λ f s g t h due quiet. absurd h;
    shared_turn = λ s t h. absurd h;
    joins = λ f g h. absurd h;
    site = λ f g h. absurd h;
    perform = λ f s g t h shared quiet. absurd h;
    begun = λ s t h k x is. absurd h;
    shared_turned = λ s t h k. absurd h;
    threads = λ s t h. absurd h;
    ends = λ s t h e. absurd h;
    spent = λ f s g t h. absurd h;
  }

  pub none_late : LateLaws means means counting
  none_late = record {
    step = λ e w g t h. absurd h;
    reach = λ e w g t h. absurd h;
    perform = λ e w g t h. absurd h;
    ended = λ e w g t h. absurd h;
    begun = λ e w t func argument h. absurd h;
    turned = λ e w t k h. absurd h;
    ends = λ e w v h x. absurd h;
  }

  -- where no step of a fiber makes reports fewer
  module _ (counts : Counts means means counting) (schedule : List ℕ) where
    told_count : (n : ℕ) (c : Fibers F S) (told : Told) → length told.calls ≡ length (world_of means c).reports
        → length (fibers_told means sites schedule n c told) ≡ length (ends_in means schedule n c).1.reports
    told_count zero c told e = e
    told_count (suc n) c told e = by_step (λ d more f. told_count n d more f) (fibers_step means schedule c) (step_counted means means counting none_alike counts none_late schedule c)
      where
        by_step : ((d : Fibers F S) (more : Told) → length more.calls ≡ length (world_of means d).reports
            → length (fibers_told means sites schedule n d more) ≡ length (ends_in means schedule n d).1.reports)
            → (x : Stepped (Fibers F S)) → length (world_of means c).reports ≤ count_of (λ w. length w.reports) (left_world means means counting) x
            → length (told_after means sites (acting means sites schedule c) (fibers_told means sites schedule n) told x) ≡ length (finish means (ends_in means schedule n) x).1.reports
        by_step rest (More d) le =
            let a = acting means sites schedule c in
            rest d (told_by means sites a (world_of means d) told)
            (tell_count (let k : Calls = record { sites = sites_from means sites a.from; started = start_of a.number told.starts } in k) (world_of means d).reports told.calls (omega (arith, e, le)))
        by_step rest (Stop x w) le =
            let a = acting means sites schedule c in
            tell_count (let k : Calls = record { sites = sites_from means sites a.from; started = start_of a.number told.starts } in k) w.reports told.calls (omega (arith, e, le))

-- ---- plain runs

module _ (s : Setting) (m : Module) where
  marked_grows : (is : List Inst) (state : PlainState) → length state.world.reports ≤ length (stepped_world (through_marked s m is state)).reports
  marked_grows [] state = omega arith
  marked_grows (i ∷ is) state = by_inst (λ c. marked_grows is c) (plain_inst s m i state state.frames) (inst_grows s m i state state.frames) i.marked
    where
      by_inst : ((c : PlainState) → length c.world.reports ≤ length (stepped_world (through_marked s m is c)).reports) → (x : Stepped PlainState) → length state.world.reports ≤ length (stepped_world x).reports
          → (b : Bool) → length state.world.reports ≤ length (stepped_world (if b then and_then x (through_marked s m is) else More state)).reports
      by_inst rest (More c) le true = omega (arith, le, rest c)
      by_inst rest (Stop e w) le true = le
      by_inst rest x le false = omega arith

  reach_grows : (frames : List (Frame ℕ)) (shared : Shared) → length shared.world.reports ≤ length (stepped_world (plain_reach s m frames shared)).reports
  reach_grows [] shared = omega arith
  reach_grows (f ∷ below) shared = marked_grows (rest_of m f) (state_of (f ∷ below) shared)

  going_grows : (w : World) (x : Stepped PlainState) → length w.reports ≤ length (stepped_world x).reports
      → length w.reports ≤ count_of (λ w. length w.reports) (of_going (plain_fiber s m) (plain_fiber s m) (counting (plain_fiber s m) (call_sites m))) (plain_going x)
  going_grows w (More c) le = le
  going_grows w (Stop e u) le = le

  left_same : (frames : List (Frame ℕ)) (w : World) → (frames_left frames w).reports ≡ w.reports
  left_same [] w = refl
  left_same (f ∷ below) w = (given_back_kept f w).reports

  pub grows : Counts (plain_fiber s m) (plain_fiber s m) (counting (plain_fiber s m) (call_sites m))
  grows = record {
    step = λ frames shared. going_grows shared.world (plain_step s m (state_of frames shared)) (step_grows s m (state_of frames shared));
    reach = λ frames shared. going_grows shared.world (plain_reach s m frames shared) (reach_grows frames shared);
    perform = λ frames shared. going_grows shared.world (plain_step s m (state_of frames shared)) (step_grows s m (state_of frames shared));
    ended = λ frames shared. ap length (left_same frames shared.world);
    begun = λ shared func argument. refl;
    turned = λ shared k. refl;
  }

-- of a plain run
pub threads_one_each : (m : Module) (setup : Setup) (schedule : List ℕ) → length (plain_threads_calls m setup schedule) ≡ length (plain_threads m setup schedule).reports
threads_one_each m setup schedule =
    told_count (plain_fiber (setting_of m setup) m) (call_sites m) (grows (setting_of m setup) m) schedule setup.steps (plain_threads_start m setup) none_told
    (sym (ap length (globals_kept m.types (address_of m) m.globals _).reports))

-- and of a shadow run that the plain run of another module is, with the same calls
pub shadow_one_each : (m j : Module) (setup : Setup) (schedule : List ℕ) → plain_threads j setup schedule ≡ shadow_threads m setup schedule → plain_threads_calls j setup schedule ≡ shadow_threads_calls m setup schedule
    → length (shadow_threads_calls m setup schedule) ≡ length (shadow_threads m setup schedule).reports
shadow_one_each m j setup schedule runs calls = ap length (sym calls) ∙ threads_one_each j setup schedule ∙ ap (λ (r : RunResult). length r.reports) runs
