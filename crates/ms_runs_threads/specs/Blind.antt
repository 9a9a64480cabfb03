-- The sites of blind uses, and the calls that stand at the end, in runs of fibers (own).
use Rattle.std.specs.Prelude.{ℕ, zero, suc, ◌%◌, List, [], ◌∷◌, length, get_or, Option, Some, None}
use Rattle.ms_ir.specs.declared.syntax.Module.{Module}
use Rattle.ms_runs.specs.declared.runs.Calls.{Calls}
use Rattle.ms_runs.specs.declared.runs.Setup.{Setup}
use Rattle.ms_runs.specs.World.{World, Thread}
use Rattle.ms_runs.specs.Threads.{thread_at}
use Rattle.ms_runs.specs.Plain.{Stepped, More, Stop, setting_of}
use Rattle.ms_runs.specs.Masks.{Rules, by_completions}
use Rattle.ms_runs.specs.Calls.{call_sites, said_in}
use Rattle.ms_runs_threads.specs.Fibers.{Meaning, Others, Fibers, Going, Goes, Waits, runnable, turned, with_world, site_at, fibers_step, world_of}
use Rattle.ms_runs_threads.specs.PlainFibers.{plain_fiber, plain_threads_start}
use Rattle.ms_runs_threads.specs.ShadowFibers.{shadow_fiber, shadow_threads_start}
use Rattle.ms_runs_threads.specs.Calls.{Told, Acting, none_told, start_of, acting, sites_from, told_by}

module _ {F S : Type 0} (means : Meaning F S) where
  -- ---- the fiber that takes a step, after a pick where one is due

  -- one that is picked where it stands at a thread call takes its step after that
  abbrev pub after_call : F → Stepped (Going F S) → Option F
  after_call f (More g) = Some g.fiber
  after_call f (Stop e w) = Some f

  abbrev pub going_on : S → Option F → Option Thread → Option F
  going_on s (Some f) thread = after_call f (means.perform f s)
  going_on s None (Some t) = Some (means.begun t.func t.argument s).fiber
  going_on s None None = None

  abbrev pub going_of : List ℕ → S → Others F → List ℕ → Option F
  going_of schedule s rest [] = None
  going_of schedule s rest (k ∷ ks) =
      let n = get_or (k ∷ ks) (get_or schedule (rest.picks % length schedule) 0 % length (k ∷ ks)) k in
      going_on (with_world means (turned n) s) (rest.stands n) (thread_at n (means.world s).threads)

  abbrev pub going : List ℕ → Fibers F S → Option F
  going schedule (Goes f s rest) = Some f
  going schedule (Waits s rest) = going_of schedule s rest (runnable means.joins (means.world s).threads rest.stands)

  -- the site of each blind use of a run of at most so many steps, in order
  abbrev pub fibers_blind : List ℕ → ℕ → Fibers F S → List ℕ → List ℕ
  fibers_blind schedule n c told = said_in (λ (w : World). w.blind) (world_of means) (λ c. site_at means (going schedule c)) (fibers_step means schedule) n c told

  -- ---- the end

  module _ (sites : F → List ℕ) where
    abbrev pub fibers_end_after : Acting F → (Fibers F S → Told → Option Calls) → Told → Stepped (Fibers F S) → Option Calls
    fibers_end_after a go told (More c) = go c (told_by means sites a (world_of means c) told)
    fibers_end_after a go told (Stop e w) = Some (record { sites = sites_from means sites a.from; started = start_of a.number told.starts })

    -- the calls of the fiber whose step ends a run of at most so many steps; none where they are spent
    abbrev pub fibers_end : List ℕ → ℕ → Fibers F S → Told → Option Calls
    fibers_end schedule zero c told = None
    fibers_end schedule (suc n) c told = fibers_end_after (acting means sites schedule c) (fibers_end schedule n) told (fibers_step means schedule c)

-- ---- of modules

abbrev pub plain_threads_blind : Module → Setup → (schedule : List ℕ) → List ℕ
plain_threads_blind m setup schedule = fibers_blind (plain_fiber (setting_of m setup) m) schedule setup.steps (plain_threads_start m setup) []

abbrev pub shadow_threads_blind_by : Rules → Module → Setup → (schedule : List ℕ) → List ℕ
shadow_threads_blind_by d m setup schedule = fibers_blind (shadow_fiber d (setting_of m setup) m) schedule setup.steps (shadow_threads_start m setup) []

abbrev pub shadow_threads_blind : Module → Setup → (schedule : List ℕ) → List ℕ
shadow_threads_blind = shadow_threads_blind_by by_completions

abbrev pub plain_threads_end_calls : Module → Setup → (schedule : List ℕ) → Option Calls
plain_threads_end_calls m setup schedule = fibers_end (plain_fiber (setting_of m setup) m) (call_sites m) schedule setup.steps (plain_threads_start m setup) none_told

abbrev pub shadow_threads_end_calls_by : Rules → Module → Setup → (schedule : List ℕ) → Option Calls
shadow_threads_end_calls_by d m setup schedule = fibers_end (shadow_fiber d (setting_of m setup) m) (call_sites m) schedule setup.steps (shadow_threads_start m setup) none_told

abbrev pub shadow_threads_end_calls : Module → Setup → (schedule : List ℕ) → Option Calls
shadow_threads_end_calls = shadow_threads_end_calls_by by_completions
