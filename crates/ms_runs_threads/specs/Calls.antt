-- The calls that stand where a use is reported, in runs of fibers, and where those were made (own).
use Rattle.std.specs.Prelude.{◌≡◌, ℕ, zero, suc, ◌+◌, ◌-◌, ◌%◌, List, [], ◌∷◌, length, get_or, Option, Some, None}
use Rattle.ms_ir.specs.declared.syntax.Module.{Module}
use Rattle.ms_runs.specs.declared.runs.Calls.{Calls}
use Rattle.ms_runs.specs.declared.runs.Setup.{Setup}
use Rattle.ms_runs.specs.World.{World}
use Rattle.ms_runs.specs.Control.{Frame}
use Rattle.ms_runs.specs.Plain.{Stepped, More, Stop, setting_of}
use Rattle.ms_runs.specs.Masks.{Rules, by_completions}
use Rattle.ms_runs.specs.Faithful.{Fair}
use Rattle.ms_runs.specs.Calls.{call_sites, tell}
use Rattle.ms_runs_threads.specs.Fibers.{Meaning, Others, Fibers, Goes, Waits, runnable, site_at, fibers_step, world_of}
use Rattle.ms_runs_threads.specs.PlainFibers.{plain_fiber, plain_threads_start}
use Rattle.ms_runs_threads.specs.ShadowFibers.{shadow_fiber, shadow_threads_start}

-- the fiber that takes a step: its number, and where it goes on from; nowhere where it begins
pub record Acting (F : Type 0) : Type 0 where
  pub number : ℕ
  pub from : Option F

-- what is known beside a run: of each fiber but `main`'s the site of the call that made it, and of each report its calls
pub record Told : Type 0 where
  pub starts : List ℕ
  pub calls : List Calls

abbrev pub none_told : Told
none_told = record { starts = []; calls = [] }

-- the site of the call that made the fiber with a number; 0 for that of `main`
abbrev pub start_of : ℕ → List ℕ → ℕ
start_of zero starts = 0
start_of (suc k) starts = get_or starts k 0

module _ {F S : Type 0} (means : Meaning F S) (sites : F → List ℕ) where
  -- the one that is picked
  abbrev pub acting_of : List ℕ → Others F → List ℕ → Acting F
  acting_of schedule rest [] = record { number = 0; from = None }
  acting_of schedule rest (k ∷ ks) =
      let n = get_or (k ∷ ks) (get_or schedule (rest.picks % length schedule) 0 % length (k ∷ ks)) k in record { number = n; from = rest.stands n }

  abbrev pub acting : List ℕ → Fibers F S → Acting F
  acting schedule (Goes f s rest) = record { number = (means.world s).turn; from = Some f }
  acting schedule (Waits s rest) = acting_of schedule rest (runnable means.joins (means.world s).threads rest.stands)

  abbrev pub sites_from : Option F → List ℕ
  sites_from None = []
  sites_from (Some f) = sites f

  -- after a step that leads to a world: a fiber that was made in it was made by the call at which the one stood that took the step
  abbrev pub told_by : Acting F → World → Told → Told
  told_by a w told = record {
    starts = tell (site_at means a.from) w.threads told.starts;
    calls = tell (let c : Calls = record { sites = sites_from a.from; started = start_of a.number told.starts } in c) w.reports told.calls;
  }

  abbrev pub told_after : Acting F → (Fibers F S → Told → List Calls) → Told → Stepped (Fibers F S) → List Calls
  told_after a go told (More c) = go c (told_by a (world_of means c) told)
  told_after a go told (Stop e w) = (told_by a w told).calls

  -- what a run of at most so many steps tells of its reports
  abbrev pub fibers_told : List ℕ → ℕ → Fibers F S → Told → List Calls
  fibers_told schedule zero c told = told.calls
  fibers_told schedule (suc n) c told = told_after (acting schedule c) (fibers_told schedule n) told (fibers_step means schedule c)

-- the calls at each report of a plain run of a module with guest threads, and of a shadow run
abbrev pub plain_threads_calls : Module → Setup → (schedule : List ℕ) → List Calls
plain_threads_calls m setup schedule = fibers_told (plain_fiber (setting_of m setup) m) (call_sites m) schedule setup.steps (plain_threads_start m setup) none_told

abbrev pub shadow_threads_calls_by : Rules → Module → Setup → (schedule : List ℕ) → List Calls
shadow_threads_calls_by d m setup schedule = fibers_told (shadow_fiber d (setting_of m setup) m) (call_sites m) schedule setup.steps (shadow_threads_start m setup) none_told

abbrev pub shadow_threads_calls : Module → Setup → (schedule : List ℕ) → List Calls
shadow_threads_calls = shadow_threads_calls_by by_completions
