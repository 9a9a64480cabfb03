-- What runs with threads say of each other: of a module's and of those of its instrumented form, under one schedule (own).
use Rattle.std.specs.Prelude.{◌≡◌, ◌<◌, ℕ, List, [], length}
use Rattle.ms_ir.specs.declared.syntax.Module.{Module}
use Rattle.ms_ir.specs.ThreadCalls.{is_threaded}
use Rattle.ms_runs.specs.declared.runs.Setup.{Setup}
use Rattle.ms_runs.specs.Faithful.{Fair, Undisturbed}
use Rattle.ms_runs_threads.specs.PlainFibers.{plain_threads}
use Rattle.ms_runs_threads.specs.ShadowFibers.{shadow_threads}
use Rattle.ms_runs_threads.specs.Calls.{plain_threads_calls, shadow_threads_calls}
use Rattle.ms_runs_threads.specs.Blind.{plain_threads_blind, shadow_threads_blind, plain_threads_end_calls, shadow_threads_end_calls}
use Rattle.ms_threads_schedules_laws.specs.Picks.{plain_picks, shadow_picks}
use Rattle.ms_runs_good_laws.specs.Fills.{IsFill, refilled, to_first_report, SameShown}

-- a schedule isn't empty
abbrev pub IsSchedule : List ℕ → Type 0
IsSchedule schedule = 0 < length schedule

-- where the shadow run up to its first report counts no blind use, it is the same under every fill, and so are the calls at that
-- report; where it has no report either, the program itself prints the same and ends in the same way under every fill
pub record ThreadsUnderFills (m : Module) (setup : Setup) (schedule : List ℕ) : Type 0 where
  pub same : (shadow_threads m (to_first_report setup) schedule).blind ≡ 0 → (fill : List ℕ) → IsFill fill
      → shadow_threads m (refilled (to_first_report setup) fill) schedule ≡ shadow_threads m (to_first_report setup) schedule
  pub calls : (shadow_threads m (to_first_report setup) schedule).blind ≡ 0 → (fill : List ℕ) → IsFill fill
      → shadow_threads_calls m (refilled (to_first_report setup) fill) schedule ≡ shadow_threads_calls m (to_first_report setup) schedule
  pub shown : (shadow_threads m (to_first_report setup) schedule).blind ≡ 0 → (shadow_threads m (to_first_report setup) schedule).reports ≡ [] → (fill : List ℕ) → IsFill fill
      → SameShown (plain_threads m (refilled setup fill) schedule) (plain_threads m setup schedule)

-- j has threads where m has, and under each schedule its plain runs are the shadow runs of m, with the same calls at each report and
-- where it ends, and blind uses at the same sites, and pick as they do; their output is a beginning of that of m itself, and unless they end as reported they end as m does
pub record FaithfulThreads (m j : Module) : Type 0 where
  pub same : is_threaded j ≡ is_threaded m
  pub runs : (setup : Setup) → Fair setup → (schedule : List ℕ) → IsSchedule schedule → plain_threads j setup schedule ≡ shadow_threads m setup schedule
  pub calls : (setup : Setup) → Fair setup → (schedule : List ℕ) → IsSchedule schedule → plain_threads_calls j setup schedule ≡ shadow_threads_calls m setup schedule
  pub ends : (setup : Setup) → Fair setup → (schedule : List ℕ) → IsSchedule schedule → plain_threads_end_calls j setup schedule ≡ shadow_threads_end_calls m setup schedule
  pub blind : (setup : Setup) → Fair setup → (schedule : List ℕ) → IsSchedule schedule → plain_threads_blind j setup schedule ≡ shadow_threads_blind m setup schedule
  pub picks : (setup : Setup) → Fair setup → (schedule : List ℕ) → IsSchedule schedule → plain_picks j setup schedule ≡ shadow_picks m setup schedule
  pub undisturbed : (setup : Setup) → Fair setup → (schedule : List ℕ) → IsSchedule schedule → Undisturbed (plain_threads j setup schedule) (plain_threads m setup schedule)
  pub under_fills : (setup : Setup) → Fair setup → (schedule : List ℕ) → IsSchedule schedule → ThreadsUnderFills m setup schedule
