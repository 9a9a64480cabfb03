-- What is known of the module that is made of another by the pass.
use Rattle.std.specs.Prelude.{◌≡◌, ℕ, false, List}
use Rattle.ms_ir.specs.declared.syntax.Module.{Module}
use Rattle.ms_runs.specs.declared.runs.Setup.{Setup}
use Rattle.ms_ir.specs.Instructions.{strip}
use Rattle.ms_ir.specs.ThreadCalls.{is_threaded}
use Rattle.ms_runs.specs.Faithful.{Fair, Undisturbed}
use Rattle.ms_runs.specs.Plain.{plain}
use Rattle.ms_check_valid.specs.Formed.{Formed}
use Rattle.ms_check_valid.specs.Valid.{Valid}
use Rattle.ms_runs_good_laws.specs.Fills.{InsertedUnderFills}
use Rattle.ms_runs_fills_laws.specs.Chosen.{HoldsUnderChoices}
use Rattle.ms_pass_form_laws.specs.Elided.{IsElided}
use Rattle.ms_pass.specs.Passed.{IsMadeOf}
use Rattle.ms_threads.specs.Faithful.{IsSchedule}
use Rattle.ms_top.specs.Runs.{plain_calls_under, shadow_calls_under, plain_end_calls_under, shadow_end_calls_under, plain_blind_under, shadow_blind_under, plain_under, plain_picks_under, shadow_under, shadow_picks_under, HoldsUnder, CallsHoldUnder}

-- j is m with inserted code: without it j is m, and its plain runs are the shadow runs of m, where m has threads under every
-- schedule, with the same picks. It is formed and valid, so that it can be written and run. There is one such module, that of the definition of the pass,
-- which computes nothing of values that are clean in every run; its functions are made one by one, each with the sites and roots
-- before it. What its runs say of m with a clean verdict, or report first where no blind use was counted, holds under every fill,
-- where m has threads under the same schedule; so do the calls at that report. What its runs print is a beginning of what m prints itself, and unless they end as
-- reported they end as m does. Where m has no threads, a run of j without a blind use up to its first report is the same under every
-- fill, and a clean verdict holds also where each step has a fill of its own
pub record IsInstrumented (m j : Module) : Type 0 where
  pub strips : strip j ≡ m
  pub formed : Formed j
  pub valid : Valid j
  pub elided : IsElided m j
  pub made : IsMadeOf m j
  pub runs : (setup : Setup) → Fair setup → (schedule : List ℕ) → IsSchedule schedule → plain_under (is_threaded m) j setup schedule ≡ shadow_under (is_threaded m) m setup schedule
  pub calls : (setup : Setup) → Fair setup → (schedule : List ℕ) → IsSchedule schedule → plain_calls_under (is_threaded m) j setup schedule ≡ shadow_calls_under (is_threaded m) m setup schedule
  pub ends : (setup : Setup) → Fair setup → (schedule : List ℕ) → IsSchedule schedule → plain_end_calls_under (is_threaded m) j setup schedule ≡ shadow_end_calls_under (is_threaded m) m setup schedule
  pub blind : (setup : Setup) → Fair setup → (schedule : List ℕ) → IsSchedule schedule → plain_blind_under (is_threaded m) j setup schedule ≡ shadow_blind_under (is_threaded m) m setup schedule
  pub picks : (setup : Setup) → Fair setup → (schedule : List ℕ) → IsSchedule schedule → plain_picks_under (is_threaded m) j setup schedule ≡ shadow_picks_under (is_threaded m) m setup schedule
  pub holds : (setup : Setup) → Fair setup → (schedule : List ℕ) → IsSchedule schedule → HoldsUnder (is_threaded m) m setup schedule (plain_under (is_threaded m) j setup schedule)
  pub calls_hold : (setup : Setup) → Fair setup → (schedule : List ℕ) → IsSchedule schedule → CallsHoldUnder (is_threaded m) m setup schedule
  pub undisturbed : (setup : Setup) → Fair setup → (schedule : List ℕ) → IsSchedule schedule → Undisturbed (plain_under (is_threaded m) j setup schedule) (plain_under (is_threaded m) m setup schedule)
  pub under_fills : is_threaded m ≡ false → (setup : Setup) → Fair setup → InsertedUnderFills j setup
  pub choices : is_threaded m ≡ false → (setup : Setup) → Fair setup → HoldsUnderChoices m setup (plain j setup)
