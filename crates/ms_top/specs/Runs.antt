-- Runs of a module, and of one with threads under a schedule.
use Rattle.std.specs.Prelude.{ℕ, Bool, true, false, List, [], Option}
use Rattle.ms_ir.specs.declared.syntax.Module.{Module}
use Rattle.ms_runs.specs.declared.runs.BlindPlace.{BlindPlace}
use Rattle.ms_runs.specs.declared.runs.Calls.{Calls}
use Rattle.ms_runs.specs.declared.runs.Setup.{Setup}
use Rattle.ms_runs.specs.declared.runs.RunResult.{RunResult}
use Rattle.ms_runs.specs.Plain.{plain}
use Rattle.ms_runs.specs.Shadow.{shadow}
use Rattle.ms_runs.specs.Calls.{plain_calls, shadow_calls, plain_end_calls, shadow_end_calls, plain_blind, shadow_blind, places_of}
use Rattle.ms_runs_threads.specs.PlainFibers.{plain_threads}
use Rattle.ms_runs_threads.specs.ShadowFibers.{shadow_threads}
use Rattle.ms_runs_threads.specs.Calls.{plain_threads_calls, shadow_threads_calls}
use Rattle.ms_runs_threads.specs.Blind.{plain_threads_end_calls, shadow_threads_end_calls, plain_threads_blind, shadow_threads_blind}
use Rattle.ms_runtime.specs.declared.runs.ToldRun.{ToldRun}
use Rattle.ms_corpus.specs.declared.wanted.Wanted.{Wanted}
use Rattle.ms_corpus.specs.Wanted.{told_as}
use Rattle.ms_threads_schedules_laws.specs.Picks.{Pick, plain_picks, shadow_picks}
use Rattle.ms_threads.specs.Fills.{ThreadsHoldUnderFills, ThreadsCallsUnderFills}
use Rattle.ms_runs_fills_laws.specs.CallsAlike.{CallsUnderFills}
use Rattle.ms_runs_fills_laws.specs.Checked.{HoldsUnderFills}

-- the plain run of a module with a setup, and where there are threads under a schedule
abbrev pub plain_under : (threads : Bool) → Module → Setup → (schedule : List ℕ) → RunResult
plain_under false m setup schedule = plain m setup
plain_under true m setup schedule = plain_threads m setup schedule

-- the shadow run
abbrev pub shadow_under : (threads : Bool) → Module → Setup → (schedule : List ℕ) → RunResult
shadow_under false m setup schedule = shadow m setup
shadow_under true m setup schedule = shadow_threads m setup schedule

-- the calls at their reports
abbrev pub plain_calls_under : (threads : Bool) → Module → Setup → (schedule : List ℕ) → List Calls
plain_calls_under false m setup schedule = plain_calls m setup
plain_calls_under true m setup schedule = plain_threads_calls m setup schedule

abbrev pub shadow_calls_under : (threads : Bool) → Module → Setup → (schedule : List ℕ) → List Calls
shadow_calls_under false m setup schedule = shadow_calls m setup
shadow_calls_under true m setup schedule = shadow_threads_calls m setup schedule

-- and where they end; none where their steps are spent
abbrev pub plain_end_calls_under : (threads : Bool) → Module → Setup → (schedule : List ℕ) → Option Calls
plain_end_calls_under false m setup schedule = plain_end_calls m setup
plain_end_calls_under true m setup schedule = plain_threads_end_calls m setup schedule

abbrev pub shadow_end_calls_under : (threads : Bool) → Module → Setup → (schedule : List ℕ) → Option Calls
shadow_end_calls_under false m setup schedule = shadow_end_calls m setup
shadow_end_calls_under true m setup schedule = shadow_threads_end_calls m setup schedule

-- the sites of their blind uses, in order
abbrev pub plain_blind_under : (threads : Bool) → Module → Setup → (schedule : List ℕ) → List ℕ
plain_blind_under false m setup schedule = plain_blind m setup
plain_blind_under true m setup schedule = plain_threads_blind m setup schedule

abbrev pub shadow_blind_under : (threads : Bool) → Module → Setup → (schedule : List ℕ) → List ℕ
shadow_blind_under false m setup schedule = shadow_blind m setup
shadow_blind_under true m setup schedule = shadow_threads_blind m setup schedule

-- and the places of these
abbrev pub plain_places_under : (threads : Bool) → Module → Setup → (schedule : List ℕ) → List BlindPlace
plain_places_under threads m setup schedule = places_of (plain_blind_under threads m setup schedule)

abbrev pub shadow_places_under : (threads : Bool) → Module → Setup → (schedule : List ℕ) → List BlindPlace
shadow_places_under threads m setup schedule = places_of (shadow_blind_under threads m setup schedule)

-- what is wanted of what is told of these runs
abbrev pub plain_told_under : Wanted → (threads : Bool) → Module → Setup → (schedule : List ℕ) → ToldRun
plain_told_under wanted threads m setup schedule =
    told_as wanted (plain_under threads m setup schedule) (plain_calls_under threads m setup schedule) (plain_end_calls_under threads m setup schedule) (plain_places_under threads m setup schedule)

abbrev pub shadow_told_under : Wanted → (threads : Bool) → Module → Setup → (schedule : List ℕ) → ToldRun
shadow_told_under wanted threads m setup schedule =
    told_as wanted (shadow_under threads m setup schedule) (shadow_calls_under threads m setup schedule) (shadow_end_calls_under threads m setup schedule) (shadow_places_under threads m setup schedule)

-- which threads these runs pick to go on: where there are none, none
abbrev pub plain_picks_under : (threads : Bool) → Module → Setup → (schedule : List ℕ) → List Pick
plain_picks_under false m setup schedule = []
plain_picks_under true m setup schedule = plain_picks m setup schedule

abbrev pub shadow_picks_under : (threads : Bool) → Module → Setup → (schedule : List ℕ) → List Pick
shadow_picks_under false m setup schedule = []
shadow_picks_under true m setup schedule = shadow_picks m setup schedule

-- what the result of a checked run promises of runs with other fills, and where there are threads under the same schedule
abbrev pub HoldsUnder : (threads : Bool) → Module → Setup → (schedule : List ℕ) → RunResult → Type 0
HoldsUnder false m setup schedule r = HoldsUnderFills m setup r
HoldsUnder true m setup schedule r = ThreadsHoldUnderFills m setup schedule r

-- what the calls at the reports of a checked run promise of them
abbrev pub CallsHoldUnder : (threads : Bool) → Module → Setup → (schedule : List ℕ) → Type 0
CallsHoldUnder false m setup schedule = CallsUnderFills m setup (shadow m setup).blind (shadow_calls m setup)
CallsHoldUnder true m setup schedule = ThreadsCallsUnderFills m setup schedule (shadow_threads m setup schedule).blind (shadow_threads_calls m setup schedule)
