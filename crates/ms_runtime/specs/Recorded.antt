-- What a run keeps from pause to pause of which the calls at its reports, and the places of its blind uses, are recorded, if they
-- are wanted (own).
use Rattle.std.specs.Prelude.{◌≡◌, ◌<◌, ◌++◌, ◌-◌, ℕ, true, List, length, replicate, Option, Some, None}
use Rattle.ms_ir.specs.declared.syntax.Module.{Module}
use Rattle.ms_runs.specs.declared.runs.Calls.{Calls}
use Rattle.ms_runs.specs.declared.runs.End.{End}
use Rattle.ms_runs.specs.declared.runs.Setup.{Setup}
use Rattle.ms_runs.specs.Control.{Frame}
use Rattle.ms_runs.specs.Plain.{PlainState}
use Rattle.ms_runs.specs.Calls.{call_sites, innermost_site, main_calls, said_in, said_after, told_in, told_after, ends_in, ends_after, plain_calls, plain_end_calls, plain_blind, places_of}
use Rattle.ms_host.specs.declared.calls.HostCall.{HostCall}
use Rattle.ms_host.specs.State.{WorldState, Beside}
use Rattle.ms_machine_frames.specs.declared.fibers.Fiber.{Fiber}
use Rattle.ms_machine_steps.specs.Advances.{step_of}
use Rattle.ms_machine.specs.Running.{IsRunning}
use Rattle.ms_runtime.specs.Going.{ahead, Going, Paused, Over}
use Rattle.ms_runtime.specs.declared.reports.ReportLimit.{ReportLimit}
use Rattle.ms_runtime.specs.declared.runs.Recorded.{Recorded}
use Rattle.ms_runtime.specs.Places.{Placed}
use Rattle.ms_runtime.specs.Served.{limit_of}

-- what is still to be recorded from a state on comes to the calls at all reports of the run
abbrev pub RecordsFrom : Module → Setup → ℕ → PlainState → List Calls → Type 0
RecordsFrom m u left state calls =
    told_in (λ (p : PlainState). p.world) (λ (p : PlainState). main_calls m p.frames) (step_of m u) left state calls ≡ plain_calls m u

-- the same from within a step on
abbrev pub RecordsAfter : Module → Setup → ℕ → PlainState → List Calls → Type 0
RecordsAfter m u rest within calls =
    told_after (λ (p : PlainState). p.world) (main_calls m within.frames)
    (told_in (λ (p : PlainState). p.world) (λ (p : PlainState). main_calls m p.frames) (step_of m u) rest) calls (step_of m u within)
    ≡ plain_calls m u

-- what is said of the end of a run from a state on is what the run says of it
abbrev pub EndsFrom : Module → Setup → ℕ → PlainState → Type 0
EndsFrom m u left state = ends_in (λ (p : PlainState). main_calls m p.frames) (step_of m u) left state ≡ plain_end_calls m u

-- the same from within a step on
abbrev pub EndsAfter : Module → Setup → ℕ → PlainState → Type 0
EndsAfter m u rest within =
    ends_after (main_calls m within.frames) (ends_in (λ (p : PlainState). main_calls m p.frames) (step_of m u) rest) (step_of m u within) ≡ plain_end_calls m u

-- what is still to be said of blind uses from a state on comes to the sites of all of the run
abbrev pub BlindFrom : Module → Setup → ℕ → PlainState → List ℕ → Type 0
BlindFrom m u left state sites =
    said_in (λ w. w.blind) (λ (p : PlainState). p.world) (λ (p : PlainState). innermost_site m p.frames) (step_of m u) left state sites ≡ plain_blind m u

-- the same from within a step on
abbrev pub BlindAfter : Module → Setup → ℕ → PlainState → List ℕ → Type 0
BlindAfter m u rest within sites =
    said_after (λ w. w.blind) (λ (p : PlainState). p.world) (innermost_site m within.frames)
    (said_in (λ w. w.blind) (λ (p : PlainState). p.world) (λ (p : PlainState). innermost_site m p.frames) (step_of m u) rest) sites (step_of m u within)
    ≡ plain_blind m u

-- these are the sites of the blind uses so far, whose places are recorded
pub record Sited (r : Recorded) (sites : List ℕ) : Type 0 where
  pub blind : length sites ≡ r.running.told.blind
  pub placed : r.wanted ≡ true → Placed (places_of sites) r.places

-- a run goes on, and the calls at each report so far are recorded
pub record GoingTold (m : Module) (u : Setup) (r : Recorded) : Type 0 where
  pub going : Going m u r.running
  pub counted : r.wanted ≡ true → length r.calls.items ≡ length r.running.told.reports
  pub same : r.wanted ≡ true → RecordsFrom m u r.running.budget.left going.state r.calls.items
  pub ends : EndsFrom m u r.running.budget.left going.state
  pub sites : List ℕ
  pub sited : Sited r sites
  pub lost : BlindFrom m u r.running.budget.left going.state sites

-- a run waits for the answer of a call
pub record PausedTold (m : Module) (u : Setup) (call : HostCall) (r : Recorded) : Type 0 where
  pub paused : Paused m u call r.running
  pub counted : r.wanted ≡ true → length r.calls.items ≡ length r.running.told.reports
  pub same : r.wanted ≡ true → RecordsAfter m u paused.rest paused.asking.within r.calls.items
  pub ends : EndsAfter m u paused.rest paused.asking.within
  pub sites : List ℕ
  pub sited : Sited r sites
  pub lost : BlindAfter m u paused.rest paused.asking.within sites

-- a run goes on, and is nearer to its end, or it has ended
abbrev pub TurnedTold : Module → Setup → ℕ → Option End → Recorded → Type 0
TurnedTold m u far None r = GoingTold m u r × (ahead m r.running < far)
TurnedTold m u far (Some e) r = Over m u e r.running × (r.wanted ≡ true → r.calls.items ≡ plain_calls m u) × (r.wanted ≡ true → r.ended ≡ plain_end_calls m u) × (r.wanted ≡ true → Placed (places_of (plain_blind m u)) r.places)

-- a run that goes on, with some setup
abbrev pub IsGoing : Module → ReportLimit → Recorded → Type 0
IsGoing m limit r = (u : Setup) × ((limit_of u ≡ limit) × GoingTold m u r)

-- a run that waits
abbrev pub IsPaused : Module → ReportLimit → HostCall → Recorded → Type 0
IsPaused m limit call r = (u : Setup) × ((limit_of u ≡ limit) × PausedTold m u call r)

-- the calls of frames of a fiber that the call at a site made
abbrev pub calls_from : Module → (started : ℕ) → List (Frame ℕ) → Calls
calls_from m started frames = record { sites = call_sites m frames; started = started }

-- calls were recorded until there were so many: those at which a fiber stands
abbrev pub Noted : Module → Fiber → (started count : ℕ) → (old new : List Calls) → Type 0
Noted m fiber started count old new =
    (u : Setup) (beside : Beside) (w : WorldState) (state : PlainState) → IsRunning m u beside fiber w state → new ≡ old ++ replicate (count - length old) (calls_from m started state.frames)
