-- What a run keeps from pause to pause (own).
use Rattle.std.specs.Prelude.{◌≡◌, ◌<◌, ◌≤◌, ◌+◌, ◌-◌, ◌*◌, ◌^◌, ℕ, suc, false, length}
use Rattle.ms_ir.specs.declared.syntax.Module.{Module}
use Rattle.ms_ir.specs.ThreadCalls.{is_threaded}
use Rattle.ms_ir.specs.Instructions.{over_funcs, count_roots}
use Rattle.ms_runs.specs.declared.runs.End.{End}
use Rattle.ms_runs.specs.declared.runs.Setup.{Setup}
use Rattle.ms_runs.specs.declared.runs.RunResult.{RunResult}
use Rattle.ms_runs.specs.World.{World}
use Rattle.ms_runs.specs.Threads.{no_fibers}
use Rattle.ms_runs.specs.Plain.{PlainState, go_on, run, plain, plain_start}
use Rattle.ms_host.specs.State.{Beside, nothing_beside}
use Rattle.ms_host.specs.Shows.{Shows}
use Rattle.ms_host.specs.declared.calls.Asked.{Asked}
use Rattle.ms_host.specs.declared.calls.Asked.TheVariants as asked
use Rattle.ms_host.specs.declared.calls.HostCall.{HostCall}
use Rattle.ms_machine_steps.specs.Waiting.{FirstWaits}
use Rattle.ms_machine_steps.specs.Advances.{step_of}
use Rattle.ms_machine.specs.Running.{IsRunning}
use Rattle.ms_runtime.specs.declared.runs.Running.{Running}
use Rattle.ms_runtime.specs.declared.reports.ReportLimit.{ReportLimit}
use Rattle.ms_runtime.specs.Served.{limit_of, IsBeside, CanAnswer}

-- how far it is at most to the end of a run, in instructions: each step may be as long as the code
abbrev pub ahead : Module → Running → ℕ
ahead m r = let all = over_funcs (λ inst. 1) m.funcs in r.budget.left * (all + 1) + (all - r.fiber.frame.at)

-- what doesn't depend on where the run stands
pub record Keeping (m : Module) (u : Setup) (r : Running) : Type 0 where
  pub roots : r.depot.roots ≡ count_roots m
  pub few : length r.told.reports < u.reports
  pub room : r.world.made + 2 ^ 27 * r.budget.left ≤ 2 ^ 58
  pub blind : r.told.blind + ahead m r ≤ 2 ^ 62

-- a run stands at its start
pub record Begins (m : Module) (u : Setup) (r : Running) : Type 0 where
  pub stands : IsRunning m u nothing_beside r.fiber r.world (plain_start m u)
  pub told : IsBeside r.depot r.told nothing_beside
  pub keeping : Keeping m u r
  pub budget : r.budget.left ≡ u.steps

-- a run of a module without thread calls has come to a state from which it answers what the whole run does
pub record Going (m : Module) (u : Setup) (r : Running) : Type 0 where
  pub calm : is_threaded m ≡ false
  pub beside : Beside
  pub state : PlainState
  pub stands : IsRunning m u beside r.fiber r.world state
  pub told : IsBeside r.depot r.told beside
  pub lone : beside.fibers ≡ no_fibers
  pub keeping : Keeping m u r
  pub same : run (λ (s : PlainState). s.world) (step_of m u) r.budget.left state ≡ plain m u

-- the steps that are left after the one within which a call is asked for
abbrev pub LeftAfter : Asked → (rest left : ℕ) → Type 0
LeftAfter (asked.External e) rest left = rest ≡ left
LeftAfter (asked.Runtime f) rest left = suc rest ≡ left

-- room for what an external may make
abbrev pub HasSlack : Asked → (made left : ℕ) → Type 0
HasSlack (asked.External e) made left = made + 2 ^ 26 + 2 ^ 27 * left ≤ 2 ^ 58
HasSlack (asked.Runtime f) made left = Unit {0}

-- a run waits for the answer of a call
pub record Asking (m : Module) (u : Setup) (call : HostCall) (r : Running) : Type 0 where
  pub beside : Beside
  pub within : PlainState
  pub stands : IsRunning m u beside r.fiber r.world within
  pub waits : FirstWaits m u within.frames call
  pub told : IsBeside r.depot r.told beside
  pub keeping : Keeping m u r
  pub slack : HasSlack call.asked r.world.made r.budget.left
  pub can : CanAnswer call.asked beside

-- a run of a module without thread calls waits, and answers from there on what the whole run does
pub record Paused (m : Module) (u : Setup) (call : HostCall) (r : Running) : Type 0 where
  pub calm : is_threaded m ≡ false
  pub asking : Asking m u call r
  pub lone : asking.beside.fibers ≡ no_fibers
  pub rest : ℕ
  pub counted : LeftAfter call.asked rest r.budget.left
  pub same : go_on (run (λ (s : PlainState). s.world) (step_of m u) rest) (step_of m u asking.within) ≡ plain m u

-- a run has ended so, and this is what it returns
pub record Answers (answer : RunResult) (e : End) (r : Running) : Type 0 where
  pub beside : Beside
  pub world : World
  pub shows : Shows r.world beside world
  pub output : answer.output ≡ world.output
  pub last : answer.«end» ≡ e
  pub reports : answer.reports ≡ r.told.reports
  pub blind : answer.blind ≡ r.told.blind

abbrev pub Over : Module → Setup → End → Running → Type 0
Over m u e r = Answers (plain m u) e r

-- a run that waits
abbrev pub IsAsking : Module → ReportLimit → HostCall → Running → Type 0
IsAsking m limit call r = (u : Setup) × ((limit_of u ≡ limit) × Asking m u call r)
