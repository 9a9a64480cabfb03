-- What the answer to a call that is asked for comes to (own).
use Rattle.std.specs.Prelude.{◌≡◌, ◌<◌, ◌≤◌, ◌+◌, ◌*◌, ◌^◌, length}
use Rattle.ms_ir.specs.declared.syntax.Module.{Module}
use Rattle.ms_runs.specs.declared.runs.Setup.{Setup}
use Rattle.ms_runs.specs.Plain.{PlainState, setting_of}
use Rattle.ms_runs.specs.Threads.{fibers_of}
use Rattle.ms_host.specs.State.{Beside, Keeps}
use Rattle.ms_host.specs.Answers.{Answered, asked_effect}
use Rattle.ms_host.specs.declared.calls.Answer.{Answer}
use Rattle.ms_host.specs.declared.calls.Answer.TheVariants as answer
use Rattle.ms_host.specs.declared.calls.HostCall.{HostCall}
use Rattle.ms_machine_steps.specs.Waiting.{types_due}
use Rattle.ms_runtime.specs.declared.runs.Running.{Running}
use Rattle.ms_runtime.specs.Served.{IsBeside}

-- where the run goes on, there are fewer reports than its limit
abbrev pub HasRoom : Setup → Answer → Running → Type 0
HasRoom u (answer.Resumed v) r = length r.told.reports < u.reports
HasRoom u (answer.Ended e) r = Unit {0}

-- a call that was asked for at a state is answered: its effect was followed, and nothing else changed
pub record AnsweredFor (m : Module) (u : Setup) (call : HostCall) (within : PlainState) (a : Answer) (before after : Running) : Type 0 where
  pub beside : Beside
  pub told : IsBeside after.depot after.told beside
  pub fibers : beside.fibers ≡ fibers_of within.world
  pub answered : Answered beside (asked_effect (setting_of m u) (types_due m within.frames) call within.world) a after.world
  pub few : HasRoom u a after
  pub blind : after.told.blind ≤ before.told.blind + 1
  pub roots : after.depot.roots ≡ before.depot.roots
  pub room : after.world.made + 2 ^ 27 * after.budget.left ≤ 2 ^ 58
  pub keeps : Keeps before.world after.world
  pub fiber : after.fiber ≡ before.fiber
  pub budget : after.budget ≡ before.budget
