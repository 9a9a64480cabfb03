-- What stands round an instruction that is no phi.
use Rattle.std.specs.Prelude.{ℕ, List, [], Option, Some, None}
use Rattle.ms_ir.specs.declared.calls.External.{External}
use Rattle.ms_ir.specs.declared.syntax.Name.{Name}
use Rattle.ms_ir.specs.declared.syntax.Op.{Op}
use Rattle.ms_ir.specs.declared.syntax.Op.TheVariants as op
use Rattle.ms_runs.specs.World.{Here}
use Rattle.ms_pass_tasks.specs.Tasks.{Task}
use Rattle.ms_pass_tasks.specs.Environments.{Env}
use Rattle.ms_pass_tasks.specs.SlotTasks.{take_result}
use Rattle.ms_pass_tasks.specs.PlaneTasks.{saved_by}
use Rattle.ms_rules.specs.declared.scopes.Scope.{Scope}
use Rattle.ms_rules.specs.declared.tracked.Tracking.{Tracking}

-- where the instruction stands
abbrev pub here_of : Scope → ℕ → Tracking → Here
here_of s site t = record { site = site; root = t.before; main = s.main }

-- how many words an operation needs from before it that calls an external or none
abbrev pub saved_for : Option External → ℕ
saved_for None = 0
saved_for (Some e) = saved_by e

-- what is taken over after a call of a function of the module
abbrev pub taken_by : Env → Option Name → Op → List Task
taken_by env x (op.Call ret callee args) = take_result env x ret
taken_by env x _ = []
