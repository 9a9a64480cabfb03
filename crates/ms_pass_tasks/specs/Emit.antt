-- The lists that are inserted round one instruction.
use Rattle.std.specs.Prelude.{ℕ, ◌+◌, List, ◌++◌, Option}
use Rattle.ms_ir.specs.declared.syntax.Name.{Name}
use Rattle.ms_ir.specs.declared.syntax.Op.{Op}
use Rattle.ms_ir.specs.declared.syntax.Inst.{Inst}
use Rattle.ms_runs.specs.World.{Here}
use Rattle.ms_ir.specs.Instructions.{operands}
use Rattle.ms_runs.specs.Uses.{uses}
use Rattle.ms_pass_tasks.specs.Tasks.{Task, tasks_code}
use Rattle.ms_pass_tasks.specs.Environments.{Env, Given, Tracked, tracked}
use Rattle.ms_pass_tasks.specs.ResultTasks.{result_tasks}
use Rattle.ms_pass_tasks.specs.CheckTasks.{check_tasks, blinded_of, blind_tasks}
use Rattle.ms_pass_tasks.specs.SlotTasks.{hand_tasks}
use Rattle.ms_pass_tasks.specs.PlaneTasks.{saves, save_tasks, plane_tasks}

-- what the pass inserts before an instruction for itself, in order: checks, the blind count, the mask and the origin of
-- the result, and the size that is saved, which stands under the number `saved`
abbrev pub own_tasks : Given → Env → Here → Option Name → Op → (saved : ℕ) → List Tracked → List Task
own_tasks given env h x o saved ts =
    check_tasks h.site ts (uses given.func h.main o) ++ (blind_tasks (blinded_of given.func o ts) ++ (result_tasks given.func env x o ts ++ save_tasks given.func saved o ts))

-- what stands before an instruction that is no phi: first what is handed over to a callee or a caller
abbrev pub before_tasks : Given → Env → Here → Inst → (saved : ℕ) → List Task
before_tasks given env h i saved =
    let ts = tracked env h.root (operands i.op) in
    hand_tasks given.func h.main i.op ts ++ own_tasks given env h i.result i.op saved ts

-- what stands after an instruction that is no phi
abbrev pub after_tasks : Given → Env → Here → Inst → (saved : ℕ) → List Task
after_tasks given env h i saved = plane_tasks given env h saved i.result i.op (tracked env h.root (operands i.op))

-- the first number of a temporary
abbrev pub start : Given → Inst → ℕ → ℕ
start given i n = n + saves given.func i.op

-- the lists round one instruction, and the next free number
pub record Emitted : Type 0 where
  pub before : List Inst
  pub after : List Inst
  pub next : ℕ

-- the lists round an instruction that is no phi
abbrev pub emit_tasks : Given → Env → Here → Inst → ℕ → Emitted
emit_tasks given env h i n =
    let x = tasks_code (before_tasks given env h i n) (start given i n) in
    let y = tasks_code (after_tasks given env h i n) x.next in
    record { before = x.code; after = y.code; next = y.next }
