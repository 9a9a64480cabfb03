-- InsertedCode that grows by tasks.
use Rattle.std.specs.Prelude.{List, ◌++◌}
use Rattle.ms_pass_tasks.specs.Tasks.{InsertedCode, Task, tasks_code}

-- code with the instructions of tasks after it
abbrev pub with_tasks : InsertedCode → List Task → InsertedCode
with_tasks c ts = let x = tasks_code ts c.next in record { code = c.code ++ x.code; next = x.next }
