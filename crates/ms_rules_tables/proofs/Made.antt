-- InsertedCode that grows by tasks in two parts.
use Rattle.std.proofs.Common.{◌≡◌, ℕ, List, [], ◌++◌, sym, ap, ◌∙◌, append_assoc, append-nil}
use Rattle.ms_ir.specs.declared.syntax.Inst.{Inst}
use Rattle.ms_pass_tasks.specs.Tasks.{InsertedCode, Task, tasks_code}
use Rattle.ms_pass_tasks.proofs.Marked.{tasks_append, tasks_append_next}
use Rattle.ms_rules_builder.specs.Made.{with_tasks}

same_code : (a b : List Inst) (m n : ℕ) → a ≡ b → m ≡ n → (let x : InsertedCode = record { code = a; next = m } in x) ≡ record { code = b; next = n }
same_code a b m n e f = cc

-- no tasks
pub with_none : (c : InsertedCode) → with_tasks c [] ≡ c
with_none c = ap (λ (l : List Inst). let x : InsertedCode = record { code = l; next = c.next } in x) (append-nil c.code)

-- tasks after tasks
pub with_more : (c : InsertedCode) (a b : List Task) → with_tasks (with_tasks c a) b ≡ with_tasks c (a ++ b)
with_more c a b =
    same_code ((c.code ++ (tasks_code a c.next).code) ++ (tasks_code b (tasks_code a c.next).next).code) (c.code ++ (tasks_code (a ++ b) c.next).code)
    (tasks_code b (tasks_code a c.next).next).next (tasks_code (a ++ b) c.next).next
    (append_assoc c.code (tasks_code a c.next).code (tasks_code b (tasks_code a c.next).next).code ∙ ap (λ l. c.code ++ l) (sym (tasks_append a b c.next)))
    (sym (tasks_append_next a b c.next))
