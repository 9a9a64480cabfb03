-- InsertedCode that grows by tasks in two parts.
use Rattle.std.proofs.Common.{◌≡◌, ℕ, List, [], ◌++◌, Result, refl, sym, ap, ap₂, ◌∙◌, subst, OnOk}
use Rattle.std.proofs.lemmas.List.{append_assoc, append-nil}
use Rattle.ms_ir.specs.declared.syntax.Inst.{Inst}
use Rattle.ms_pass_tasks.specs.Tasks.{InsertedCode, Task, tasks_code}
use Rattle.ms_pass_tasks.proofs.Marked.{tasks_append, tasks_append_next}
use Rattle.ms_rules_builder.specs.Made.{with_tasks}

same_code : (x y : List Inst) (m n : ℕ) → x ≡ y → m ≡ n → let c : InsertedCode = record { code = x; next = m } in let d : InsertedCode = record { code = y; next = n } in c ≡ d
same_code x y m n e f = ap₂ (λ (l : List Inst) (k : ℕ). let c : InsertedCode = record { code = l; next = k } in c) e f

pub tasks_twice : (c : InsertedCode) (a b : List Task) → with_tasks (with_tasks c a) b ≡ with_tasks c (a ++ b)
tasks_twice c a b =
    let x = tasks_code a c.next in
    same_code ((c.code ++ x.code) ++ (tasks_code b x.next).code) (c.code ++ (tasks_code (a ++ b) c.next).code) (tasks_code b x.next).next (tasks_code (a ++ b) c.next).next
    (append_assoc c.code x.code (tasks_code b x.next).code ∙ ap (λ l. c.code ++ l) (sym (tasks_append a b c.next)))
    (sym (tasks_append_next a b c.next))

-- no tasks leave code as it is
pub no_tasks : (c : InsertedCode) → c ≡ with_tasks c []
no_tasks c = same_code c.code (c.code ++ []) c.next c.next (sym (append-nil c.code)) refl

-- one call has added tasks, and the next adds more where it is Ok
pub more_tasks : {E : Type 0} (r : Result (Unit {0}) E) (old mid new : InsertedCode) (a b : List Task) → mid ≡ with_tasks old a → OnOk r (new ≡ with_tasks mid b) → OnOk r (new ≡ with_tasks old (a ++ b))
more_tasks r old mid new a b e p = subst (λ (c : InsertedCode). OnOk r (new ≡ c)) (ap (λ c. with_tasks c b) e ∙ tasks_twice old a b) p
