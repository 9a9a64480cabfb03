-- InsertedCode that grows by tasks, and the code of whole lists.
use Rattle.std.proofs.Common.{◌≡◌, ℕ, suc, List, [], ◌∷◌, ◌++◌, refl, sym, ap, ◌∙◌, append_assoc}
use Rattle.std.specs.Prelude.{Result, OnOk}
use Rattle.std.proofs.Math.Path.{ap₂}
use Rattle.std.proofs.lemmas.Result.{on_ok_weaker}
use Rattle.ms_ir.specs.declared.syntax.Ty.{Ty}
use Rattle.ms_ir.specs.declared.syntax.Inst.{Inst}
use Rattle.ms_ir.specs.declared.syntax.Operand.{Operand}
use Rattle.ms_pass_tasks.specs.Tasks.{Task, InsertedCode, tasks_code}
use Rattle.ms_pass_tasks.proofs.Marked.{tasks_append, tasks_append_next}
use Rattle.ms_rules_builder.specs.Made.{with_tasks}
use Rattle.ms_slots.specs.Places.{store_arguments, load_parameters, as_inserted}

with_both : (c : InsertedCode) (a b : List Task) → with_tasks (with_tasks c a) b ≡ with_tasks c (a ++ b)
with_both c a b =
    ap₂ (λ (insts : List Inst) (n : ℕ). as_inserted (insts, n))
    (append_assoc c.code (tasks_code a c.next).code (tasks_code b (tasks_code a c.next).next).code ∙ ap (λ l. c.code ++ l) (sym (tasks_append a b c.next)))
    (sym (tasks_append_next a b c.next))

-- tasks in two parts
pub both_done : {E : Type 0} (r : Result (Unit {0}) E) (start middle end : InsertedCode) (a b : List Task) → middle ≡ with_tasks start a → OnOk r (end ≡ with_tasks middle b)
    → OnOk r (end ≡ with_tasks start (a ++ b))
both_done r start middle end a b first last = on_ok_weaker r (λ (is : end ≡ with_tasks middle b). is ∙ ap (λ c. with_tasks c b) first ∙ with_both start a b) last

-- ---- whole lists, of which no word needs an inserted result of its own

pub stored_next : (k : ℕ) (args : List (Ty × Operand × Operand)) (n : ℕ) → (tasks_code (store_arguments k args) n).next ≡ n
stored_next k [] n = refl
stored_next k (arg ∷ args) n = stored_next (suc k) args n

pub loaded_next : (first k : ℕ) (params : List Ty) (n : ℕ) → (tasks_code (load_parameters first k params) n).next ≡ n
loaded_next first k [] n = refl
loaded_next first k (t ∷ params) n = loaded_next first (suc k) params n

-- an answer is the code of tasks
pub list_made : (ts : List Task) (n : ℕ) (insts : List Inst) (before after : InsertedCode) → insts ≡ after.code → before ≡ as_inserted ([], n) → after ≡ with_tasks before ts
    → (tasks_code ts n).next ≡ n → as_inserted (insts, n) ≡ tasks_code ts n
list_made ts n insts before after are none grown same =
    ap₂ (λ (insts : List Inst) (n : ℕ). as_inserted (insts, n)) (are ∙ ap (λ c. c.code) (grown ∙ ap (λ c. with_tasks c ts) none)) (sym same)
