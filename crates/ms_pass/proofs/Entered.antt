-- What a function begins with takes no numbers.
use Rattle.std.proofs.Common.{◌≡◌, ℕ, suc, Bool, true, false, List, [], ◌∷◌, ◌++◌, Option, Some, None, refl, ap, ◌∙◌}
use Rattle.std.specs.Prelude.{if◌then◌else◌}
use Rattle.ms_ir.specs.declared.syntax.Name.{Name}
use Rattle.ms_ir.specs.declared.syntax.Ty.{Ty}
use Rattle.ms_pass_tasks.specs.Tasks.{InsertedCode, Task, tasks_code}
use Rattle.ms_pass_tasks.specs.Environments.{Env}
use Rattle.ms_pass_tasks.specs.SlotTasks.{param_mask, param_origin, take_tasks, take_parameters}
use Rattle.ms_rules_builder.specs.Made.{with_tasks}
use Rattle.ms_pass_laws.specs.Pass.{entry_code}
use Rattle.ms_pass.specs.Passed.{entry}

module _ (env : Env) (n : ℕ) where
  taken_next : (k : ℕ) (ps : List (Ty × Name)) → (tasks_code (take_parameters env k ps) n).next ≡ n
  taken_next k [] = refl
  taken_next k (p ∷ ps) = by_clean (env.clean p.1) (taken_next (suc k) ps)
    where
      by_number : (v : Option ℕ) → (tasks_code (take_parameters env (suc k) ps) n).next ≡ n
          → (tasks_code ((elim v as (λ w. List Task) [ Some v ↦ take_tasks (param_mask k) (param_origin k) v p.0 | None ↦ [] ]) ++ take_parameters env (suc k) ps) n).next ≡ n
      by_number None e = e
      by_number (Some v) e = e

      by_clean : (b : Bool) → (tasks_code (take_parameters env (suc k) ps) n).next ≡ n
          → (tasks_code ((if b then [] else elim (env.number p.1) as (λ w. List Task) [ Some v ↦ take_tasks (param_mask k) (param_origin k) v p.0 | None ↦ [] ]) ++ take_parameters env (suc k) ps) n).next ≡ n
      by_clean true e = e
      by_clean false e = by_number (env.number p.1) e

  -- code that begins with what takes the parameters
  pub entry_is : (ps : List (Ty × Name)) (start after : InsertedCode) → start ≡ record { code = []; next = n } → after ≡ with_tasks start (take_parameters env 0 ps) → after ≡ entry env n ps
  entry_is ps start after first is =
      let by : ℕ → InsertedCode = λ m. record { code = entry_code env ps n; next = m } in is ∙ ap (λ c. with_tasks c (take_parameters env 0 ps)) first ∙ ap by (taken_next 0 ps)
