-- What is taken over under the number of a value.
use Rattle.std.proofs.Common.{◌≡◌, ℕ, List, [], Some, None}
use Rattle.ms_ir.specs.declared.syntax.Name.{Name}
use Rattle.ms_ir.specs.declared.syntax.Ty.{Ty}
use Rattle.ms_ir.specs.declared.syntax.Operand.{Operand}
use Rattle.ms_pass_tasks.specs.Tasks.{Task}
use Rattle.ms_pass_tasks.specs.SlotTasks.{take_tasks, take_value}
use Rattle.ms_rules.specs.declared.scopes.Scope.{Scope}
use Rattle.ms_rules.specs.Scopes.{env_of, unclean_number}
use Rattle.ms_rules.proofs.Unclean.{clean_first}

module _ (s : Scope) (m o : Operand) (x : Name) (t : Ty) where
  pub take_numbered : (v : ℕ) → Some v ≡ unclean_number (env_of s) x → take_tasks m o v t ≡ take_value (env_of s) m o x t
  take_numbered v e = clean_first {A = List Task} (λ v. take_tasks m o v t) [] ((env_of s).clean x) ((env_of s).number x) (Some v) e

  -- nothing, where there is no number
  pub take_none : None ≡ unclean_number (env_of s) x → [] ≡ take_value (env_of s) m o x t
  take_none e = clean_first {A = List Task} (λ v. take_tasks m o v t) [] ((env_of s).clean x) ((env_of s).number x) None e
