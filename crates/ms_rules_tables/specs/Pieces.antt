-- What stands after an operation, of what is known of it.
use Rattle.std.specs.Prelude.{ℕ, List, [], ◌∷◌, Option, None, is_some, if◌then◌else◌}
use Rattle.ms_ir.specs.declared.syntax.Name.{Name}
use Rattle.ms_ir.specs.declared.syntax.Ty.{Ty, Int, Ptr}
use Rattle.ms_ir.specs.declared.calls.RuntimeFn.{RuntimeFn}
use Rattle.ms_ir.specs.declared.calls.RuntimeFn.TheVariants as function
use Rattle.ms_pass_tasks.specs.Tasks.{Expr, Task, Puts, Calls}
use Rattle.ms_pass_tasks.specs.Environments.{Tracked, tracked_at, mask_of, origin_of, word_of, widened, number}
use Rattle.ms_pass_tasks.specs.ResultTasks.{shadow_address}

-- a call of a runtime function, where the instruction has a result
abbrev pub named_call : RuntimeFn → Option Name → List (Ty × Expr) → List Task
named_call f r args = if is_some r then Calls None f args ∷ [] else []

-- the store of a mask
abbrev pub mask_store : (width : ℕ) → List Tracked → Task
mask_store width ts = Puts (Int width) (mask_of (tracked_at 0 ts)) (shadow_address (word_of (tracked_at 1 ts)))

-- the arguments by which the origin of a stored value is kept
abbrev pub store_args : (site width : ℕ) → List Tracked → List (Ty × Expr)
store_args site width ts =
    (Ptr, word_of (tracked_at 1 ts)) ∷ (Int 64, widened width (mask_of (tracked_at 0 ts))) ∷ (Int 32, origin_of (tracked_at 0 ts)) ∷ (Int 32, number site) ∷ []

-- what stands after a `store` of a word of so many bits
abbrev pub store_pieces : (site width : ℕ) → List Tracked → List Task
store_pieces site width ts = mask_store width ts ∷ Calls None function.StoreOrigin (store_args site width ts) ∷ []
