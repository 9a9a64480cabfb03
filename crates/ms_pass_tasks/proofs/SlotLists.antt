-- Where slots are filled nothing else is inserted before an instruction: no check, no blind count, no result and no
-- saved size.
use Rattle.std.proofs.Common.{◌≡◌, ℕ, List, [], ◌∷◌, ◌++◌, Bool, true, false, Option, Some, None, refl, ap, ◌∙◌}
use Rattle.std.specs.Prelude.{if◌then◌else◌, is_some}
use Rattle.std.proofs.Math.Path.{ap₂}
use Rattle.ms_ir.specs.declared.syntax.Name.{Name}
use Rattle.ms_ir.specs.declared.syntax.Ty.{Ty}
use Rattle.ms_ir.specs.declared.syntax.Operand.{Operand}
use Rattle.ms_ir.specs.declared.syntax.Op.TheVariants as op
use Rattle.ms_ir.specs.Names.{lookup, externals}
use Rattle.ms_runs.specs.World.{Here}
use Rattle.ms_ir.specs.Instructions.{external_named}
use Rattle.ms_runs.specs.Uses.{Word, callee_uses, has_true_flag, blind_words}
use Rattle.ms_pass_tasks.specs.Tasks.{Task}
use Rattle.ms_pass_tasks.specs.Emit.{own_tasks}
use Rattle.ms_pass_tasks.specs.Environments.{Env, Given, Tracked}
use Rattle.ms_pass_tasks.specs.CheckTasks.{check_tasks, blind_tasks}
use Rattle.ms_pass_tasks.specs.ResultTasks.{called_tasks, result_tasks}
use Rattle.ms_pass_tasks.specs.PlaneTasks.{saved_tasks}

no_external : (func : Name → Option ℕ) (callee : Name) → is_some (func callee) ≡ true → external_named func callee ≡ None
no_external func callee e = ap (λ b. if b then None else lookup externals callee) e

no_result : (given : Given) (env : Env) (x : Option Name) (ret : Option Ty) (callee : Name) (args : List (Ty × Operand)) (ts : List Tracked) → is_some (given.func callee) ≡ true
    → result_tasks given.func env x (op.Call ret callee args) ts ≡ []
no_result given env None ret callee args ts e = refl
no_result given env (Some x) ret callee args ts e =
    ap (λ b. if env.clean x then [] else elim (env.number x) [ Some v ↦ called_tasks b v (op.Call ret callee args) ts | None ↦ [] ]) e ∙ by_clean (env.clean x) (env.number x)
  where
    by_clean : (b : Bool) (o : Option ℕ) → ◌≡◌ {A = List Task} (if b then [] else elim o [ Some v ↦ [] | None ↦ [] ]) []
    by_clean true o = refl
    by_clean false None = refl
    by_clean false (Some v) = refl

no_blind_use : (args : List (Ty × Operand)) (ts : List Tracked) → blind_tasks (blind_words None args ts) ≡ []
no_blind_use args ts = by_flag (has_true_flag args)
  where
    by_flag : (b : Bool) → blind_tasks (if b then [] else []) ≡ []
    by_flag true = refl
    by_flag false = refl

pub call_alone : (given : Given) (env : Env) (h : Here) (x : Option Name) (ret : Option Ty) (callee : Name) (args : List (Ty × Operand)) (saved : ℕ) (ts : List Tracked) → is_some (given.func callee) ≡ true
    → own_tasks given env h x (op.Call ret callee args) saved ts ≡ []
call_alone given env h x ret callee args saved ts e =
    ap₂ (λ o r. check_tasks h.site ts (callee_uses o args) ++ (blind_tasks (blind_words o args ts) ++ (r ++ elim o [ Some e ↦ saved_tasks saved e ts | None ↦ [] ])))
    (no_external given.func callee e) (no_result given env x ret callee args ts e)
    ∙ ap (λ (b : List Task). b ++ []) (no_blind_use args ts)

pub return_alone : (given : Given) (env : Env) (h : Here) (v : Option (Ty × Operand)) (saved : ℕ) (ts : List Tracked) → h.main ≡ false → own_tasks given env h None (op.Ret v) saved ts ≡ []
return_alone given env h v saved ts e = ap (λ b. check_tasks h.site ts (if b then Word 8 0 ∷ [] else []) ++ []) e
