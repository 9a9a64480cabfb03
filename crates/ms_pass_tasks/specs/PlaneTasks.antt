-- What sets shadow and origins of memory after an instruction.
use Rattle.std.specs.Prelude.{ℕ, ◌+◌, true, false, List, [], ◌∷◌, Option, Some, None, Bool, is_some}
use Rattle.ms_bits.specs.declared.operations.Pred.TheVariants as pred
use Rattle.ms_ir.specs.declared.syntax.Name.{Name}
use Rattle.ms_ir.specs.declared.syntax.Ty.{Ty, Int, Ptr}
use Rattle.ms_ir.specs.declared.syntax.Operand.TheVariants as operand
use Rattle.ms_ir.specs.declared.syntax.Op.{Op}
use Rattle.ms_ir.specs.declared.syntax.Op.TheVariants as op
use Rattle.ms_ir.specs.Layout.{width_of, size_in}
use Rattle.ms_runs.specs.World.{Here}
use Rattle.ms_ir.specs.Instructions.{count_undefs, external_named}
use Rattle.ms_ir.specs.declared.calls.RuntimeFn.TheVariants as function
use Rattle.ms_ir.specs.declared.calls.External.{External}
use Rattle.ms_ir.specs.declared.calls.External.TheVariants.{Malloc, Realloc, Memcpy, Memmove, Memset, Read, LlvmMemcpy, LlvmMemmove, LlvmMemset, LifetimeStart, PthreadCreate, PthreadJoin}
use Rattle.ms_pass_tasks.specs.Tasks.{msan_name, Expr, Task, Mul, Leaf, Two, Puts, Calls, Test, Pick}
use Rattle.ms_pass_tasks.specs.Environments.{Env, Given, mask_type, Tracked, tracked_at, mask_of, origin_of, word_of, widened, number}
use Rattle.ms_pass_tasks.specs.ResultTasks.{shadow_address}
use Rattle.ms_pass_tasks.specs.SlotTasks.{take_result}

-- ---- externals

-- how many words an external needs from before its call
abbrev pub saved_by : External → ℕ
saved_by Realloc = 1
saved_by _ = 0

-- how many words are saved before an instruction: the size of the block that `realloc` ends
abbrev pub saves : (Name → Option ℕ) → Op → ℕ
saves func (op.Call ret callee args) = elim (external_named func callee) [ Some e ↦ saved_by e | None ↦ 0 ]
saves func _ = 0

-- that size gets the name with the number that is kept for it
abbrev pub saved_tasks : (saved : ℕ) → External → List Tracked → List Task
saved_tasks saved Realloc ts = Calls (Some (msan_name saved)) function.Size ((Ptr, word_of (tracked_at 0 ts)) ∷ []) ∷ []
saved_tasks saved _ ts = []

-- what is saved before an instruction
abbrev pub save_tasks : (Name → Option ℕ) → (saved : ℕ) → Op → List Tracked → List Task
save_tasks func saved (op.Call ret callee args) ts = elim (external_named func callee) [ Some e ↦ saved_tasks saved e ts | None ↦ [] ]
save_tasks func saved _ ts = []

-- the bytes of an address with the numbers from `from` to `to` - 1 become poisoned, with a root as origin
abbrev pub poison_task : (address from to : Expr) → (root : ℕ) → List Task
poison_task a from to root = Calls None function.Poison ((Ptr, a) ∷ (Int 64, from) ∷ (Int 64, to) ∷ (Int 32, number root) ∷ []) ∷ []

-- shadow and origins of n bytes are copied
abbrev pub copy_task : Tracked → Tracked → Tracked → List Task
copy_task to from n = Calls None function.Copy ((Ptr, word_of to) ∷ (Ptr, word_of from) ∷ (Int 64, word_of n) ∷ []) ∷ []

-- n bytes get the low byte of the mask of c as shadow
abbrev pub fill_task : (site : ℕ) → Tracked → Tracked → Tracked → List Task
fill_task site a c n =
    Calls None function.Fill
    ((Ptr, word_of a) ∷ (Int 64, word_of n) ∷ (Int 64, widened (width_of c.ty) (mask_of c)) ∷ (Int 32, origin_of c) ∷ (Int 32, number site) ∷ [])
    ∷ []

-- how many bytes become clean where a fiber was made: 8 where 0 was answered, and else none
abbrev pub made_size : Name → Expr
made_size x = Pick (Test pred.Eq (Int 32) (Leaf (operand.Local x)) (number 0)) (Int 64) (number 8) (number 0)

-- what becomes of shadow and origins after an external
abbrev pub external_tasks : (site root saved : ℕ) → Option Name → External → List Tracked → List Task
external_tasks site root saved (Some x) Malloc ts = poison_task (Leaf (operand.Local x)) (number 0) (word_of (tracked_at 0 ts)) root
external_tasks site root saved (Some x) Realloc ts = poison_task (Leaf (operand.Local x)) (Leaf (operand.Local (msan_name saved))) (word_of (tracked_at 1 ts)) root
external_tasks site root saved (Some x) Read ts = Calls None function.Unpoison ((Ptr, word_of (tracked_at 1 ts)) ∷ (Int 64, Leaf (operand.Local x)) ∷ []) ∷ []
external_tasks site root saved (Some x) PthreadCreate ts = Calls None function.Unpoison ((Ptr, word_of (tracked_at 0 ts)) ∷ (Int 64, made_size x) ∷ []) ∷ []
external_tasks site root saved (Some x) PthreadJoin ts =
    Calls None function.ThreadResult
    ((Ptr, word_of (tracked_at 1 ts)) ∷ (Int 64, word_of (tracked_at 0 ts)) ∷ (Int 32, Leaf (operand.Local x)) ∷ (Int 32, number site) ∷ [])
    ∷ []
external_tasks site root saved r LifetimeStart ts = poison_task (word_of (tracked_at 1 ts)) (number 0) (word_of (tracked_at 0 ts)) root
external_tasks site root saved r Memcpy ts = copy_task (tracked_at 0 ts) (tracked_at 1 ts) (tracked_at 2 ts)
external_tasks site root saved r Memmove ts = copy_task (tracked_at 0 ts) (tracked_at 1 ts) (tracked_at 2 ts)
external_tasks site root saved r LlvmMemcpy ts = copy_task (tracked_at 0 ts) (tracked_at 1 ts) (tracked_at 2 ts)
external_tasks site root saved r LlvmMemmove ts = copy_task (tracked_at 0 ts) (tracked_at 1 ts) (tracked_at 2 ts)
external_tasks site root saved r Memset ts = fill_task site (tracked_at 0 ts) (tracked_at 1 ts) (tracked_at 2 ts)
external_tasks site root saved r LlvmMemset ts = fill_task site (tracked_at 0 ts) (tracked_at 1 ts) (tracked_at 2 ts)
external_tasks site root saved r _ ts = []

-- after a call: of a function of the module the result's mask and origin are taken, of an external shadow and origins
-- are set
abbrev pub callee_tasks : Env → (site root saved : ℕ) → Option Name → Option Ty → (own : Bool) → Option External → List Tracked → List Task
callee_tasks env site root saved x ret true e ts = take_result env x ret
callee_tasks env site root saved x ret false None ts = []
callee_tasks env site root saved x ret false (Some e) ts = external_tasks site root saved x e ts

-- ---- all instructions

-- what stands after an instruction: the bytes of an `alloca` are poisoned, a `store` stores its mask and its origin
abbrev pub plane_tasks : Given → Env → Here → (saved : ℕ) → Option Name → Op → List Tracked → List Task
plane_tasks given env h saved (Some x) (op.Alloca t u count) ts =
    Calls None function.Poison
    ((Ptr, Leaf (operand.Local x)) ∷ (Int 64, number 0) ∷ (Int 64, Two Mul (Int 64) (number (size_in given.types t)) (widened (width_of u) (word_of (tracked_at 0 ts))))
    ∷ (Int 32, number (h.root + count_undefs ((u, count) ∷ []) + 1)) ∷ [])
    ∷ []
plane_tasks given env h saved x (op.Store t v a) ts =
    Puts (mask_type t) (mask_of (tracked_at 0 ts)) (shadow_address (word_of (tracked_at 1 ts)))
    ∷ Calls None function.StoreOrigin
    ((Ptr, word_of (tracked_at 1 ts)) ∷ (Int 64, widened (width_of t) (mask_of (tracked_at 0 ts))) ∷ (Int 32, origin_of (tracked_at 0 ts))
    ∷ (Int 32, number h.site) ∷ [])
    ∷ []
plane_tasks given env h saved x (op.Call ret callee args) ts =
    callee_tasks env h.site (h.root + count_undefs args + 1) saved x ret (is_some (given.func callee)) (external_named given.func callee) ts
plane_tasks given env h saved x _ ts = []
