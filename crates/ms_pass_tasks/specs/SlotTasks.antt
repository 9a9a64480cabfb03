-- What hands masks and origins over at calls and returns, in the slots.
use Rattle.std.specs.Prelude.{ℕ, List, [], ◌∷◌, ◌++◌, if◌then◌else◌, Option, Some, None, suc, Bool, is_some}
use Rattle.ms_ir.specs.declared.syntax.Name.{Name}
use Rattle.ms_ir.specs.declared.syntax.Ty.{Ty, Int}
use Rattle.ms_ir.specs.declared.syntax.Operand.{Operand}
use Rattle.ms_ir.specs.declared.syntax.Operand.TheVariants as operand
use Rattle.ms_ir.specs.declared.syntax.Op.{Op}
use Rattle.ms_ir.specs.declared.syntax.Op.TheVariants as op
use Rattle.ms_ir.specs.Names.{slot_name}
use Rattle.ms_ir.specs.declared.calls.Slot.TheVariants as slot
use Rattle.ms_pass_tasks.specs.Tasks.{mask_name, origin_name, Task, Leaf, Fetches, Puts}
use Rattle.ms_pass_tasks.specs.Environments.{Env, mask_type, Tracked, mask_of, origin_of}

-- the slot of the mask of parameter k, counted from 0
abbrev pub param_mask : ℕ → Operand
param_mask k = operand.Offset (slot_name slot.ParamMasks) ((Int 64, (Int 64, k) ∷ []) ∷ [])

-- the slot of its origin
abbrev pub param_origin : ℕ → Operand
param_origin k = operand.Offset (slot_name slot.ParamOrigins) ((Int 32, (Int 64, k) ∷ []) ∷ [])

-- the slot of a result's mask
abbrev pub result_mask_slot : Operand
result_mask_slot = operand.Global (slot_name slot.RetvalMask)

-- the slot of a result's origin
abbrev pub result_origin_slot : Operand
result_origin_slot = operand.Global (slot_name slot.RetvalOrigin)

-- a word's mask and origin go into two slots
abbrev pub give_tasks : (mask origin : Operand) → Tracked → List Task
give_tasks mask origin t = Puts (mask_type t.ty) (mask_of t) (Leaf mask) ∷ Puts (Int 32) (origin_of t) (Leaf origin) ∷ []

-- and come out of them, under the names of the value with a number
abbrev pub take_tasks : (mask origin : Operand) → ℕ → Ty → List Task
take_tasks mask origin v t = Fetches (mask_name v) (mask_type t) (Leaf mask) ∷ Fetches (origin_name v) (Int 32) (Leaf origin) ∷ []

-- the arguments of a call, from number k on, are handed over
abbrev pub give_arguments : ℕ → List Tracked → List Task
give_arguments k [] = []
give_arguments k (t ∷ ts) = give_tasks (param_mask k) (param_origin k) t ++ give_arguments (suc k) ts

-- what a function returns is handed over
abbrev pub give_result : List Tracked → List Task
give_result [] = []
give_result (t ∷ ts) = give_tasks result_mask_slot result_origin_slot t

-- before a call of a function of the module its arguments are handed over, and before a return outside `main` its result
abbrev pub hand_tasks : (Name → Option ℕ) → (main : Bool) → Op → List Tracked → List Task
hand_tasks func main (op.Call ret callee args) ts = if is_some (func callee) then give_arguments 0 ts else []
hand_tasks func main (op.Ret v) ts = if main then [] else give_result ts
hand_tasks func main _ ts = []

-- a value that isn't known to be clean gets its mask and origin
abbrev pub take_value : Env → (mask origin : Operand) → Name → Ty → List Task
take_value env mask origin x t = if env.clean x then [] else elim (env.number x) [ Some v ↦ take_tasks mask origin v t | None ↦ [] ]

-- at the entry of a function, the parameters from number k on
abbrev pub take_parameters : Env → ℕ → List (Ty × Name) → List Task
take_parameters env k [] = []
take_parameters env k (p ∷ ps) = take_value env (param_mask k) (param_origin k) p.1 p.0 ++ take_parameters env (suc k) ps

-- after a call of a function of the module
abbrev pub take_result : Env → Option Name → Option Ty → List Task
take_result env (Some x) (Some t) = take_value env result_mask_slot result_origin_slot x t
take_result env x t = []
