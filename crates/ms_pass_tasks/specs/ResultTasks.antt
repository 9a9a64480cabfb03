-- What defines the mask and the origin of a result.
use Rattle.std.specs.Prelude.{ℕ, ◌-◌, ◌^◌, List, [], ◌∷◌, if◌then◌else◌, Option, Some, None, Bool, is_some}
use Rattle.ms_bits.specs.declared.operations.BinOp.{BinOp}
use Rattle.ms_bits.specs.declared.word_functions.BitMove.{BitMove}
use Rattle.ms_bits.specs.WordFunctions.{move_of}
use Rattle.ms_ir.specs.declared.calls.External.{External}
use Rattle.ms_ir.specs.declared.calls.External.TheVariants as external
use Rattle.ms_ir.specs.Names.{lookup, externals}
use Rattle.ms_ir.specs.declared.syntax.Name.{Name}
use Rattle.ms_ir.specs.declared.syntax.Ty.{Int, Ptr}
use Rattle.ms_ir.specs.declared.syntax.Operand.TheVariants as operand
use Rattle.ms_ir.specs.declared.syntax.Op.{Op}
use Rattle.ms_ir.specs.declared.syntax.Op.TheVariants as op
use Rattle.ms_ir.specs.Layout.{width_of}
use Rattle.ms_runs.specs.Plain.{shadow_bits}
use Rattle.ms_bits.specs.declared.operations.BinOp.TheVariants as binary
use Rattle.ms_bits.specs.declared.operations.CastOp.TheVariants as cast
use Rattle.ms_ir.specs.declared.calls.RuntimeFn.TheVariants as function
use Rattle.ms_pass_tasks.specs.Tasks.{mask_name, origin_name, Expr, Task, Xor, Leaf, Two, Turn, Pick, Sets, Tries, Fetches, Calls}
use Rattle.ms_pass_tasks.specs.Environments.{Env, mask_type, Tracked, tracked_at, mask_of, word_of, widened, number, is_set}
use Rattle.ms_pass_tasks.specs.ResultMasks.{mask_expr, origin_expr, move_args}

-- the width of a result
abbrev pub result_width : Op → ℕ
result_width (op.Binary o f t a b) = width_of t
result_width (op.Icmp p f t a b) = 1
result_width (op.Cast o f t a u) = width_of u
result_width (op.Select c t a b) = width_of t
result_width (op.Freeze t a) = width_of t
result_width (op.Call (Some t) callee args) = width_of t
result_width _ = 64

-- a shift's mask: with an amount that is set, the shift of the mask, else all bits
abbrev pub shift_task : Name → BinOp → ℕ → Tracked → Tracked → Task
shift_task x o w a b =
    Tries x o (Int w)
    (Pick (is_set (Int w) (mask_of b)) (Int w) (number (2 ^ w - 1)) (mask_of a))
    (Pick (is_set (Int w) (mask_of b)) (Int w) (number 0) (word_of b))

-- the origin and the mask of a result that is one word, in this order
abbrev pub word_tasks : (mask origin : Name) → Op → List Tracked → List Task
word_tasks mask origin o ts = Sets origin (Int 32) (origin_expr o ts) ∷ Sets mask (Int (result_width o)) (mask_expr o ts) ∷ []

-- the same of an operation on two words
abbrev pub binary_tasks : (mask origin : Name) → BinOp → Op → ℕ → List Tracked → List Task
binary_tasks mask origin binary.Shl o w ts = Sets origin (Int 32) (origin_expr o ts) ∷ shift_task mask binary.Shl w (tracked_at 0 ts) (tracked_at 1 ts) ∷ []
binary_tasks mask origin binary.Lshr o w ts = Sets origin (Int 32) (origin_expr o ts) ∷ shift_task mask binary.Lshr w (tracked_at 0 ts) (tracked_at 1 ts) ∷ []
binary_tasks mask origin binary.Ashr o w ts = Sets origin (Int 32) (origin_expr o ts) ∷ shift_task mask binary.Ashr w (tracked_at 0 ts) (tracked_at 1 ts) ∷ []
binary_tasks mask origin _ o w ts = word_tasks mask origin o ts

-- the address of the shadow of what an address names
abbrev pub shadow_address : Expr → Expr
shadow_address a = Turn cast.IntToPtr (Int 64) (Two Xor (Int 64) (Turn cast.PtrToInt Ptr a (Int 64)) (number shadow_bits)) Ptr

-- which function that moves bits alone an external is, if it is one
abbrev pub external_move : Option External → Option BitMove
external_move (Some (external.Word f n)) = move_of f n
external_move e = None

-- which of them an operation calls, if it does
abbrev pub move_called : Op → Option BitMove
move_called (op.Call ret callee args) = external_move (lookup externals callee)
move_called o = None

-- the origin and the mask of what an external answers; what moves bits alone gives the mask of what it gives
abbrev pub answer_tasks : (mask origin : Name) → Option BitMove → Op → List Tracked → List Task
answer_tasks mask origin (Some k) o ts = Sets origin (Int 32) (origin_expr o ts) ∷ Calls (Some mask) (function.Move k) (move_args k ts) ∷ []
answer_tasks mask origin None o ts = word_tasks mask origin o ts

-- what an external answers has a mask and an origin by its operands; a function of the module hands those of its result
-- over itself
abbrev pub called_tasks : Bool → ℕ → Op → List Tracked → List Task
called_tasks own v o ts = if own then [] else answer_tasks (mask_name v) (origin_name v) (move_called o) o ts

-- the mask and the origin of the value with a number, which an instruction sets
abbrev pub define_tasks : (Name → Option ℕ) → ℕ → Op → List Tracked → List Task
define_tasks func v (op.Call ret callee args) ts = called_tasks (is_some (func callee)) v (op.Call ret callee args) ts
define_tasks func v (op.Binary o f t a b) ts = binary_tasks (mask_name v) (origin_name v) o (op.Binary o f t a b) (width_of t) ts
define_tasks func v (op.Icmp p f t a b) ts = word_tasks (mask_name v) (origin_name v) (op.Icmp p f t a b) ts
define_tasks func v (op.Cast o f t a u) ts = word_tasks (mask_name v) (origin_name v) (op.Cast o f t a u) ts
define_tasks func v (op.Select c t a b) ts = word_tasks (mask_name v) (origin_name v) (op.Select c t a b) ts
define_tasks func v (op.Freeze t a) ts = word_tasks (mask_name v) (origin_name v) (op.Freeze t a) ts
define_tasks func v (op.Gep t a is) ts = word_tasks (mask_name v) (origin_name v) (op.Gep t a is) ts
define_tasks func v (op.Alloca t u c) ts = word_tasks (mask_name v) (origin_name v) (op.Alloca t u c) ts
define_tasks func v (op.Load t a) ts =
    Fetches (mask_name v) (mask_type t) (shadow_address (word_of (tracked_at 0 ts)))
    ∷ Calls (Some (origin_name v)) function.LoadOrigin
    ((Ptr, word_of (tracked_at 0 ts)) ∷ (Int 64, widened (width_of t) (Leaf (operand.Local (mask_name v)))) ∷ [])
    ∷ []
define_tasks func v _ ts = []

-- nothing is computed of a value that is known to be clean
abbrev pub result_tasks : (Name → Option ℕ) → Env → Option Name → Op → List Tracked → List Task
result_tasks func env None o ts = []
result_tasks func env (Some x) o ts = if env.clean x then [] else elim (env.number x) [ Some v ↦ define_tasks func v o ts | None ↦ [] ]
