-- What the steps of a rule come to: the words that they leave on a stack, the last first.
use Rattle.std.specs.Prelude.{ℕ, Bool, true, false, List, [], ◌∷◌, map, Option, Some, None}
use Rattle.ms_bits.specs.declared.operations.CastOp.TheVariants as cast
use Rattle.ms_ir.specs.declared.syntax.Name.{Name}
use Rattle.ms_ir.specs.declared.syntax.Ty.{Int, Ptr}
use Rattle.ms_ir.specs.declared.syntax.Operand.{Operand}
use Rattle.ms_ir.specs.declared.syntax.Operand.TheVariants as operand
use Rattle.ms_ir.specs.ValueTypes.{type_of}
use Rattle.ms_pass_tasks.specs.Tasks as tasks
use Rattle.ms_pass_tasks.specs.Tasks.{Expr, Leaf, Two, Turn, Test, Pick, msan_name, mask_name, origin_name}
use Rattle.ms_pass_tasks.specs.Environments.{Tracked, tracked_at, mask_of, origin_of, word_of, bits_of, widened, extended_expr, number}
use Rattle.ms_rules_builder.specs.declared.tracked.Shadow.{Shadow}
use Rattle.ms_rules_builder.specs.declared.tracked.Shadow.TheVariants as shadow
use Rattle.ms_rules_builder.specs.declared.tracked.TrackedOperand.{TrackedOperand}
use Rattle.ms_rules_builder.specs.declared.inputs.Inputs as given
use Rattle.ms_rules_builder.specs.declared.steps.Operation.{Operation}
use Rattle.ms_rules_builder.specs.declared.steps.Operation.TheVariants as operation
use Rattle.ms_rules_builder.specs.declared.steps.Width.{Width}
use Rattle.ms_rules_builder.specs.declared.steps.Width.TheVariants as width
use Rattle.ms_rules_builder.specs.declared.steps.StackOp.{StackOp}
use Rattle.ms_rules_builder.specs.declared.steps.StackOp.TheVariants as step

-- ---- what a rule works on

-- the operand that holds a mask
abbrev pub shadow_mask : Shadow → Operand
shadow_mask shadow.Clean = operand.Int 0
shadow_mask (shadow.Undefined ones origin) = operand.Int ones
shadow_mask (shadow.Value v) = operand.Local (mask_name v)

-- the operand that holds an origin
abbrev pub shadow_origin : Shadow → Operand
shadow_origin shadow.Clean = operand.Int 0
shadow_origin (shadow.Undefined ones origin) = operand.Int origin
shadow_origin (shadow.Value v) = operand.Local (origin_name v)

abbrev pub tracked_of : TrackedOperand → Tracked
tracked_of t = record { ty = type_of t.ty; operand = t.operand.now; mask = shadow_mask t.shadow; origin = shadow_origin t.shadow }

-- the operands of an instruction, the width that a rule works on, its words with all bits and with the sign bit alone,
-- and the result of the instruction
pub record Inputs : Type 0 where
  pub operands : List Tracked
  pub width : ℕ
  pub ones : ℕ
  pub sign : ℕ
  pub result : Option Name

-- the result of the instruction as a word
abbrev pub result_word : Option Name → Expr
result_word (Some x) = Leaf (operand.Local x)
result_word None = number 0

-- ---- steps

abbrev pub task_operation : Operation → tasks.Operation
task_operation operation.And = tasks.And
task_operation operation.Or = tasks.Or
task_operation operation.Xor = tasks.Xor
task_operation operation.Sub = tasks.Sub
task_operation operation.Mul = tasks.Mul

abbrev pub bits_in : Inputs → Width → ℕ
bits_in i width.Own = i.width
bits_in i (width.Bits w) = w

-- the words on the stack, the last first; 0 where there is none
abbrev pub top : List Expr → Expr
top [] = number 0
top (e ∷ st) = e

abbrev pub below : List Expr → List Expr
below [] = []
below (e ∷ st) = st

-- the words after a step
abbrev pub stepped : Inputs → StackOp → List Expr → List Expr
stepped i (step.Word k) st = word_of (tracked_at k i.operands) ∷ st
stepped i (step.Bits k) st = bits_of (tracked_at k i.operands) ∷ st
stepped i (step.Mask k) st = mask_of (tracked_at k i.operands) ∷ st
stepped i (step.Origin k) st = origin_of (tracked_at k i.operands) ∷ st
stepped i (step.Constant n) st = number n ∷ st
stepped i step.Ones st = number i.ones ∷ st
stepped i step.Sign st = number i.sign ∷ st
stepped i (step.Inserted n) st = Leaf (operand.Local (msan_name n)) ∷ st
stepped i step.Result st = result_word i.result ∷ st
stepped i (step.Widen w) st = widened w (top st) ∷ below st
stepped i (step.Extend w) st = extended_expr w (top st) ∷ below st
stepped i (step.Two o w) st = Two (task_operation o) (Int (bits_in i w)) (top (below st)) (top st) ∷ below (below st)
stepped i (step.Test p w) st = Test p (Int (bits_in i w)) (top (below st)) (top st) ∷ below (below st)
stepped i (step.Pick w) st = Pick (top (below (below st))) (Int (bits_in i w)) (top (below st)) (top st) ∷ below (below (below st))
stepped i (step.Turn o w u) st = Turn o (Int (bits_in i w)) (top st) (Int (bits_in i u)) ∷ below st
stepped i step.ToNumber st = Turn cast.PtrToInt Ptr (top st) (Int 64) ∷ below st
stepped i step.ToPointer st = Turn cast.IntToPtr (Int 64) (top st) Ptr ∷ below st

-- the words after steps
abbrev pub words : Inputs → List StackOp → List Expr → List Expr
words i [] st = st
words i (s ∷ ss) st = words i ss (stepped i s st)

-- a step that puts a word on the stack which is there already
abbrev pub is_leaf : StackOp → Bool
is_leaf (step.Word k) = true
is_leaf (step.Mask k) = true
is_leaf (step.Origin k) = true
is_leaf (step.Constant n) = true
is_leaf step.Ones = true
is_leaf step.Sign = true
is_leaf (step.Inserted n) = true
is_leaf step.Result = true
is_leaf _ = false

-- a step that takes words and puts what an instruction makes of them
abbrev pub is_operation : StackOp → Bool
is_operation (step.Two o w) = true
is_operation (step.Test p w) = true
is_operation (step.Pick w) = true
is_operation (step.Turn o w u) = true
is_operation step.ToNumber = true
is_operation step.ToPointer = true
is_operation _ = false

abbrev pub inputs_of : given.Inputs → Inputs
inputs_of i = record { operands = map tracked_of i.operands.now; width = i.width; ones = i.ones; sign = i.sign; result = i.result.now }
