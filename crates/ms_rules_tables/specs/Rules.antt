-- Rules: tables of steps that come to one word.
use Rattle.std.specs.Prelude.{ℕ, zero, suc, ◌-◌, ◌^◌, Bool, false, if◌then◌else◌, List, [], ◌∷◌, Option, Some, None}
use Rattle.ms_bits.specs.declared.operations.Pred.TheVariants as pred
use Rattle.ms_bits.specs.declared.word_functions.WordFn.{WordFn}
use Rattle.ms_bits.specs.declared.word_functions.WordFn.TheVariants as word
use Rattle.ms_bits.specs.declared.word_functions.BitMove.{BitMove}
use Rattle.ms_ir.specs.declared.calls.RuntimeFn.TheVariants as function
use Rattle.ms_ir.specs.declared.syntax.Ty.{Ty, Int}
use Rattle.ms_ir.specs.Layout.{width_of}
use Rattle.ms_pass_tasks.specs.Tasks.{mask_name, origin_name, Expr, Pick, Task, Sets, Calls}
use Rattle.ms_pass_tasks.specs.Environments.{Tracked, tracked_at, mask_of, word_of, number, is_set}
use Rattle.ms_pass_tasks.specs.ResultMasks.{carry_expr, move_args}
use Rattle.ms_rules_builder.specs.declared.steps.Width.TheVariants as width
use Rattle.ms_rules_builder.specs.declared.steps.StackOp.{StackOp}
use Rattle.ms_rules_builder.specs.declared.steps.StackOp.TheVariants as step
use Rattle.ms_rules_builder.specs.declared.unions.Widening.{Widening}
use Rattle.ms_rules_builder.specs.Steps.{Inputs, bits_in, is_leaf, is_operation}
use Rattle.ms_rules_builder.specs.Joins.{width_in, union_in}

-- the last step is an operation
abbrev pub ends_in_operation : List StackOp → Bool
ends_in_operation [] = false
ends_in_operation (s ∷ []) = is_operation s
ends_in_operation (s ∷ t ∷ l) = ends_in_operation (t ∷ l)

-- one word that is there already, or steps of which the last is an operation
abbrev pub is_rule : List StackOp → Bool
is_rule [] = false
is_rule (s ∷ []) = is_leaf s
is_rule (s ∷ t ∷ l) = ends_in_operation (t ∷ l)

-- what a rule works on that uses the words of its width
abbrev pub on_width : ℕ → List Tracked → Inputs
on_width w ts = record { operands = ts; width = w; ones = 2 ^ w - 1; sign = 2 ^ (w - 1); result = None }

-- the tests and the origins of the operands with places from a last one down to 1
abbrev pub tests : List Tracked → ℕ → List StackOp
tests ts zero = []
tests ts (suc k) =
    step.Mask (suc k) ∷ step.Constant 0 ∷ step.Test pred.Ne (width.Bits (width_of (tracked_at (suc k) ts).ty)) ∷ step.Origin (suc k) ∷ tests ts k

-- the mask in which the poisoned bits of the joined masks carry
abbrev pub carry_in : Inputs → Widening → List Tracked → Expr
carry_in i how ts = carry_expr (Int (bits_in i (width_in how))) (union_in i how ts)

-- the origin and the mask of the value with a number, which has a width, get words
abbrev pub defined : ℕ → ℕ → (origin mask : Expr) → List Task
defined v w e f = Sets (origin_name v) (Int 32) e ∷ Sets (mask_name v) (Int w) f ∷ []

-- what a function that moves bits takes to give its mask, by whether the amount is known
abbrev pub amount_with : Bool → ℕ → (amount : Tracked) → (m : Expr) → Expr
amount_with known w amount m = if known then m else Pick (is_set (Int w) (mask_of amount)) (Int w) (number (2 ^ w - 1)) m

abbrev pub args_with : Bool → WordFn → ℕ → (a b c : Tracked) → List (Ty × Expr)
args_with known word.Fshl w a b c = (Int w, amount_with known w c (mask_of a)) ∷ (Int w, amount_with known w c (mask_of b)) ∷ (Int w, word_of c) ∷ []
args_with known word.Fshr w a b c = (Int w, amount_with known w c (mask_of a)) ∷ (Int w, amount_with known w c (mask_of b)) ∷ (Int w, word_of c) ∷ []
args_with known f w a b c = (Int w, mask_of a) ∷ []

-- a marked call of a function that moves bits gives its mask
abbrev pub moves : ℕ → BitMove → List Tracked → List Task
moves v k ts = Calls (Some (mask_name v)) (function.Move k) (move_args k ts) ∷ []

-- the origin and the mask of what an external answers get words, or the mask that which moves bits gives
abbrev pub answered : (v w : ℕ) → Option BitMove → (origin mask : Expr) → List Tracked → List Task
answered v w (Some k) e f ts = Sets (origin_name v) (Int 32) e ∷ moves v k ts
answered v w None e f ts = defined v w e f
