-- What is known where an instruction is instrumented, and what stands for the masks and origins of its operands.
use Rattle.std.specs.Prelude.{ℕ, ◌+◌, ◌-◌, ◌^◌, false, eqb, List, [], ◌∷◌, get_or, if◌then◌else◌, Option, Some, None, Bool}
use Rattle.ms_ir.specs.declared.syntax.Name.{Name}
use Rattle.ms_ir.specs.declared.syntax.Ty.{Ty, Int, Ptr}
use Rattle.ms_ir.specs.declared.syntax.Operand.{Operand}
use Rattle.ms_ir.specs.declared.syntax.Operand.TheVariants as operand
use Rattle.ms_ir.specs.Layout.{width_of, Types}
use Rattle.ms_ir.specs.Instructions.{one_undef}
use Rattle.ms_bits.specs.declared.operations.CastOp.TheVariants as cast
use Rattle.ms_bits.specs.declared.operations.Pred.TheVariants as pred
use Rattle.ms_pass_tasks.specs.Tasks.{mask_name, origin_name, Expr, Or, Leaf, Two, Turn, Test}

-- a function's values: the number of each, counted from 0, parameters first and then results in text order; and which are
-- known to have the mask 0
pub record Env : Type 0 where
  pub number : Name → Option ℕ
  pub clean : Name → Bool

-- what is the same for all instructions of a module: its types, and the place of each function
pub record Given : Type 0 where
  pub types : Types
  pub func : Name → Option ℕ

-- ---- the mask and the origin of an operand

-- the type of a mask: a pointer's is of 64 bits
abbrev pub mask_type : Ty → Ty
mask_type t = Int (width_of t)

-- the operand that has the mask of a local value
abbrev pub local_mask : Env → Name → Operand
local_mask env x =
    elim (env.number x) [ Some v ↦ if env.clean x then operand.Int 0 else operand.Local (mask_name v) | None ↦ operand.Int 0 ]

-- the operand that has the origin of a local value
abbrev pub local_origin : Env → Name → Operand
local_origin env x =
    elim (env.number x) [ Some v ↦ if env.clean x then operand.Int 0 else operand.Local (origin_name v) | None ↦ operand.Int 0 ]

-- an undefined word of so many bits is poisoned whole, and a constant isn't
abbrev pub mask_operand : Env → ℕ → Operand → Operand
mask_operand env w operand.Undef = operand.Int (2 ^ w - 1)
mask_operand env w operand.Poison = operand.Int (2 ^ w - 1)
mask_operand env w (operand.Local x) = local_mask env x
mask_operand env w _ = operand.Int 0

-- an undefined operand is a root, and a constant has the origin 0; root is the number of roots before the operand
abbrev pub origin_operand : Env → ℕ → Operand → Operand
origin_operand env root operand.Undef = operand.Int (root + 1)
origin_operand env root operand.Poison = operand.Int (root + 1)
origin_operand env root (operand.Local x) = local_origin env x
origin_operand env root _ = operand.Int 0

-- an operand with the operands that have its mask and its origin
pub record Tracked : Type 0 where
  pub ty : Ty
  pub operand : Operand
  pub mask : Operand
  pub origin : Operand

-- the operands of an instruction, given the number of roots before the first
abbrev pub tracked : Env → ℕ → List (Ty × Operand) → List Tracked
tracked env root [] = []
tracked env root (o ∷ os) =
    record { ty = o.0; operand = o.1; mask = mask_operand env (width_of o.0) o.1; origin = origin_operand env root o.1 }
    ∷ tracked env (root + one_undef o.1) os

-- the word that stands where there is no operand
abbrev pub untracked : Tracked
untracked = record { ty = Ptr; operand = operand.Int 0; mask = operand.Int 0; origin = operand.Int 0 }

-- operand k of an instruction, counted from 0
abbrev pub tracked_at : ℕ → List Tracked → Tracked
tracked_at k ts = get_or ts k untracked

-- the mask is known to be 0
abbrev pub is_zero : Operand → Bool
is_zero (operand.Int n) = eqb n 0
is_zero _ = false

-- the operands whose masks aren't known to be 0
abbrev pub unknown : List Tracked → List Tracked
unknown [] = []
unknown (t ∷ ts) = if is_zero t.mask then unknown ts else t ∷ unknown ts

-- the mask of an operand
abbrev pub mask_of : Tracked → Expr
mask_of t = Leaf t.mask

-- the origin of an operand
abbrev pub origin_of : Tracked → Expr
origin_of t = Leaf t.origin

-- the word of an operand
abbrev pub word_of : Tracked → Expr
word_of t = Leaf t.operand

-- ---- words

-- a mask of w bits as one of 64
abbrev pub widened : ℕ → Expr → Expr
widened w e = if eqb w 64 then e else Turn cast.Zext (Int w) e (Int 64)

-- the same with copies of its sign bit
abbrev pub extended_expr : ℕ → Expr → Expr
extended_expr w e = if eqb w 64 then e else Turn cast.Sext (Int w) e (Int 64)

-- a number
abbrev pub number : ℕ → Expr
number n = Leaf (operand.Int n)

-- a word isn't 0
abbrev pub is_set : Ty → Expr → Expr
is_set t e = Test pred.Ne t e (number 0)

-- the mask of an operand as a word of 64 bits, with zeros above it or with copies of its sign bit
abbrev pub widened_mask : Tracked → Expr
widened_mask t = widened (width_of t.ty) (mask_of t)

abbrev pub extended_mask : Tracked → Expr
extended_mask t = extended_expr (width_of t.ty) (mask_of t)

-- the union of words of one type, each made of an operand
abbrev pub joined : Ty → (Tracked → Expr) → List Tracked → Expr
joined ty f [] = number 0
joined ty f (t ∷ []) = f t
joined ty f (t ∷ u ∷ us) = Two Or ty (f t) (joined ty f (u ∷ us))

-- the word of an operand as a number of a mask's type
abbrev pub bits_at : Ty → Expr → Expr
bits_at Ptr e = Turn cast.PtrToInt Ptr e (Int 64)
bits_at t e = e

-- the word of an operand as a number
abbrev pub bits_of : Tracked → Expr
bits_of t = bits_at t.ty (word_of t)
