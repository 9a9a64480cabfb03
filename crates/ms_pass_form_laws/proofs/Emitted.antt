-- What is asked of an instruction so that what is inserted round it fits.
use Rattle.std.specs.Prelude.{◌≡◌, ◌<◌, ◌≤◌, ℕ, ◌^◌, true, false, List, [], ◌∷◌, map, length, Bool, Option, Some, is_some}
use Rattle.ms_ir.specs.declared.syntax.Name.{Name}
use Rattle.ms_ir.specs.declared.syntax.Ty.{Ty, Int}
use Rattle.ms_ir.specs.declared.syntax.Operand.{Operand}
use Rattle.ms_ir.specs.declared.syntax.Operand.TheVariants as operand
use Rattle.ms_ir.specs.declared.syntax.Op.{Op}
use Rattle.ms_ir.specs.declared.syntax.Op.TheVariants as op
use Rattle.ms_bits.specs.declared.word_functions.BitMove.{BitMove}
use Rattle.ms_ir.specs.declared.calls.External.{External}
use Rattle.ms_ir.specs.Instructions.{external_named}
use Rattle.ms_ir.specs.Signatures.{external_signature, called_params}
use Rattle.ms_ir.specs.Layout.{size_in}
use Rattle.ms_check_valid.specs.FormedCode.{is_value_type}
use Rattle.ms_pass_tasks.specs.Tasks.{mask_name, origin_name}
use Rattle.ms_pass_tasks.specs.ResultTasks.{external_move}
use Rattle.ms_pass_tasks.specs.Environments.{Env, Given, Tracked, mask_type}
use Rattle.ms_pass_form_laws.proofs.Checked.{Allowed, IsInt, TurnFits, OperandFits}

-- where a value isn't clean, its mask and its origin are known
abbrev pub MaskKnown : Env → (Name → Ty → Type 0) → Name → Ty → Type 0
MaskKnown env K x t = (v : ℕ) → env.number x ≡ Some v → env.clean x ≡ false → K (mask_name v) (mask_type t) × K (origin_name v) (Int 32)

abbrev pub OperandKnown : Env → (Name → Ty → Type 0) → Allowed → Ty → Operand → Type 0
OperandKnown env K C t (operand.Local x) = K x t × MaskKnown env K x t
OperandKnown env K C t o = OperandFits K C t o

abbrev pub OperandsKnown : Env → (Name → Ty → Type 0) → Allowed → List (Ty × Operand) → Type 0
OperandsKnown env K C [] = Unit {0}
OperandsKnown env K C (o ∷ os) = (is_value_type o.0 ≡ true) × OperandKnown env K C o.0 o.1 × OperandsKnown env K C os

-- an operand, its mask and its origin fit
pub record TrackedFits (K : Name → Ty → Type 0) (C : Allowed) (t : Tracked) : Type 0 where
  pub value : is_value_type t.ty ≡ true
  pub own : OperandFits K C t.ty t.operand
  pub mask : OperandFits K C (mask_type t.ty) t.mask
  pub origin : OperandFits K C (Int 32) t.origin

abbrev pub AllTracked : (Name → Ty → Type 0) → Allowed → List Tracked → Type 0
AllTracked K C [] = Unit {0}
AllTracked K C (t ∷ ts) = TrackedFits K C t × AllTracked K C ts

-- a call of an external has its types, one of a function of the module few arguments, and an answer is a value
pub record CallGood (given : Given) (ret : Option Ty) (callee : Name) (args : List (Ty × Operand)) : Type 0 where
  pub outside : (e : External) → external_named given.func callee ≡ Some e → (map (λ a. a.0) args ≡ called_params e (map (λ a. a.0) args)) × (ret ≡ (external_signature e).ret) × (length args < 2 ^ 32)
  pub few : is_some (given.func callee) ≡ true → length args ≤ 100
  pub value : (t : Ty) → ret ≡ Some t → is_value_type t ≡ true

-- what its own types have, beside those of the operands
abbrev pub OpGood : Given → Op → Type 0
OpGood given (op.Binary o f t a b) = IsInt t
OpGood given (op.Icmp p f t a b) = is_value_type t ≡ true
OpGood given (op.Cast o f t a u) = TurnFits o t u
OpGood given (op.Select c t a b) = is_value_type t ≡ true
OpGood given (op.Freeze t a) = is_value_type t ≡ true
OpGood given (op.Alloca t u c) = (size_in given.types t < 2 ^ 64) × IsInt u
OpGood given (op.Load t a) = is_value_type t ≡ true
OpGood given (op.Store t v a) = is_value_type t ≡ true
OpGood given (op.Call r x as') = CallGood given r x as'
OpGood given (op.Phi t es) = ⊥
OpGood given _ = Unit {0}

-- what moves bits may be called for the mask of a call's answer
abbrev pub MovesGood : Given → Allowed → Op → Type 0
MovesGood given C (op.Call r x as') = (k : BitMove) → external_move (external_named given.func x) ≡ Some k → C.call k
MovesGood given C _ = Unit {0}

-- a call of a function of the module
abbrev pub is_own_call : (Name → Option ℕ) → Op → Bool
is_own_call func (op.Call r x as') = is_some (func x)
is_own_call func _ = false
