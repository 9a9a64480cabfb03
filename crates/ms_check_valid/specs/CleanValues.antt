-- Values without a poisoned bit in any run, as far as the text of their function shows (own).
use Rattle.std.specs.Prelude.{Bool, true, false, ◌&&◌, List, IsTrue, if◌then◌else◌, Option, Some, None}
use Rattle.std.specs.List.{list_any, list_all}
use Rattle.ms_bits.specs.declared.operations.BinOp.{BinOp}
use Rattle.ms_bits.specs.declared.operations.BinOp.TheVariants as binary
use Rattle.ms_ir.specs.declared.syntax.Name.{Name}
use Rattle.ms_ir.specs.declared.syntax.Operand.{Operand}
use Rattle.ms_ir.specs.declared.syntax.Operand.TheVariants as operand
use Rattle.ms_ir.specs.declared.syntax.Op.{Op}
use Rattle.ms_ir.specs.declared.syntax.Op.TheVariants as op
use Rattle.ms_ir.specs.declared.syntax.Inst.{Inst}
use Rattle.ms_ir.specs.declared.syntax.Func.{Func}
use Rattle.ms_ir.specs.declared.syntax.Module.{Module}
use Rattle.ms_ir.specs.declared.calls.External.{External}
use Rattle.ms_ir.specs.declared.calls.External.TheVariants as external
use Rattle.ms_ir.specs.declared.syntax.Ty.{Ty}
use Rattle.ms_ir.specs.Names.{name_eq}
use Rattle.ms_ir.specs.Instructions.{operands, func_index, external_named}
use Rattle.ms_ir.specs.Locals.{func_insts}

-- an operand is clean, where it is said which values are: a constant is, and an undefined one isn't
abbrev pub is_clean_operand : (Name → Bool) → Operand → Bool
is_clean_operand clean operand.Undef = false
is_clean_operand clean operand.Poison = false
is_clean_operand clean (operand.Local x) = clean x
is_clean_operand clean o = true

-- all operands of an instruction are clean
abbrev pub are_clean : (Name → Bool) → Op → Bool
are_clean clean o = list_all (λ a. is_clean_operand clean a.1) (operands o)

-- a division or a remainder
abbrev pub is_division : BinOp → Bool
is_division binary.Udiv = true
is_division binary.Sdiv = true
is_division binary.Urem = true
is_division binary.Srem = true
is_division o = false

-- an external's answer is clean: that of a function of whole words where all arguments are
abbrev pub answers_clean : (Name → Bool) → Option External → List (Ty × Operand) → Bool
answers_clean clean None args = false
answers_clean clean (Some (external.Word f n)) args = list_all (λ a. is_clean_operand clean a.1) args
answers_clean clean (Some e) args = true

-- an instruction makes a clean value: of a division the dividend is looked at alone, and a load or a call of a function
-- that the module defines makes none
abbrev pub makes_clean : Module → (Name → Bool) → Op → Bool
makes_clean m clean (op.Binary o flags t a b) = if is_division o then is_clean_operand clean a else (is_clean_operand clean a && is_clean_operand clean b)
makes_clean m clean (op.Icmp p flags t a b) = are_clean clean (op.Icmp p flags t a b)
makes_clean m clean (op.Cast o flags from a to) = are_clean clean (op.Cast o flags from a to)
makes_clean m clean (op.Select c t a b) = are_clean clean (op.Select c t a b)
makes_clean m clean (op.Freeze t a) = true
makes_clean m clean (op.Phi t edges) = are_clean clean (op.Phi t edges)
makes_clean m clean (op.Alloca t u count) = true
makes_clean m clean (op.Gep t base indices) = are_clean clean (op.Gep t base indices)
makes_clean m clean (op.Call ret callee args) = answers_clean clean (external_named (func_index m.funcs) callee) args
makes_clean m clean o = false

-- an instruction gives a result its name
abbrev pub gives_name : Name → Inst → Bool
gives_name x inst = elim inst.result [ Some y ↦ name_eq y x | None ↦ false ]

-- each of some values is made clean, where these are clean
abbrev pub Supported : Module → Func → (Name → Bool) → Type 0
Supported m f clean = (x : Name) → IsTrue (clean x) → IsTrue (list_any (λ inst. gives_name x inst && makes_clean m clean inst.op) (func_insts f))

-- a value is clean: it is in the greatest set whose members support each other, which is the union of all such sets
pub record IsClean (m : Module) (f : Func) (x : Name) : Type 0 where
  pub clean : Name → Bool
  pub supported : Supported m f clean
  pub member : IsTrue (clean x)

-- an operand of a function is clean
abbrev pub IsCleanOperand : Module → Func → Operand → Type 0
IsCleanOperand m f operand.Undef = ⊥
IsCleanOperand m f operand.Poison = ⊥
IsCleanOperand m f (operand.Local x) = IsClean m f x
IsCleanOperand m f o = Unit {0}
