-- Which types, operands and instructions may stand where (LLVM Language Reference, "Type System", "Constants",
-- "Instruction Reference"; own: types of values are `iN` of 1 to 64 bits and `ptr`).
use Rattle.std.specs.Prelude.{ℕ, ◌^◌, Bool, true, false, not, ◌&&◌, ◌||◌, nat_lt, nat_le, List, [], ◌∷◌, length, if◌then◌else◌, Option, Some, None}
use Rattle.std.specs.List.{list_all}
use Rattle.ms_bits.specs.declared.operations.Flags.{Flags}
use Rattle.ms_bits.specs.declared.operations.BinOp.{BinOp}
use Rattle.ms_bits.specs.declared.operations.BinOp.TheVariants as binary
use Rattle.ms_bits.specs.declared.operations.CastOp.{CastOp}
use Rattle.ms_bits.specs.declared.operations.CastOp.TheVariants as cast
use Rattle.ms_ir.specs.declared.syntax.Name.{Name}
use Rattle.ms_ir.specs.declared.syntax.Ty.{Ty, Int, Ptr, Array', Struct', Named, Row_of-Ty, end_of-Ty, more_of-Ty}
use Rattle.ms_ir.specs.declared.syntax.Operand.{Operand}
use Rattle.ms_ir.specs.declared.syntax.Operand.TheVariants as operand
use Rattle.ms_ir.specs.declared.syntax.Init.{Init, Row_of-Init-Array-0-2, end_of-Init-Array-0-2, more_of-Init-Array-0-2}
use Rattle.ms_ir.specs.declared.syntax.Init as initial
use Rattle.ms_ir.specs.declared.syntax.Op.{Op}
use Rattle.ms_ir.specs.declared.syntax.Op.TheVariants as op
use Rattle.ms_ir.specs.declared.syntax.Inst.{Inst}
use Rattle.ms_ir.specs.Equal.{AddressStep}
use Rattle.ms_ir.specs.Names.{name_eq, main_name}
use Rattle.ms_ir.specs.Instructions.{operands, is_phi}
use Rattle.ms_bits.specs.NoFlags.{no_flags}
use Rattle.ms_ir.specs.Written.{labels, result_type}
use Rattle.ms_check_valid.specs.FormedNames.{are_bytes, is_local_name, is_global_name}

-- ---- types

-- a width of 1 to 64 bits
abbrev pub is_width : ℕ → Bool
is_width n = nat_le 1 n && nat_le n 64

-- an integer type
abbrev pub is_int_type : Ty → Bool
is_int_type (Int n) = is_width n
is_int_type t = false

-- the type of a value: an integer or a pointer
abbrev pub is_value_type : Ty → Bool
is_value_type Ptr = true
is_value_type t = is_int_type t

-- a type as it may stand, and a row of types
abbrev mutual
  pub type_formed : Ty → Bool
  type_formed (Int n) = is_width n
  type_formed Ptr = true
  type_formed (Array' n shape item) = nat_lt n (2 ^ 64) && row_formed item
  type_formed (Struct' packed shape fields) = row_formed fields
  type_formed (Named x) = is_local_name x

  pub row_formed : {n : _} → Row_of-Ty n → Bool
  row_formed end_of-Ty = true
  row_formed (more_of-Ty t ts) = type_formed t && row_formed ts

-- the type of a result: a value's, or none for `void`
abbrev pub result_formed : Option Ty → Bool
result_formed None = true
result_formed (Some t) = is_value_type t

-- ---- operands

-- an integer type with a number below 2 to the power of its width
abbrev pub number_formed : Ty → ℕ → Bool
number_formed (Int n) k = is_width n && nat_lt k (2 ^ n)
number_formed t k = false

-- a step of a constant address as it may stand
abbrev pub step_formed : AddressStep → Bool
step_formed s = type_formed s.0 && list_all (λ i. number_formed i.0 i.1) s.1

-- the steps of a constant address as they may stand, of which there is one or more
abbrev pub steps_formed : List AddressStep → Bool
steps_formed [] = false
steps_formed (s ∷ inner) = step_formed s && list_all step_formed inner

-- an operand as it may stand after a type: a number after an integer type, and `null` after `ptr`
abbrev pub operand_formed : Ty → Operand → Bool
operand_formed t (operand.Int k) = number_formed t k
operand_formed Ptr operand.Null = true
operand_formed t operand.Null = false
operand_formed t operand.Undef = true
operand_formed t operand.Poison = true
operand_formed t (operand.Local x) = is_local_name x
operand_formed t (operand.Global x) = is_global_name x
operand_formed t (operand.Offset x steps) = is_global_name x && steps_formed steps

-- an operand that names no local
abbrev pub is_constant : Operand → Bool
is_constant (operand.Local x) = false
is_constant o = true

-- an initialiser as it may stand after a type, and its items or fields with their types
abbrev mutual
  pub init_formed : Ty → Init → Bool
  init_formed t (initial.Value o) = is_constant o && operand_formed t o
  init_formed t initial.Zero = true
  init_formed t (initial.Text bytes) = are_bytes bytes
  init_formed t (initial.Array' shape items) = items_formed items
  init_formed t (initial.Struct' packed shape fields) = items_formed fields

  pub items_formed : {n : _} → Row_of-Init-Array-0-2 n → Bool
  items_formed end_of-Init-Array-0-2 = true
  items_formed (more_of-Init-Array-0-2 t i rest) = type_formed t && init_formed t i && items_formed rest

-- ---- flags

-- flags that are among others
abbrev pub are_among : Flags → Flags → Bool
are_among a b =
    (not a.nuw || b.nuw) && (not a.nsw || b.nsw) && (not a.exact || b.exact) && (not a.disjoint || b.disjoint)
    && (not a.nneg || b.nneg) && (not a.samesign || b.samesign)

-- the flags that say that nothing wraps
abbrev pub wrap_flags : Flags
wrap_flags = record no_flags { nuw = true; nsw = true }

-- the flags that a binary operation may carry
abbrev pub binary_flags : BinOp → Flags
binary_flags binary.Add = wrap_flags
binary_flags binary.Sub = wrap_flags
binary_flags binary.Mul = wrap_flags
binary_flags binary.Shl = wrap_flags
binary_flags binary.Udiv = record no_flags { exact = true }
binary_flags binary.Sdiv = record no_flags { exact = true }
binary_flags binary.Lshr = record no_flags { exact = true }
binary_flags binary.Ashr = record no_flags { exact = true }
binary_flags binary.Or = record no_flags { disjoint = true }
binary_flags o = no_flags

-- the flags that a cast may carry
abbrev pub cast_flags : CastOp → Flags
cast_flags cast.Trunc = wrap_flags
cast_flags cast.Zext = record no_flags { nneg = true }
cast_flags o = no_flags

-- ---- instructions

-- the types, numbers, names and flags of an instruction that stand before no operand
abbrev pub shape_formed : Op → Bool
shape_formed (op.Binary o flags t a b) = is_int_type t && are_among flags (binary_flags o)
shape_formed (op.Icmp p flags t a b) = is_value_type t && are_among flags (record no_flags { samesign = true })
shape_formed (op.Cast o flags from a to) = is_value_type from && is_value_type to && are_among flags (cast_flags o)
shape_formed (op.Select c t a b) = is_value_type t
shape_formed (op.Freeze t a) = is_value_type t
shape_formed (op.Phi t edges) = is_value_type t && nat_lt 0 (length edges)
shape_formed (op.Alloca t u count) = type_formed t && is_int_type u
shape_formed (op.Load t addr) = is_value_type t
shape_formed (op.Store t v addr) = is_value_type t
shape_formed (op.Gep t base indices) = type_formed t && list_all (λ i. is_int_type i.0) indices
shape_formed (op.Call ret callee args) =
    result_formed ret && is_global_name callee && not (name_eq callee main_name) && list_all (λ a. is_value_type a.0) args
shape_formed (op.Br to) = true
shape_formed (op.CondBr c to other) = true
shape_formed (op.Switch t v other cases) = is_int_type t && list_all (λ c. number_formed t c.0) cases
shape_formed (op.Ret None) = true
shape_formed (op.Ret (Some v)) = is_value_type v.0
shape_formed op.Unreachable = true

-- an operation as it may stand
abbrev pub op_formed : Op → Bool
op_formed o = shape_formed o && list_all (λ a. operand_formed a.0 a.1) (operands o) && list_all is_local_name (labels o)

-- a name for the result where there is one, and none else
abbrev pub name_formed : Option Ty → Option Name → Bool
name_formed None None = true
name_formed (Some t) (Some x) = is_local_name x
name_formed t x = false

-- an instruction as it may stand
abbrev pub inst_formed : Inst → Bool
inst_formed inst = op_formed inst.op && name_formed (result_type inst.op) inst.result

-- ---- blocks

-- a terminator
abbrev pub is_terminator : Op → Bool
is_terminator (op.Br to) = true
is_terminator (op.CondBr c to other) = true
is_terminator (op.Switch t v other cases) = true
is_terminator (op.Ret v) = true
is_terminator op.Unreachable = true
is_terminator o = false

-- instructions that are neither phis nor terminators, and then one terminator
abbrev pub ends_well : List Inst → Bool
ends_well [] = false
ends_well (inst ∷ []) = is_terminator inst.op
ends_well (inst ∷ next ∷ rest) = not (is_terminator inst.op) && not (is_phi inst.op) && ends_well (next ∷ rest)

-- phis, other instructions, and one terminator
abbrev pub is_body : List Inst → Bool
is_body [] = false
is_body (inst ∷ rest) = if is_phi inst.op then is_body rest else ends_well (inst ∷ rest)
