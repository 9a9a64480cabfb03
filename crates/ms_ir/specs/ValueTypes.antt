-- The types of operands and results that code hands out.
use Rattle.ms_ir.specs.declared.syntax.Ty.{Ty, Int, Ptr}
use Rattle.ms_ir.specs.declared.value_types.ValueType.{ValueType}
use Rattle.ms_ir.specs.declared.value_types.ValueType.TheVariants.{Bit, Pointer, Written}

-- the type
abbrev pub type_of : ValueType → Ty
type_of Bit = Int 1
type_of Pointer = Ptr
type_of (Written t) = t.now
