-- The parts of types to which indices lead, one by one, as the code steps through them.
use Rattle.std.specs.Prelude.{ℕ, ◌^◌, List, nat_lt, Option, Some, None, option_and_then, slice_get, if◌then◌else◌}
use Rattle.ms_ir.specs.declared.syntax.Ty.{Ty, Int, Array', Struct'}
use Rattle.ms_ir.specs.declared.syntax.Operand.{Operand}
use Rattle.ms_ir.specs.declared.syntax.Operand.TheVariants as operand
use Rattle.ms_ir.specs.Layout.{row_types, type_at}
use Rattle.ms_ir.specs.Equal.{type_eq}

-- the number that an operand is, if it is one
abbrev pub constant_of : Operand → Option ℕ
constant_of (operand.Int k) = Some k
constant_of o = None

-- the field with a number, which is below 2 ^ 31
abbrev pub field_at : List Ty → ℕ → Option Ty
field_at ts k = if nat_lt k (2 ^ 31) then slice_get ts k else None

-- the part of a type to which an index leads, by the index's type and number; none where it leads to none
abbrev pub part_by : Ty → Ty → Option ℕ → Option Ty
part_by (Array' n shape item) u k = Some (type_at (row_types item) 0)
part_by (Struct' packed shape fields) u k = if type_eq u (Int 32) then option_and_then (field_at (row_types fields)) k else None
part_by t u k = None
