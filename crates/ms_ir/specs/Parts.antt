-- The parts of arrays and structs (LLVM Language Reference, "Type System").
use Rattle.std.specs.Prelude.{ℕ, length}
use Rattle.ms_ir.specs.declared.syntax.Ty.{Ty, Array', Struct'}
use Rattle.ms_ir.specs.Layout.{row_types}

-- the number of items of an array, or of fields of a struct
abbrev pub count_parts : Ty → ℕ
count_parts (Array' n shape item) = n
count_parts (Struct' packed shape fields) = length (row_types fields)
count_parts t = 0
