-- An argument and its parameter, as the code looks at them.
use Rattle.std.specs.Prelude.{Bool, false, ◌&&◌, Option, Some, None}
use Rattle.ms_ir.specs.declared.syntax.Ty.{Ty}
use Rattle.ms_ir.specs.declared.syntax.Operand.{Operand}
use Rattle.ms_ir.specs.Equal.{type_eq}

-- an argument fits the parameter of a type; none fits where there is no parameter
abbrev pub fits_parameter : (Ty × Operand → Bool) → Option Ty → Ty × Operand → Bool
fits_parameter fits None a = false
fits_parameter fits (Some t) a = type_eq a.0 t && fits a
