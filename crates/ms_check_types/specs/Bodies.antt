-- The module and the function that the check of a function looks at, and its operands.
use Rattle.std.specs.Prelude.{ℕ, Bool, Option}
use Rattle.ms_ir.specs.declared.syntax.Ty.{Ty}
use Rattle.ms_ir.specs.declared.syntax.Operand.{Operand}
use Rattle.ms_ir.specs.declared.syntax.Op.{Op}
use Rattle.ms_ir.specs.declared.syntax.Func.{Func}
use Rattle.ms_ir.specs.declared.syntax.Module.{Module}
use Rattle.ms_ir.specs.Layout.{Types}
use Rattle.ms_ir.specs.Locals.{value_type}
use Rattle.ms_check_valid.specs.TypesAgree.{operand_fits, op_fault}
use Rattle.ms_check_types.specs.declared.bodies.FuncTypes.{FuncTypes}

abbrev pub module_of : FuncTypes → Module
module_of body = body.symbols.now.source.now

abbrev pub func_of : FuncTypes → Func
func_of body = body.locals.now.func.now

abbrev pub types_of : FuncTypes → Types
types_of body = (module_of body).types

-- an operand has the type before it, in a function
abbrev pub fits_within : Module → Func → Ty × Operand → Bool
fits_within m f o = operand_fits m (value_type f) o.0 o.1

abbrev pub fits_in : FuncTypes → Ty × Operand → Bool
fits_in body o = fits_within (module_of body) (func_of body) o

-- the operand of an instruction at fault, in a function
abbrev pub fault_within : Module → Func → Op → Option ℕ
fault_within m f o = op_fault m f (fits_within m f) o

abbrev pub fault_in : FuncTypes → Op → Option ℕ
fault_in body o = fault_within (module_of body) (func_of body) o
