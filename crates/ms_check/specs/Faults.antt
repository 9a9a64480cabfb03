-- What an error of a check says of the module.
use Rattle.std.specs.Prelude.{[], Option, Some, None}
use Rattle.ms_check.specs.declared.errors.CheckError.{CheckError}
use Rattle.ms_check.specs.declared.errors.CheckError.TheVariants as error
use Rattle.ms_check_valid.specs.Refusals.{Fault, Duplicate, Unknown, TypeMismatch, BadPhi, NoMain, BadExternal, Undefined, BadMark, BadSize}

-- the fault that it tells; running out of memory tells none
abbrev pub fault_of : CheckError → Option Fault
fault_of (error.Duplicate global name) = Some (Duplicate (record { global = global; name = name }))
fault_of (error.Unknown site global name) = Some (Unknown site (record { global = global; name = name }))
fault_of (error.TypeMismatch site operand) = Some (TypeMismatch site operand)
fault_of (error.BadPhi site) = Some (BadPhi site)
fault_of error.NoMain = Some NoMain
fault_of (error.BadExternal name) = Some (BadExternal name)
fault_of (error.Undefined site path) = Some (Undefined site path)
fault_of (error.BadMark site) = Some (BadMark site)
fault_of (error.BadSize global name) = Some (BadSize (record { global = global; name = name }))
fault_of error.NoMemory = None

-- a fault but for its path, since more than one may show an undefined use
abbrev pub without_path : Fault → Fault
without_path (Undefined site path) = Undefined site []
without_path fault = fault
