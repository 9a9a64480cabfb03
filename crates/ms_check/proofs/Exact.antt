-- A valid module has no fault.
use Rattle.std.proofs.Common.{◌≡◌, Option, Some, None, refl}
use Rattle.std.specs.Prelude.{IfSome}
use Rattle.ms_ir.specs.declared.syntax.Module.{Module}
use Rattle.ms_check_valid.specs.Refusals.{Fault, IsRefused}
use Rattle.ms_check_valid.specs.Valid.{Valid}
use Rattle.ms_check_valid.proofs.Refused.{invalid}

pub valid_told : (m : Module) (told : Option Fault) → IfSome told (IsRefused m) → Valid m → told ≡ None
valid_told m None refused valid = refl
valid_told m (Some fault) refused valid = absurd (invalid m fault refused valid)
