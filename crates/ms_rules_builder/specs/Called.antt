-- What a call goes to.
use Rattle.std.specs.Prelude.{ℕ, Bool, false, Option, None, is_some}
use Rattle.ms_ir.specs.declared.calls.External.{External}
use Rattle.ms_ir.specs.declared.syntax.Name.{Name}
use Rattle.ms_ir.specs.declared.syntax.Op.{Op}
use Rattle.ms_ir.specs.declared.syntax.Op.TheVariants as op
use Rattle.ms_ir.specs.Instructions.{external_named}

-- an operation is a call of a function of the module
abbrev pub calls_own : (Name → Option ℕ) → Op → Bool
calls_own func (op.Call ret callee args) = is_some (func callee)
calls_own func _ = false

-- the external that an operation calls
abbrev pub called_external : (Name → Option ℕ) → Op → Option External
called_external func (op.Call ret callee args) = external_named func callee
called_external func _ = None
