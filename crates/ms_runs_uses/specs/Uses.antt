-- What the rows of tables say, and the uses of an operation where the external that it calls is known.
use Rattle.std.specs.Prelude.{Bool, List, [], ◌++◌, drop, Option, Some, None}
use Rattle.ms_ir.specs.declared.calls.External.{External}
use Rattle.ms_ir.specs.declared.calls.External.TheVariants.{Printf}
use Rattle.ms_ir.specs.declared.syntax.Op.{Op}
use Rattle.ms_ir.specs.declared.syntax.Op.TheVariants as op
use Rattle.ms_ir.specs.declared.syntax.Operand.{Operand}
use Rattle.ms_ir.specs.declared.syntax.Ty.{Ty}
use Rattle.ms_runs.specs.Uses as meant
use Rattle.ms_runs_uses.specs.declared.uses.CheckedUse.{CheckedUse}
use Rattle.ms_runs_uses.specs.declared.uses.CheckedUse.TheVariants as row

-- the use that a row says
abbrev pub use_of : CheckedUse → meant.CheckedUse
use_of (row.Word kind k) = meant.Word kind k
use_of (row.Bytes kind a n) = meant.Bytes kind a n
use_of (row.Line a) = meant.Line a
use_of (row.Asked a) = meant.Asked a

-- the uses of an operation that calls an external, if it calls one
abbrev pub op_uses : (main : Bool) → Option External → Op → List meant.CheckedUse
op_uses main external (op.Call ret callee args) = meant.callee_uses external args
op_uses main external o = meant.uses (λ x. None) main o

-- those that the arguments of a call decide: of `printf` after its format
abbrev pub printed_uses : External → List (Ty × Operand) → List meant.CheckedUse
printed_uses Printf args = meant.value_uses 1 (drop 1 args) ++ meant.string_uses 1 (drop 1 args)
printed_uses e args = []

abbrev pub further_uses : Option External → Op → List meant.CheckedUse
further_uses (Some e) (op.Call ret callee args) = printed_uses e args
further_uses external o = []
