-- The instructions that can be instrumented.
use Rattle.std.specs.Prelude.{◌≡◌, ◌≤◌, false, All}
use Rattle.ms_ir.specs.declared.syntax.Inst.{Inst}
use Rattle.ms_ir.specs.declared.syntax.Op.{Op}
use Rattle.ms_ir.specs.declared.syntax.Op.TheVariants as op
use Rattle.ms_ir.specs.Instructions.{operands}
use Rattle.ms_ir.specs.Layout.{Types, width_of}
use Rattle.ms_machine_operands.specs.Sized.{IsSized}
use Rattle.ms_rules_tables.specs.Widths.{HasWidths}

-- the element of an `alloca` has a size
abbrev pub IsSizedAlloca : Types → Op → Type 0
IsSizedAlloca types (op.Alloca t u count) = IsSized types t
IsSizedAlloca types _ = Unit {0}

-- an instruction of the program on words of at most 64 bits
pub record IsTaken (types : Types) (i : Inst) : Type 0 where
  pub unmarked : i.marked ≡ false
  pub widths : HasWidths i.op
  pub narrow : All (λ o. width_of o.0 ≤ 64) (operands i.op)
  pub sized : IsSizedAlloca types i.op
