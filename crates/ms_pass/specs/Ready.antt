-- The functions that can be instrumented.
use Rattle.std.specs.Prelude.{◌≤◌, ◌^◌, All, length}
use Rattle.ms_ir.specs.declared.syntax.Func.{Func}
use Rattle.ms_ir.specs.Instructions.{operands, over_blocks}
use Rattle.ms_ir.specs.Layout.{Types}
use Rattle.ms_rules.specs.Taken.{IsTaken}

-- each instruction of a function can be instrumented, and it keeps the limits of a plain text
pub record IsReady (types : Types) (f : Func) : Type 0 where
  pub taken : All (λ b. All (IsTaken types) b.insts) f.blocks
  pub params : length f.params ≤ 100
  pub instructions : over_blocks (λ i. 1) f.blocks ≤ 2 ^ 17
  pub operands : over_blocks (λ i. length (operands i.op)) f.blocks ≤ 2 ^ 20
