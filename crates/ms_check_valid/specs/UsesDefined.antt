-- Each use of a value is defined (LLVM Language Reference, "'phi' Instruction"; own: said over paths, and not by
-- dominators).
use Rattle.std.specs.Prelude.{ℕ, List, [], ◌∷◌, flat_map, length, All}
use Rattle.ms_ir.specs.declared.syntax.Name.{Name}
use Rattle.ms_ir.specs.declared.syntax.Operand.{Operand}
use Rattle.ms_ir.specs.declared.syntax.Operand.TheVariants as operand
use Rattle.ms_ir.specs.declared.syntax.Op.{Op}
use Rattle.ms_ir.specs.declared.syntax.Op.TheVariants as op
use Rattle.ms_ir.specs.declared.syntax.Func.{Func}
use Rattle.ms_ir.specs.declared.syntax.Module.{Module}
use Rattle.ms_ir.specs.Instructions.{operands, block_index}
use Rattle.ms_ir.specs.Spots.{Spot, found_at_insts}
use Rattle.ms_check_valid.specs.Paths.{ValueUse, insts_of, IsDefined}

-- a use of a value in a function, at a site
pub record SiteUse : Type 0 where
  pub func : Func
  pub site : ℕ
  pub value : ValueUse

-- the use that an operand is, if it is a local, where so many instructions of a block come before it
abbrev pub operand_use : Spot → (block place : ℕ) → Operand → List SiteUse
operand_use at block place (operand.Local x) = record { func = at.func; site = at.site; value = record { block = block; place = place; name = x } } ∷ []
operand_use at block place o = []

-- the use that a phi's operand is: at the end of the block that it names
abbrev pub edge_use : Spot → Operand × Name → List SiteUse
edge_use at e =
    let from = block_index at.func.blocks e.1 in
    operand_use at from (length (insts_of at.func from)) e.0

-- the uses of an instruction, in written order
abbrev pub inst_uses : Spot → Op → List SiteUse
inst_uses at (op.Phi t edges) = flat_map (edge_use at) edges
inst_uses at o = flat_map (λ a. operand_use at at.block at.place a.1) (operands o)

-- the uses of values in a module, in text order
abbrev pub uses : Module → List SiteUse
uses m = found_at_insts (λ at inst. inst_uses at inst.op) m

-- a use is defined on every path
abbrev pub IsUseDefined : SiteUse → Type 0
IsUseDefined u = IsDefined u.func u.value

-- each use is defined on every path
abbrev pub UsesDefined : Module → Type 0
UsesDefined m = All IsUseDefined (uses m)
