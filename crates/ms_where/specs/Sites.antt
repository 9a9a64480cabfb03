-- Which mark of a text is told of the instruction of a site.
use Rattle.std.specs.Prelude.{ℕ, Bool, List, map, filter, flat_map}
use Rattle.std.specs.List.{zip, enumerate_from}
use Rattle.ms_ir.specs.declared.syntax.Block.{Block}
use Rattle.ms_ir.specs.declared.syntax.Func.{Func}
use Rattle.ms_ir.specs.declared.syntax.Module.{Module}
use Rattle.ms_ir.specs.Instructions.{is_unmarked}
use Rattle.ms_where_places.specs.declared.marks.Mark.{Mark}
use Rattle.ms_where_places.specs.Instructions.{is_instruction, module_insts}

-- the places of the instructions among marks, counted from 0
abbrev pub instruction_places : List Mark → List ℕ
instruction_places marks = map (λ p. p.0) (filter (λ p. is_instruction p.1.kind) (enumerate_from 0 marks))

-- The place of the mark of each site, from site 1 on: the marks of instructions are the instructions of the module in written
-- order, and the unmarked ones have sites.
abbrev pub site_places : Module → List Mark → List ℕ
site_places m marks = map (λ p. p.1) (filter (λ p. is_unmarked p.0) (zip (module_insts m) (instruction_places marks)))

-- ---- the unmarked instructions of parts

-- of each instruction of a block whether it has a site
abbrev pub block_sites : Block → List Bool
block_sites b = map is_unmarked b.insts

-- of each instruction of a function
abbrev pub func_sites : Func → List Bool
func_sites f = flat_map block_sites f.blocks
