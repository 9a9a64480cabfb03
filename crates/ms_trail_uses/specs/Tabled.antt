-- What is looked up by the number of an instruction (own).
use Rattle.std.specs.Prelude.{◌≡◌, ℕ, List, Some, slice_get}
use Rattle.ms_ir.specs.declared.syntax.Inst.{Inst}
use Rattle.ms_ir.specs.declared.syntax.Module.{Module}
use Rattle.ms_ir.specs.Instructions.{func_index, insts_at, root_at}
use Rattle.ms_runs.specs.Control.{block_name}
use Rattle.ms_machine_code.specs.Encodes.{number_of}
use Rattle.ms_trail_uses.specs.declared.tables.InstRow.{InstRow}

-- the row of instruction p of block b of function f: the instruction, how many roots stand before it, and its block's name
pub record IsRow (m : Module) (f b p : ℕ) (row : InstRow) (inst : Inst) : Type 0 where
  pub inst_is : row.inst.now ≡ inst
  pub roots : row.roots ≡ root_at (func_index m.funcs) m f b p
  pub block : row.block.now ≡ block_name m f b

-- the row of an instruction stands at its number
pub record HasRow (m : Module) (rows : List InstRow) (f b p : ℕ) (inst : Inst) : Type 0 where
  pub row : InstRow
  pub stands : slice_get rows (number_of m f b p) ≡ Some row
  pub is : IsRow m f b p row inst

-- each instruction of a module has its row
abbrev pub AreTables : Module → List InstRow → Type 0
AreTables m rows = (f b p : ℕ) (inst : Inst) → slice_get (insts_at m f b) p ≡ Some inst → HasRow m rows f b p inst
