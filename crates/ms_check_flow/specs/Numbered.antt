-- The numbers of a function's blocks and values (own). What the crate promises does not name this file.
use Rattle.std.specs.Prelude.{◌≡◌, ℕ, List, map}
use Rattle.ms_ir.specs.declared.syntax.Name.{Name}
use Rattle.ms_ir.specs.declared.syntax.Block.{Block}
use Rattle.ms_ir.specs.declared.syntax.Func.{Func}
use Rattle.ms_ir.specs.Locals.{block_names, parameter_names, results}
use Rattle.ms_ir.specs.Written.{block_targets}
use Rattle.ms_check_valid.specs.FlowGraph.{name_place, value_names}
use Rattle.ms_check_flow.specs.declared.numbers.Numbers.{Numbers}

-- the names that number a function's blocks and values, and those of its parameters
pub record AreNumbersOf (f : Func) (n : Numbers) : Type 0 where
  pub blocks : n.blocks ≡ block_names f
  pub values : n.values ≡ value_names f
  pub parameters : n.parameters ≡ parameter_names f

-- the blocks to which a block may go, once for each edge
abbrev pub next_row : List Name → Block → List ℕ
next_row blocks b = map (name_place blocks) (block_targets b)

-- the values that a block defines
abbrev pub defs_row : List Name → Block → List ℕ
defs_row values b = map (name_place values) (results b.insts)
