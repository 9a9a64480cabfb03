-- A function as the graph of numbers that `ms_flow` looks at: a block by its number, and a value by the place of its name
-- among those of blocks and results. Parameters, of which a function may have any number, have no numbers.
use Rattle.std.specs.Prelude.{ℕ, suc, Bool, not, ◌||◌, nat_lt, List, [], ◌∷◌, length, map, flat_map, take, if◌then◌else◌}
use Rattle.ms_flow.specs.declared.graphs.Graph.{Graph}
use Rattle.ms_flow.specs.declared.graphs.Use.{Use}
use Rattle.ms_ir.specs.declared.syntax.Name.{Name}
use Rattle.ms_ir.specs.declared.syntax.Block.{Block}
use Rattle.ms_ir.specs.declared.syntax.Func.{Func}
use Rattle.ms_ir.specs.Names.{name_eq}
use Rattle.ms_ir.specs.Equal.{has_name}
use Rattle.ms_ir.specs.Locals.{results, block_locals}
use Rattle.ms_check_valid.specs.Paths.{block_successors, ValueUse, insts_of}

-- the place of a name in a list, and the length where it isn't there
abbrev pub name_place : List Name → Name → ℕ
name_place [] x = 0
name_place (y ∷ rest) x = if name_eq y x then 0 else suc (name_place rest x)

-- the names of blocks and results, as they stand
abbrev pub value_names : Func → List Name
value_names f = flat_map block_locals f.blocks

-- the number of a value of a function
abbrev pub value_number : Func → Name → ℕ
value_number f x = name_place (value_names f) x

-- the numbers of the values that a block defines
abbrev pub block_numbers : Func → Block → List ℕ
block_numbers f b = map (value_number f) (results b.insts)

-- the graph of a function
abbrev pub graph_of : Func → Graph
graph_of f = record { next = map (block_successors f) f.blocks; defs = map (block_numbers f) f.blocks }

-- whether the definitions of its block stand before a use: all do at the block's end, and else those are looked at that do
abbrev pub stands_after : Func → ValueUse → Bool
stands_after f u = not (nat_lt u.place (length (insts_of f u.block))) || has_name (results (take u.place (insts_of f u.block))) u.name

-- a use of a value
abbrev pub flow_use : Func → ValueUse → Use
flow_use f u = record { block = u.block; value = value_number f u.name; after = stands_after f u }
