-- The uses of values that the walk over a function notes (own). What the crate promises does not name this file.
use Rattle.std.specs.Prelude.{◌≡◌, ℕ, ◌+◌, Bool, true, List, [], ◌∷◌, ◌++◌, flat_map, if◌then◌else◌, option_to_list}
use Rattle.ms_ir.specs.declared.syntax.Name.{Name}
use Rattle.ms_ir.specs.declared.syntax.Operand.{Operand}
use Rattle.ms_ir.specs.declared.syntax.Operand.TheVariants as operand
use Rattle.ms_ir.specs.declared.syntax.Op.{Op}
use Rattle.ms_ir.specs.declared.syntax.Op.TheVariants as op
use Rattle.ms_ir.specs.declared.syntax.Inst.{Inst}
use Rattle.ms_ir.specs.declared.syntax.Block.{Block}
use Rattle.ms_ir.specs.declared.syntax.Func.{Func}
use Rattle.ms_ir.specs.Instructions.{operands, one_unmarked, over_insts}
use Rattle.ms_ir.specs.Equal.{has_name}
use Rattle.ms_ir.specs.Locals.{block_names, parameter_names}
use Rattle.ms_check_valid.specs.FlowGraph.{name_place, value_names, graph_of}
use Rattle.ms_check_flow.specs.declared.numbers.Numbers.{Numbers}
use Rattle.ms_check_flow.specs.declared.inst_uses.NotedUse.{NotedUse}
use Rattle.ms_check_flow.specs.declared.inst_uses.UseSite.{UseSite}
use Rattle.ms_check_flow.specs.declared.func_uses.FuncUses.{FuncUses}

-- the numbers of a function
abbrev pub numbers_in : Func → Numbers
numbers_in f = record { blocks = block_names f; values = value_names f; parameters = parameter_names f }

-- the use of a value, unless it is a parameter
abbrev pub value_noted : Numbers → (site block : ℕ) → (after : Bool) → Name → List NotedUse
value_noted n site block after x =
    if has_name n.parameters x then [] else record { site = site; place = record { block = block; value = name_place n.values x; after = after } } ∷ []

-- the use that an operand is, where the results before it in its block are `seen`
abbrev pub operand_noted : Numbers → List Name → (block site : ℕ) → Operand → List NotedUse
operand_noted n seen block site (operand.Local x) = value_noted n site block (has_name seen x) x
operand_noted n seen block site o = []

-- the use that an operand is at the end of a block
abbrev pub last_noted : Numbers → (site block : ℕ) → Operand → List NotedUse
last_noted n site block (operand.Local x) = value_noted n site block true x
last_noted n site block o = []

-- the use that a phi's operand is: at the end of the block that it names
abbrev pub edge_noted : Numbers → ℕ → Operand × Name → List NotedUse
edge_noted n site e = last_noted n site (name_place n.blocks e.1) e.0

-- the uses of an instruction
abbrev pub op_noted : Numbers → List Name → (block site : ℕ) → Op → List NotedUse
op_noted n seen block site (op.Phi t edges) = flat_map (edge_noted n site) edges
op_noted n seen block site o = flat_map (λ a. operand_noted n seen block site a.1) (operands o)

-- those of instructions of a block
abbrev pub insts_noted : Numbers → List Name → (block site : ℕ) → List Inst → List NotedUse
insts_noted n seen block site [] = []
insts_noted n seen block site (inst ∷ rest) =
    op_noted n seen block site inst.op ++ insts_noted n (seen ++ option_to_list inst.result) block (site + one_unmarked inst) rest

-- those of blocks, the first of which has a number
abbrev pub blocks_noted : Numbers → (block site : ℕ) → List Block → List NotedUse
blocks_noted n block site [] = []
blocks_noted n block site (b ∷ rest) =
    insts_noted n [] block site b.insts ++ blocks_noted n (block + 1) (site + over_insts one_unmarked b.insts) rest

-- what is asked about a function, the first instruction of which has a site
pub record AreAskedOf (f : Func) (site : ℕ) (a : FuncUses) : Type 0 where
  pub graph : a.graph ≡ graph_of f
  pub noted : a.noted.items ≡ blocks_noted (numbers_in f) 0 site f.blocks

-- the same where the code stands
abbrev pub value_here : UseSite → (block : ℕ) → (after : Bool) → Name → List NotedUse
value_here here block after x = value_noted here.numbers.now here.site block after x

abbrev pub operand_here : UseSite → Operand → List NotedUse
operand_here here o = operand_noted here.numbers.now here.seen.now here.block here.site o

abbrev pub edge_here : UseSite → Operand × Name → List NotedUse
edge_here here e = edge_noted here.numbers.now here.site e

abbrev pub op_here : UseSite → Op → List NotedUse
op_here here o = op_noted here.numbers.now here.seen.now here.block here.site o
