-- Each phi has an operand for each edge into its block, and no branch goes to the entry block (LLVM Language Reference,
-- "'phi' Instruction", "Functions"; own: a phi that names a block twice has equal operands for it).
use Rattle.std.specs.Prelude.{ℕ, ◌+◌, Bool, true, not, ◌&&◌, ◌||◌, nat_eq, List, [], ◌∷◌, ◌++◌, map, count_by, if◌then◌else◌}
use Rattle.std.specs.List.{list_all}
use Rattle.ms_ir.specs.declared.syntax.Name.{Name}
use Rattle.ms_ir.specs.declared.syntax.Operand.{Operand}
use Rattle.ms_ir.specs.declared.syntax.Op.{Op}
use Rattle.ms_ir.specs.declared.syntax.Op.TheVariants as op
use Rattle.ms_ir.specs.declared.syntax.Block.{Block}
use Rattle.ms_ir.specs.declared.syntax.Func.{Func}
use Rattle.ms_ir.specs.declared.syntax.Module.{Module}
use Rattle.ms_ir.specs.Names.{name_eq}
use Rattle.ms_ir.specs.Equal.{has_name, operand_eq}
use Rattle.ms_ir.specs.Written.{targets, block_targets}
use Rattle.ms_ir.specs.Spots.{Spot, found_at_insts}
use Rattle.ms_ir.specs.Locals.{block_names, block_name_at, entry_name}

-- how often a name stands in a list
abbrev pub count_name : Name → List Name → ℕ
count_name x names = count_by (λ y. name_eq y x) names

-- the number of edges from the blocks with a name to the block `to`
abbrev pub edges_between : List Block → Name → Name → ℕ
edges_between [] from to = 0
edges_between (b ∷ rest) from to = (if name_eq b.name from then count_name to (block_targets b) else 0) + edges_between rest from to

-- edges that name one block have equal operands
abbrev pub edges_agree : List (Operand × Name) → Bool
edges_agree [] = true
edges_agree (e ∷ rest) = list_all (λ d. not (name_eq d.1 e.1) || operand_eq d.0 e.0) rest && edges_agree rest

-- the phi of the block `to` with these edges names each block as often as that has edges to its block
abbrev pub phi_fits : Func → Name → List (Operand × Name) → Bool
phi_fits f to edges =
    list_all (λ from. nat_eq (count_name from (map (λ e. e.1) edges)) (edges_between f.blocks from to)) (map (λ e. e.1) edges ++ block_names f)
    && edges_agree edges

-- a phi fits its block, and a terminator doesn't go to the entry block
abbrev pub edges_fit : Spot → Op → Bool
edges_fit at (op.Phi t edges) = phi_fits at.func (block_name_at at.func at.block) edges
edges_fit at o = not (has_name (targets o) (entry_name at.func))

-- the sites of phis that don't fit, and of branches to the entry block, in text order
abbrev pub bad_edges : Module → List ℕ
bad_edges m = found_at_insts (λ at inst. if edges_fit at inst.op then [] else at.site ∷ []) m
