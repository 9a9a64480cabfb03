-- The rows of a function's graph, by the numbers of its blocks and values.
use Rattle.std.proofs.Common.{◌≡◌, ℕ, List, [], ◌∷◌, refl, ap, ◌∙◌}
use Rattle.std.specs.Prelude.{map}
use Rattle.std.proofs.Math.Path.{ap₂}
use Rattle.ms_flow.specs.declared.graphs.Graph.{Graph}
use Rattle.ms_ir.specs.declared.syntax.Name.{Name}
use Rattle.ms_ir.specs.declared.syntax.Block.{Block}
use Rattle.ms_ir.specs.declared.syntax.Func.{Func}
use Rattle.ms_ir.specs.Instructions.{block_index}
use Rattle.ms_ir.specs.Locals.{block_names}
use Rattle.ms_ir.specs.Written.{block_targets}
use Rattle.ms_check_valid.specs.FlowGraph.{name_place, graph_of}
use Rattle.ms_check_valid.specs.Paths.{block_successors}
use Rattle.ms_check_valid.proofs.NamePlaces.{index_is}
use Rattle.ms_check_flow.specs.declared.numbers.Numbers.{Numbers}
use Rattle.ms_check_flow.specs.Numbered.{AreNumbersOf, next_row, defs_row}

indices_are : (blocks : List Block) (xs : List Name) → map (name_place (map (λ b. b.name) blocks)) xs ≡ map (block_index blocks) xs
indices_are blocks [] = refl
indices_are blocks (x ∷ xs) = ap₂ (λ n l. n ∷ l) (index_is blocks x) (indices_are blocks xs)

next_is : (f : Func) (blocks : List Block) → map (next_row (block_names f)) blocks ≡ map (block_successors f) blocks
next_is f [] = refl
next_is f (b ∷ rest) = ap₂ (λ r l. r ∷ l) (indices_are f.blocks (block_targets b)) (next_is f rest)

abbrev graph_with : (next defs : List (List ℕ)) → Graph
graph_with next defs = record { next = next; defs = defs }

-- the graph by the numbers of a function is that of the function
pub graph_is : (f : Func) (n : Numbers) (next defs : List (List ℕ)) → AreNumbersOf f n → next ≡ map (next_row n.blocks) f.blocks → defs ≡ map (defs_row n.values) f.blocks
    → graph_with next defs ≡ graph_of f
graph_is f n next defs are nexts defines =
    ap₂ graph_with
    (nexts ∙ ap (λ names. map (next_row names) f.blocks) are.blocks ∙ next_is f f.blocks)
    (defines ∙ ap (λ names. map (defs_row names) f.blocks) are.values)
