-- The edges into blocks, by numbers of blocks (own). What the crate promises does not name this file.
use Rattle.std.specs.Prelude.{◌≡◌, ◌<◌, ◌++◌, ℕ, List, [], ◌∷◌, nat_eq, map, flat_map, length, if◌then◌else◌, slice_index_or}
use Rattle.ms_ir.specs.declared.syntax.Name.{Name}
use Rattle.ms_ir.specs.declared.syntax.Block.{Block}
use Rattle.ms_ir.specs.declared.syntax.Func.{Func}
use Rattle.ms_ir.specs.Written.{block_targets}
use Rattle.ms_check_valid.specs.FlowGraph.{name_place}
use Rattle.ms_ir.specs.Locals.{block_names}
use Rattle.ms_check_flow.specs.declared.edges.Edges.{Edges}

-- the block from which an edge leads to the block `to`, once for each of the targets that is this block
abbrev pub edges_to : (from : ℕ) → List ℕ → (to : ℕ) → List ℕ
edges_to from targets to = flat_map (λ t. if nat_eq t to then from ∷ [] else []) targets

-- the blocks from which edges lead to the block `to`, once for each edge
abbrev pub arrivals : (Name → ℕ) → List Block → (to : ℕ) → List ℕ
arrivals number blocks to = flat_map (λ b. edges_to (number b.name) (map number (block_targets b)) to) blocks

-- each list was continued by what is added to it
pub record Joined (added : ℕ → List ℕ) (before after : List (List ℕ)) : Type 0 where
  pub len : length after ≡ length before
  pub rows : (to : ℕ) → to < length before → slice_index_or after to [] ≡ slice_index_or before to [] ++ added to

-- the names of a function's blocks, and the edges into each
pub record AreEdgesOf (f : Func) (e : Edges) : Type 0 where
  pub names : e.blocks ≡ block_names f
  pub len : length e.arrivals ≡ length f.blocks
  pub rows : (to : ℕ) → to < length f.blocks → slice_index_or e.arrivals to [] ≡ arrivals (name_place (block_names f)) f.blocks to
