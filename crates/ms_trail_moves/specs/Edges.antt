-- What a phi is read from (own).
use Rattle.std.specs.Prelude.{ℕ, ◌+◌, List, [], ◌∷◌}
use Rattle.ms_ir.specs.declared.syntax.Name.{Name}
use Rattle.ms_ir.specs.declared.syntax.Ty.{Ty}
use Rattle.ms_ir.specs.declared.syntax.Operand.{Operand}
use Rattle.ms_ir.specs.Instructions.{one_undef}
use Rattle.ms_runs.specs.Control.{read_edge}
use Rattle.ms_trail_moves.specs.declared.moves.Source.{Source}
use Rattle.ms_trail_moves.specs.declared.moves.Source.TheVariants.{Root}
use Rattle.ms_trail_moves.specs.Sources.{operand_source}

-- how many edges' operands are roots
abbrev pub count_edges : List (Operand × Name) → ℕ
count_edges [] = 0
count_edges (e ∷ es) = one_undef e.0 + count_edges es

-- the source that the first edge from a block reads, before which so many roots stand
abbrev pub edge_source : (frame : ℕ) → Ty → Name → List (Operand × Name) → ℕ → Source
edge_source frame t from edges n = read_edge (λ k u o. operand_source frame k o) (Root 0) t from edges n
