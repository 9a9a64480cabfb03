-- Edges, gone over one after the other until one is that of a block.
use Rattle.std.proofs.Common.{◌≡◌, ◌+◌, ℕ, List, drop}
use Rattle.ms_ir.specs.declared.syntax.Name.{Name}
use Rattle.ms_ir.specs.declared.syntax.Ty.{Ty}
use Rattle.ms_ir.specs.declared.syntax.Operand.{Operand}
use Rattle.ms_trail_moves.specs.Edges.{count_edges, edge_source}

-- so many edges were passed, and `count` roots stand before the next one
pub record Passed (frame : ℕ) (from : Name) (es : List (Operand × Name)) (before i count : ℕ) : Type 0 where
  pub rest : (t : Ty) → edge_source frame t from (drop i es) count ≡ edge_source frame t from es before
  pub few : count + count_edges (drop i es) ≡ before + count_edges es
