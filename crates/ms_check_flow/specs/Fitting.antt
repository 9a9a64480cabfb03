-- A phi's edges against those into its block, by numbers of blocks (own). What the crate promises does not name this file.
use Rattle.std.specs.Prelude.{◌≡◌, ◌<◌, ℕ, List, true, length, map, All, Some, slice_get, slice_index, vec_len}
use Rattle.ms_ir.specs.declared.syntax.Name.{Name}
use Rattle.ms_ir.specs.declared.syntax.Operand.{Operand}
use Rattle.ms_ir.specs.Equal.{operand_eq}
use Rattle.ms_check_valid.specs.FlowGraph.{name_place}
use Rattle.ms_check_flow.specs.Counted.{count_of}
use Rattle.ms_check_flow.specs.declared.phis.Notes.{Notes}

-- the edges before a place that have the same number have equal operands, each with those before it
abbrev pub AgreeBelow : ℕ → List (Operand × Name) → List ℕ → Type 0
AgreeBelow n edges numbers =
    (i j : ℕ) (e d : Operand × Name) → i < j → j < n → slice_get edges i ≡ Some e → slice_get edges j ≡ Some d
    → slice_index numbers i ≡ slice_index numbers j → operand_eq d.0 e.0 ≡ true

-- edges with the same number have equal operands
abbrev pub Agree : List (Operand × Name) → List ℕ → Type 0
Agree edges numbers = AgreeBelow (length edges) edges numbers

-- the edges name blocks, each as often as an edge leads from it, and agree
pub record FitsRow (names : List Name) (blocks : ℕ) (row : List ℕ) (edges : List (Operand × Name)) : Type 0 where
  pub known : All (λ n. n < blocks) (map (λ e. name_place names e.1) edges)
  pub counts : (k : ℕ) → count_of k (map (λ e. name_place names e.1) edges) ≡ count_of k row
  pub agree : Agree edges (map (λ e. name_place names e.1) edges)

-- notes on so many blocks, with no edge that is due
pub record IsClear (blocks : ℕ) (notes : Notes) : Type 0 where
  pub due_len : vec_len notes.due ≡ blocks
  pub last_len : vec_len notes.last ≡ blocks
  pub clear : (k : ℕ) → slice_index notes.due.items k ≡ 0
