-- Moves of phis, by their masks (own).
use Rattle.std.specs.Prelude.{◌≡◌, ◌≤◌, ◌<◌, ◌+◌, ◌^◌, ℕ, List, [], ◌∷◌, ◌++◌, length, unwrap_or, Option, Some, slice_get}
use Rattle.ms_ir.specs.declared.syntax.Name.{Name}
use Rattle.ms_ir.specs.declared.syntax.Name.TheVariants.{Number}
use Rattle.ms_ir.specs.declared.syntax.Op.TheVariants as op
use Rattle.ms_ir.specs.declared.syntax.Inst.{Inst}
use Rattle.ms_ir.specs.Instructions.{operands, count_undefs, one_unmarked, roots_in}
use Rattle.ms_trail_moves.specs.declared.moves.Target.TheVariants.{Value}
use Rattle.ms_trail_moves.specs.declared.moves.Move.{Move}
use Rattle.ms_trail_moves.specs.Edges.{edge_source}
use Rattle.ms_trail_uses.specs.declared.tables.InstRow.{InstRow}
use Rattle.ms_trail.specs.Telling.{masked_move}

-- the moves of the phis that instructions begin with, whose masks are given; n roots and a site come before
abbrev pub phis_told : (event frame : ℕ) → (Name → Option ℕ) → Name → List Inst → (n site : ℕ) → (masks : List ℕ) → List Move
phis_told event frame func from (i ∷ is) n site (mask ∷ masks) =
    elim i.op [
      | op.Phi t edges ↦
          masked_move event site mask (edge_source frame t from edges n) (Value frame (unwrap_or i.result (Number 0)))
          ++ phis_told event frame func from is (n + roots_in func i) (site + one_unmarked i) masks
      | _ ↦ []
    ]
phis_told event frame func from _ n site _ = []

-- the rows of phis with these masks are there, with few roots, and there are sites before the one after them
pub record TellsPhis (rows : List InstRow) (first : ℕ) (masks : List ℕ) (after : ℕ) : Type 0 where
  pub there : (k : ℕ) → k < length masks → first + k < length rows
  pub few : (k : ℕ) (row : InstRow) → k < length masks → slice_get rows (first + k) ≡ Some row → row.roots + count_undefs (operands row.inst.now.op) < 2 ^ 32
  pub sites : length masks ≤ after
