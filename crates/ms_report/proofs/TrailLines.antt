-- The lines of a trail, from which those under each move are taken out.
use Rattle.std.proofs.Common.{◌≡◌, ◌+◌, ◌^◌, ◌++◌, ℕ, List, [], ◌∷◌, Option, Some, None, refl, sym, ap, subst, append-nil, codes}
use Rattle.std.specs.Prelude.{◌%◌, slice_get}
use Rattle.ms_ir.specs.declared.syntax.Name.{Name}
use Rattle.ms_ir.specs.declared.syntax.Module.{Module}
use Rattle.ms_runs.specs.declared.runs.Calls.{Calls}
use Rattle.ms_trail_moves.specs.declared.moves.Source.{Source}
use Rattle.ms_trail_moves.specs.declared.moves.Source.TheVariants.{Root, Value, Byte}
use Rattle.ms_trail_moves.specs.declared.moves.Target.{Target}
use Rattle.ms_trail_moves.specs.declared.moves.Target.TheVariants as target
use Rattle.ms_trail_moves.specs.declared.moves.Move.{Move}
use Rattle.ms_trail_moves.specs.declared.moves.Hop.{Hop}
use Rattle.ms_trail_moves.specs.Leads.{came_from}
use Rattle.ms_where_places.specs.Indented.{IsIndented, unindented}
use Rattle.ms_report.specs.RunTexts.{function_of}
use Rattle.ms_report.specs.WithLines.{Lines, no_lines}
use Rattle.ms_report.specs.TrailTexts.{value_text, byte_text, source_text, target_text, way_text, move_text, move_line, hop_with, hops_with, use_line, trail_with, trail_calling}
use Rattle.ms_report.proofs.Singles.{Single, literal, joined, of_number, of_hexadecimal, of_name, of_function}
use Rattle.ms_report.proofs.CallLines.{calls_leave}
use Rattle.ms_report.proofs.Indents.{Leaves, newline, line_after, nothing, whole, both, without, stays, goes}

-- ---- no newline stands in the parts

of_value : (frame : ℕ) (x : Name) → Single (value_text frame x)
of_value frame x = joined (joined (joined (literal (codes "%") refl) (of_name x)) (literal (codes " of frame ") refl)) (of_number frame)

of_byte : (a : ℕ) → Single (byte_text a)
of_byte a = joined (literal (codes "byte 0x") refl) (of_hexadecimal (a % 2 ^ 64))

pub of_source : (s : Source) → Single (source_text s)
of_source (Root n) = joined (literal (codes "root ") refl) (of_number n)
of_source (Value frame x) = of_value frame x
of_source (Byte a) = of_byte a

of_target : (t : Target) (k : ℕ) → Single (target_text t k)
of_target (target.Value frame x) k = of_value frame x
of_target (target.Bytes a n) k = of_byte (a + k)

pub of_way : (move : Move) (k : ℕ) → Single (way_text move k)
of_way move k = joined (joined (of_source (came_from move.from move.to k)) (literal (codes " to ") refl)) (of_target move.to k)

pub of_move : (m : Module) (index site : ℕ) → Single (move_text m index site)
of_move m index site =
    joined (joined (joined (joined (joined (joined (literal (codes "  move ") refl) (of_number index)) (literal (codes ": site ") refl)) (of_number site))
    (literal (codes " in ") refl)) (of_function (function_of m site))) (literal (codes ", ") refl)

-- ---- what is left of the lines

module _ (under : Lines) (all : (site : ℕ) → IsIndented (under site)) where
  move_stays : (m : Module) (index : ℕ) (move : Move) (k : ℕ) → Leaves (move_line m index move k) (move_line m index move k)
  move_stays m index move k = stays (move_line m index move k) (line_after (joined (of_move m index move.site) (of_way move k)) newline) refl

  hop_leaves : (m : Module) (hop : Hop) (found : Option Move) → Leaves (hop_with under m hop found) (hop_with no_lines m hop found)
  hop_leaves m hop None = nothing
  hop_leaves m hop (Some move) =
      let line = move_line m hop.index move hop.byte in
      subst (Leaves (line ++ under move.site)) (sym (append-nil line)) (without (move_stays m hop.index move hop.byte) (goes (under move.site) (all move.site)))

  hops_leave : (m : Module) (moves : List Move) (hops : List Hop) → Leaves (hops_with under m moves hops) (hops_with no_lines m moves hops)
  hops_leave m moves [] = nothing
  hops_leave m moves (hop ∷ rest) = both (hop_leaves m hop (slice_get moves hop.index)) (hops_leave m moves rest)

  use_stays : (at : Source) → Leaves (use_line at) (use_line at)
  use_stays at = stays (use_line at) (line_after (joined (literal (codes "  use: ") refl) (of_source at)) newline) refl

  pub trail_left : (m : Module) (moves : List Move) (at : Source) (hops : List Hop) → unindented (trail_with under m moves at hops) ≡ trail_with no_lines m moves at hops
  trail_left m moves at hops = whole (trail_with under m moves at hops) (trail_with no_lines m moves at hops) (both (hops_leave m moves hops) (use_stays at))

  pub trail_calling_left : (m : Module) (moves : List Move) (at : Source) (hops : List Hop) (calls : Option Calls)
      → unindented (trail_calling under m moves at hops calls) ≡ trail_calling no_lines m moves at hops calls
  trail_calling_left m moves at [] calls = whole (use_line at) (use_line at) (use_stays at)
  trail_calling_left m moves at (hop ∷ rest) calls =
      whole (trail_calling under m moves at (hop ∷ rest) calls) (trail_calling no_lines m moves at (hop ∷ rest) calls)
      (both (both (both (hop_leaves m hop (slice_get moves hop.index)) (calls_leave under all m calls)) (hops_leave m moves rest)) (use_stays at))

-- ---- calls

-- where none are told there are no lines of theirs
pub none_called_first : (under : Lines) (m : Module) (moves : List Move) (at : Source) (hops : List Hop) → trail_calling under m moves at hops None ≡ trail_with under m moves at hops
none_called_first under m moves at [] = refl
none_called_first under m moves at (hop ∷ rest) = ap (λ (t : List ℕ). t ++ hops_with under m moves rest ++ use_line at) (append-nil (hop_with under m hop (slice_get moves hop.index)))
