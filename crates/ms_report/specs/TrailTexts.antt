-- How the way is printed on which the bits of a report came: a line for each hop, from the root on, and one for what the use reads.
use Rattle.std.specs.Prelude.{ℕ, ◌+◌, ◌%◌, ◌^◌, List, [], ◌∷◌, ◌++◌, Option, Some, None, slice_get, codes, decimal}
use Rattle.ms_ir.specs.declared.syntax.Name.{Name}
use Rattle.ms_ir.specs.declared.syntax.Module.{Module}
use Rattle.ms_runs.specs.declared.runs.Calls.{Calls}
use Rattle.ms_trail_moves.specs.declared.moves.Source.{Source}
use Rattle.ms_trail_moves.specs.declared.moves.Source.TheVariants.{Root, Value, Byte}
use Rattle.ms_trail_moves.specs.declared.moves.Target.{Target}
use Rattle.ms_trail_moves.specs.declared.moves.Target.TheVariants as target
use Rattle.ms_trail_moves.specs.declared.moves.Move.{Move}
use Rattle.ms_trail_moves.specs.declared.moves.Hop.{Hop}
use Rattle.ms_trail_moves.specs.Leads.{came_from}
use Rattle.ms_text_grammar.specs.LayoutNames.{name_text}
use Rattle.ms_report.specs.RunTexts.{function_of, function_text}
use Rattle.ms_report.specs.ReportTexts.{hexadecimal}
use Rattle.ms_report.specs.WithLines.{Lines}
use Rattle.ms_report.specs.CallTexts.{calls_if}

-- ---- places

abbrev pub value_text : (frame : ℕ) → Name → List ℕ
value_text frame x = codes "%" ++ name_text x ++ codes " of frame " ++ decimal frame

-- an address has 64 bits
abbrev pub byte_text : ℕ → List ℕ
byte_text a = codes "byte 0x" ++ hexadecimal (a % 2 ^ 64)

abbrev pub source_text : Source → List ℕ
source_text (Root n) = codes "root " ++ decimal n
source_text (Value frame x) = value_text frame x
source_text (Byte a) = byte_text a

-- byte k of a target, spelled as a source is; a value is one place
abbrev pub target_text : Target → (k : ℕ) → List ℕ
target_text (target.Value frame x) k = value_text frame x
target_text (target.Bytes a n) k = byte_text (a + k)

-- ---- lines

-- what byte k of a move's target came from, and that byte
abbrev pub way_text : Move → (k : ℕ) → List ℕ
way_text move k = source_text (came_from move.from move.to k) ++ codes " to " ++ target_text move.to k

-- the number of a move, and where its instruction stands
abbrev pub move_text : Module → (index site : ℕ) → List ℕ
move_text m index site = codes "  move " ++ decimal index ++ codes ": site " ++ decimal site ++ codes " in " ++ function_text (function_of m site) ++ codes ", "

abbrev pub move_line : Module → (index : ℕ) → Move → (k : ℕ) → List ℕ
move_line m index move k = move_text m index move.site ++ way_text move k ++ codes "\n"

-- the line of a hop, and the lines under its move's site; none where no move has its number
abbrev pub hop_with : Lines → Module → Hop → Option Move → List ℕ
hop_with under m hop None = []
hop_with under m hop (Some move) = move_line m hop.index move hop.byte ++ under move.site

abbrev pub hops_with : Lines → Module → List Move → List Hop → List ℕ
hops_with under m moves [] = []
hops_with under m moves (hop ∷ rest) = hop_with under m hop (slice_get moves hop.index) ++ hops_with under m moves rest

abbrev pub use_line : Source → List ℕ
use_line at = codes "  use: " ++ source_text at ++ codes "\n"

-- the lines of hops over moves to what a use reads, and the line of that
abbrev pub trail_with : Lines → Module → List Move → Source → List Hop → List ℕ
trail_with under m moves at hops = hops_with under m moves hops ++ use_line at

-- the same, and below the first hop those of the calls that stood there, if they are told
abbrev pub trail_calling : Lines → Module → List Move → Source → List Hop → Option Calls → List ℕ
trail_calling under m moves at [] calls = use_line at
trail_calling under m moves at (hop ∷ rest) calls =
    hop_with under m hop (slice_get moves hop.index) ++ calls_if under m calls ++ hops_with under m moves rest ++ use_line at
