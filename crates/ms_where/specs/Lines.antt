-- The lines that show where each site stands: in its text, and in the source that the debug information names.
use Rattle.std.specs.Prelude.{ℕ, ◌+◌, ◌-◌, ◌==◌, nat_lt, if◌then◌else◌, List, [], ◌++◌, map, slice_get, Option, Some, None, codes}
use Rattle.std.specs.Option.{option_and_then, unwrap_or}
use Rattle.ms_lex.specs.Tokens.{Text}
use Rattle.ms_ir.specs.declared.syntax.Module.{Module}
use Rattle.ms_where_places.specs.declared.marks.Mark.{Mark}
use Rattle.ms_where_places.specs.Told.{Told, mark_at}
use Rattle.ms_where.specs.Variables.{record_of}
use Rattle.ms_where.specs.Nodes.{field, name_in}
use Rattle.ms_where.specs.Positions.{location_lines}
use Rattle.ms_where.specs.Sites.{site_places}
use Rattle.ms_where.specs.Shown.{text_line}

-- The name of the variable that a record declares, as `#dbg_declare(ptr %2, !20, !DIExpression(), !21)`: its token 5 names the node of
-- the variable, where it has so many.
abbrev pub variable_name : Told → Mark → Option Text
variable_name d r = if nat_lt (r.first + 5) r.after then name_in d (r.first + 5) else None

-- the lines of that variable: the last token of the record but one names its location
abbrev pub variable_lines : Told → (declared : Option Mark) → List ℕ
variable_lines d None = []
variable_lines d (Some r) = location_lines d (variable_name d r) (r.after - 2)

-- the lines of the location that this token names, or else of the variable that the instruction at this place is about
abbrev pub source_lines_by : Told → (place : ℕ) → (location : Option ℕ) → List ℕ
source_lines_by d place (Some token) = location_lines d None token
source_lines_by d place None = variable_lines d (option_and_then (mark_at d) (record_of d place))

-- The lines of an instruction in the source: by the location that is attached to it, or else, of an `alloca` or a `store`, by its variable.
unfoldable pub source_lines : Told → (place : ℕ) → Mark → List ℕ
source_lines d place m = source_lines_by d place (field d (codes "!dbg") m)

abbrev pub lines_of_mark : (file : Text) → Told → (place : ℕ) → Option Mark → List ℕ
lines_of_mark file d place None = []
lines_of_mark file d place (Some m) = text_line file d m ++ source_lines d place m

-- the lines of the instruction whose mark has this place
unfoldable pub lines_of_instruction : (file : Text) → Told → (place : ℕ) → List ℕ
lines_of_instruction file d place = lines_of_mark file d place (mark_at d place)

-- the lines of each site of a module, from site 1 on
abbrev pub lines_of_sites : (file : Text) → Told → Module → List (List ℕ)
lines_of_sites file d m = map (lines_of_instruction file d) (site_places m d.marks)

-- those of one site, or none where there is no such site
abbrev pub lines_at : List (List ℕ) → (site : ℕ) → List ℕ
lines_at lines site = if site == 0 then [] else unwrap_or (slice_get lines (site - 1)) []

-- the lines of a site of a module, the text of which stands in a file of this name
unfoldable pub lines_of_site : (file : Text) → Told → Module → (site : ℕ) → List ℕ
lines_of_site file d m = lines_at (lines_of_sites file d m)
