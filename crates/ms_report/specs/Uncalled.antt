-- Texts without the lines that tell of calls.
use Rattle.std.specs.Prelude.{ℕ, Bool, ◌||◌, nat_eq, if◌then◌else◌, List, [], codes}
use Rattle.std.specs.List.{flat_map, starts_with}
use Rattle.ms_where_places.specs.Indented.{lines_of}

-- a line names a call, or tells how many more there are
abbrev pub tells_call : List ℕ → Bool
tells_call line = starts_with nat_eq line (codes "  called at ") || starts_with nat_eq line (codes "  started at ") || starts_with nat_eq line (codes "  more calls: ")

-- a line, unless it tells of calls
abbrev pub unless_call : List ℕ → List ℕ
unless_call line = if tells_call line then [] else line

-- a text without its lines that tell of calls
abbrev pub uncalled : List ℕ → List ℕ
uncalled text = flat_map unless_call (lines_of text)
