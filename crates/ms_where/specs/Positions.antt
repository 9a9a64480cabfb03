-- Positions in the source (LLVM Language Reference, "Specialized Metadata Nodes": `DILocation`, `DILexicalBlock`, `DISubprogram`, `DIFile`),
-- and the lines that show them.
use Rattle.std.specs.Prelude.{ℕ, zero, suc, Bool, ◌||◌, ◌&&◌, not, nat_lt, ◌==◌, if◌then◌else◌, List, [], ◌∷◌, ◌++◌, map, flat_map, Option, Some, None, option_map, option_and_then, codes, decimal}
use Rattle.std.specs.Option.{is_some}
use Rattle.std.specs.List.{find}
use Rattle.ms_lex.specs.Tokens.{Text}
use Rattle.ms_where_places.specs.declared.marks.Mark.{Mark}
use Rattle.ms_where_places.specs.Told.{Told}
use Rattle.ms_where.specs.declared.positions.Position.{Position}
use Rattle.ms_where.specs.Nodes.{field, node_of, node_in, number_in, string_in}

-- how many scopes, and how many calls that were inlined, are followed, so that a cycle ends
unfoldable pub most : ℕ
most = 64

-- a node, the one that its field of this name leads to, and so on, at most so many
unfoldable pub along : Told → (word : Text) → ℕ → Option Mark → List Mark
along d word zero start = []
along d word (suc n) None = []
along d word (suc n) (Some m) = m ∷ along d word n (node_in d word m)

-- the file of a scope: its own, or that of the nearest scope around it that has one
unfoldable pub file_of : Told → (scope : Option Mark) → Option Mark
file_of d scope = option_and_then (node_in d (codes "file:")) (find (λ m. is_some (field d (codes "file:") m)) (along d (codes "scope:") most scope))

-- the name of that file
unfoldable pub file_name_of : Told → (scope : Option Mark) → Option Text
file_name_of d scope = option_and_then (string_in d (codes "filename:")) (file_of d scope)

-- a location with a line
unfoldable pub is_location : Told → Mark → Bool
is_location d m = is_some (field d (codes "!DILocation") m) && not (number_in d (codes "line:") m == 0)

-- the position of a location that has a line and a file
unfoldable pub position : Told → Mark → Option Position
position d m =
    if is_location d m then option_map (λ name. record { file = name; line = number_in d (codes "line:") m; column = number_in d (codes "column:") m })
    (file_name_of d (node_in d (codes "scope:") m))
    else None

-- ---- as text

-- a byte, or a question mark for one that isn't printed
unfoldable pub printed : ℕ → ℕ
printed b = if nat_lt b 32 || b == 127 then 63 else b

abbrev pub column_text : ℕ → Text
column_text column = if column == 0 then [] else 58 ∷ decimal column

-- a position, as `unset.c:5:7`
unfoldable pub position_text : Position → Text
position_text p = map printed p.file ++ 58 ∷ decimal p.line ++ column_text p.column

abbrev pub remark_text : Option Text → Text
remark_text None = []
remark_text (Some remark) = codes ": " ++ map printed remark

-- a position in a line of its own, with what is said of it
unfoldable pub position_line : (remark : Option Text) → Position → List ℕ
position_line remark p = codes "    " ++ position_text p ++ remark_text remark ++ 10 ∷ []

abbrev pub line_if : (remark : Option Text) → Option Position → List ℕ
line_if remark None = []
line_if remark (Some p) = position_line remark p

-- the line of a location's own position, if it has one
unfoldable pub line_of : Told → (remark : Option Text) → Mark → List ℕ
line_of d remark m = line_if remark (position d m)

-- the lines of the calls that something was inlined at, innermost first
unfoldable pub call_lines : Told → Option Mark → List ℕ
call_lines d call = flat_map (line_of d (Some (codes "inlined here"))) (along d (codes "inlinedAt:") most call)

abbrev pub lines_if : Told → (name : Option Text) → Option Mark → List ℕ
lines_if d name None = []
lines_if d name (Some m) = line_of d name m ++ call_lines d (node_in d (codes "inlinedAt:") m)

-- The lines of the location that a token names: its own position, with the name of the variable that is declared there if one is given, and
-- the calls that it was inlined at.
unfoldable pub location_lines : Told → (name : Option Text) → (token : ℕ) → List ℕ
location_lines d name token = lines_if d name (node_of d token)
