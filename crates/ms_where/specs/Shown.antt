-- The line of an instruction in its text (LLVM Language Reference, "Metadata": what is attached to an instruction stands after
-- commas, and begins with `!`).
use Rattle.std.specs.Prelude.{ℕ, ◌+◌, ◌-◌, Bool, false, ◌&&◌, ◌||◌, ◌==◌, nat_lt, min, if◌then◌else◌, List, [], ◌∷◌, ◌++◌, length, map, take, find, position, count_by, slice_get, slice_range, Option, Some, None, unwrap_or, codes, decimal}
use Rattle.std.specs.List.{range_with_len}
use Rattle.std.specs.Str.{bytes_eq}
use Rattle.ms_lex.specs.declared.kinds.Token.{Token}
use Rattle.ms_lex.specs.Tokens.{Text, is_newline}
use Rattle.ms_where_places.specs.declared.marks.Mark.{Mark}
use Rattle.ms_where_places.specs.Told.{Told, spelling_at}
use Rattle.ms_where_places.specs.Indented.{indented}
use Rattle.ms_where.specs.Positions.{printed}

-- ---- the number of the line

-- the newlines of a text in front of a place
abbrev pub newlines_before : Text → ℕ → ℕ
newlines_before text place = count_by is_newline (take place text)

-- those in front of each token
abbrev pub newlines_before_tokens : Text → List Token → List ℕ
newlines_before_tokens text tokens = map (λ t. newlines_before text t.start) tokens

-- ---- the bytes

abbrev pub begins_metadata : Text → Bool
begins_metadata [] = false
begins_metadata (b ∷ bytes) = b == 33

-- a comma that metadata follows
abbrev pub begins_attachment : Told → ℕ → Bool
begins_attachment d n = bytes_eq (spelling_at d n) (codes ",") && begins_metadata (spelling_at d (n + 1))

-- the number of the token after those of an instruction without what is attached to it
unfoldable pub shown_end : Told → Mark → ℕ
shown_end d m = unwrap_or (find (begins_attachment d) (range_with_len m.first (m.after - m.first))) m.after

-- the bytes from the start of one token up to the end of another
abbrev pub bytes_between : Text → Option Token → Option Token → Text
bytes_between text (Some first) (Some last) = slice_range text first.start last.end
bytes_between text first last = []

-- the bytes of an instruction without what is attached to it
unfoldable pub instruction_bytes : Told → Mark → Text
instruction_bytes d m = bytes_between d.text (slice_get d.tokens m.first) (slice_get d.tokens (shown_end d m - 1))

abbrev pub ends_line : ℕ → Bool
ends_line b = b == 10 || b == 13

-- how many of these bytes are shown: those of the first line, and at most a hundred
abbrev pub shown_length : Text → ℕ
shown_length bytes = min (unwrap_or (position ends_line bytes) (length bytes)) 100

-- bytes as they are shown, with two dots where some are cut off
unfoldable pub shown_bytes : Text → Text
shown_bytes bytes = map printed (take (shown_length bytes) bytes) ++ (if nat_lt (shown_length bytes) (length bytes) then codes " .." else [])

-- ---- the line

-- a line of a file with this number, and its bytes as they are shown
abbrev pub numbered_line : (file : Text) → (number : ℕ) → Text → List ℕ
numbered_line file number bytes = indented (map printed file ++ codes ":" ++ decimal number ++ codes ": " ++ shown_bytes bytes)

-- the line of an instruction after so many newlines; lines are counted from 1
abbrev pub line_after : (file : Text) → Told → Mark → (newlines : Option ℕ) → List ℕ
line_after file d m None = []
line_after file d m (Some newlines) = numbered_line file (newlines + 1) (instruction_bytes d m)

-- the line of an instruction in its text, the file of which has this name
unfoldable pub text_line : (file : Text) → Told → Mark → List ℕ
text_line file d m = line_after file d m (slice_get (newlines_before_tokens d.text d.tokens) m.first)
