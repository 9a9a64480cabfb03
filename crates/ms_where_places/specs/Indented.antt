-- Texts whose lines stand four blanks in, and other texts without such lines.
use Rattle.std.specs.Prelude.{◌≡◌, ℕ, Bool, true, not, nat_eq, ◌==◌, if◌then◌else◌, List, [], ◌∷◌, ◌++◌, codes}
use Rattle.std.specs.List.{flat_map, list_any, list_all, starts_with}

abbrev pub is_newline : ℕ → Bool
is_newline b = b == 10

abbrev pub has_no_newline : List ℕ → Bool
has_no_newline line = not (list_any is_newline line)

-- a line that stands four blanks in, with its newline
abbrev pub indented : List ℕ → List ℕ
indented line = codes "    " ++ line ++ codes "\n"

-- nothing, or lines that each begin with four blanks and end in their only newline
pub record IsIndented (text : List ℕ) : Type 0 where
  pub lines : List (List ℕ)
  pub single : list_all has_no_newline lines ≡ true
  pub whole : text ≡ flat_map indented lines

-- lines with a byte in front of the first one
abbrev pub in_front : ℕ → List (List ℕ) → List (List ℕ)
in_front b [] = (b ∷ []) ∷ []
in_front b (line ∷ lines) = (b ∷ line) ∷ lines

-- the lines of a text, each with its newline
abbrev pub lines_of : List ℕ → List (List ℕ)
lines_of [] = []
lines_of (b ∷ bytes) = if is_newline b then (b ∷ []) ∷ lines_of bytes else in_front b (lines_of bytes)

-- a line, unless it begins with four blanks
abbrev pub unless_indented : List ℕ → List ℕ
unless_indented line = if starts_with nat_eq line (codes "    ") then [] else line

-- a text without its lines that begin with four blanks
abbrev pub unindented : List ℕ → List ℕ
unindented text = flat_map unless_indented (lines_of text)
