-- The nodes of metadata of a text and their fields (LLVM Language Reference, "Metadata"). Everything here is total: what isn't there is
-- `None`.
use Rattle.std.specs.Prelude.{ℕ, ◌+◌, ◌-◌, ◌^◌, Bool, false, ◌&&◌, nat_lt, ◌==◌, if◌then◌else◌, [], ◌∷◌, length, Option, Some, None, option_map, option_and_then, unwrap_or, codes}
use Rattle.std.specs.List.{find, range_with_len}
use Rattle.std.specs.Str.{bytes_eq}
use Rattle.ms_lex.specs.declared.kinds.Kind.{Kind}
use Rattle.ms_lex.specs.declared.kinds.Kind.TheVariants as k
use Rattle.ms_lex.specs.Tokens.{Text, is_digits}
use Rattle.ms_lex.specs.Names.{decoded}
use Rattle.ms_lex.specs.Numbers.{decimal}
use Rattle.ms_where_places.specs.declared.marks.MarkKind.{MarkKind}
use Rattle.ms_where_places.specs.declared.marks.MarkKind.TheVariants as what
use Rattle.ms_where_places.specs.declared.marks.Mark.{Mark}
use Rattle.ms_where_places.specs.Told.{Told, lexeme_at, spelling_at}

-- the first of the tokens from one number up to another that is spelled so
unfoldable pub first_spelled : Told → (word : Text) → (from to : ℕ) → Option ℕ
first_spelled d word from to = find (λ token. bytes_eq (spelling_at d token) word) (range_with_len from (to - from))

-- the number of the token after the first one of a mark's tokens that is spelled so: the value of a field, as of `scope:`
unfoldable pub field : Told → (word : Text) → Mark → Option ℕ
field d word m = option_map (λ token. token + 1) (first_spelled d word m.first m.after)

-- ---- nodes

-- the number that digits spell, where 64 bits have it
unfoldable pub small_number : Text → Option ℕ
small_number digits = if is_digits digits && nat_lt (decimal digits) (2 ^ 64) then Some (decimal digits) else None

-- the number in the name of a node, as in `!5`
unfoldable pub node_number : Text → Option ℕ
node_number [] = None
node_number (b ∷ digits) = if b == 33 then small_number digits else None

abbrev pub number_if : MarkKind → Option ℕ → Option ℕ
number_if what.Node number = number
number_if kind number = None

-- the number of the node that a mark is
abbrev pub number_of : Told → Mark → Option ℕ
number_of d m = number_if m.kind (node_number (spelling_at d m.first))

abbrev pub is_number : ℕ → Option ℕ → Bool
is_number n None = false
is_number n (Some found) = found == n

-- The first node with a number. LLVM numbers its nodes from 0 on, so only numbers below that of the marks are looked for.
unfoldable pub node : Told → ℕ → Option Mark
node d n = if nat_lt n (length d.marks) then find (λ m. is_number n (number_of d m)) d.marks else None

-- the node that a token names
unfoldable pub node_of : Told → (token : ℕ) → Option Mark
node_of d token = option_and_then (node d) (node_number (spelling_at d token))

-- ---- values of fields

-- the node that a field names
unfoldable pub node_in : Told → (word : Text) → Mark → Option Mark
node_in d word m = option_and_then (node_of d) (field d word m)

-- the number in a field, or else 0
unfoldable pub number_in : Told → (word : Text) → Mark → ℕ
number_in d word m = unwrap_or (option_and_then (λ token. small_number (spelling_at d token)) (field d word m)) 0

abbrev pub string_by : Kind → Text → Option Text
string_by k.Str spelling = Some (decoded spelling)
string_by kind spelling = None

-- the string that a token is, with its escapes undone
unfoldable pub string_at : Told → (token : ℕ) → Option Text
string_at d token = string_by (lexeme_at d token).kind (spelling_at d token)

-- the string in a field
unfoldable pub string_in : Told → (word : Text) → Mark → Option Text
string_in d word m = option_and_then (string_at d) (field d word m)

-- the name of what the node describes that a token names
unfoldable pub name_in : Told → (token : ℕ) → Option Text
name_in d token = option_and_then (string_in d (codes "name:")) (node_of d token)
