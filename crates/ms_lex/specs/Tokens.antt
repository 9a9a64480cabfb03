-- The tokens of a text. A text is the list of its bytes.
use Rattle.std.specs.Prelude.{◌≡◌, ◌≢◌, ℕ, zero, suc, ◌+◌, ◌-◌, ◌≤◌, ◌<◌, ◌⊎◌, Bool, false, ◌||◌, ◌&&◌, ◌==◌, nat_lt, if◌then◌else◌, codes, List, [], ◌∷◌, length, take, drop, slice_index, Option, Some, None, Result, Ok, Err, Vec}
use Rattle.std.specs.declared.alloc.Global.{Global}
use Rattle.std.specs.List.{prefix_len, position, position_or_len, list_all, All, AllPairs}
use Rattle.std.specs.Option.{option_and_then, option_map, option_or}
use Rattle.std.specs.Char.{is_ascii_digit, is_ascii_alphabetic, is_ascii_alphanumeric}
use Rattle.ms_lex.specs.declared.kinds.Kind.{Kind}
use Rattle.ms_lex.specs.declared.kinds.Kind.TheVariants.{Label, CText, Str, Number, Word, Other, Local, Meta, Group, Punct}
use Rattle.ms_lex.specs.declared.kinds.Kind.TheVariants as kinds
use Rattle.ms_lex.specs.declared.kinds.Token.{Token}
use Rattle.ms_lex.specs.declared.errors.LexError.{LexError}
use Rattle.ms_lex.specs.declared.errors.LexError.TheVariants.{NoMemory, BadByte, OpenString, TooManyTokens}

abbrev pub Text : Type 0
Text = List ℕ

-- ---- Bytes

-- the byte is one of these
abbrev pub is_one_of : Text → ℕ → Bool
is_one_of [] byte = false
is_one_of (b ∷ bytes) byte = byte == b || is_one_of bytes byte

-- a space, a tab, a carriage return or a newline
abbrev pub is_blank : ℕ → Bool
is_blank b = b == 32 || b == 9 || b == 13 || b == 10

-- a letter, a digit, or one of - $ . _
abbrev pub is_name_byte : ℕ → Bool
is_name_byte b = is_ascii_alphanumeric b || is_one_of (codes "-$._") b

abbrev pub is_quote : ℕ → Bool
is_quote b = b == 34

abbrev pub is_newline : ℕ → Bool
is_newline b = b == 10

-- ---- Forms

-- How many bytes a form takes at the front of a text, where it fits there.
abbrev pub Form : Type 0
Form = Text → Option ℕ

-- one of these bytes
unfoldable pub one_of : Text → Form
one_of bytes [] = None
one_of bytes (b ∷ rest) = if is_one_of bytes b then Some 1 else None

-- one form directly followed by another
unfoldable pub followed_by : Form → Form → Form
followed_by first second text = option_and_then (λ n. option_map (λ m. n + m) (second (drop n text))) (first text)

-- one form, or else another
unfoldable pub or_else : Form → Form → Form
or_else first second text = option_or (first text) (second text)

-- a run: the longest list of name bytes, of one byte or more
unfoldable pub run : Form
run text = let n = prefix_len is_name_byte text in if n == 0 then None else Some n

-- a run whose bytes pass a test
unfoldable pub run_that : (Text → Bool) → Form
run_that test text = option_and_then (λ n. if test (take n text) then Some n else None) (run text)

-- the bytes up to the first quote, and that quote
unfoldable pub up_to_quote : Form
up_to_quote text = option_map (λ n. n + 1) (position is_quote text)

-- a quote, bytes other than quotes, and a quote
unfoldable pub string : Form
string = followed_by (one_of (codes "\"")) up_to_quote

-- what a name is written as: a run or a string
unfoldable pub name : Form
name = or_else run string

-- a digit or more
abbrev pub is_digits : Text → Bool
is_digits text = nat_lt 0 (length text) && list_all is_ascii_digit text

-- digits, with or without a minus sign in front
abbrev pub is_number : Text → Bool
is_number [] = false
is_number (b ∷ rest) = if b == 45 then is_digits rest else is_digits (b ∷ rest)

-- a letter or `_` in front
abbrev pub begins_word : Text → Bool
begins_word [] = false
begins_word (b ∷ rest) = is_ascii_alphabetic b || b == 95

-- the one byte `c`
abbrev pub is_c : Text → Bool
is_c [] = false
is_c (b ∷ []) = b == 99
is_c (b ∷ c ∷ rest) = false

-- ---- Kinds

-- a run or a string directly followed by `:`, which belongs to it
unfoldable pub label : Form
label = followed_by name (one_of (codes ":"))

-- the run `c` directly followed by a string
unfoldable pub c_text : Form
c_text = followed_by (run_that is_c) string

-- one of ( ) [ ] { } < > , = * ! |
abbrev pub punctuation : Text
punctuation = codes "()[]{}<>,=*!|"

-- The form of each kind of token. Where a form fits, none that stands after it is tried: so `!` is punctuation
-- only where no run is directly after it, and a word is a run that is part of no label.
abbrev pub table : List (Kind × Form)
table =
    (Label, label)
    ∷ (CText, c_text)
    ∷ (Str, string)
    ∷ (Number, run_that is_number)
    ∷ (Word, run_that begins_word)
    ∷ (Other, run)
    ∷ (kinds.Global, followed_by (one_of (codes "@")) name)
    ∷ (Local, followed_by (one_of (codes "%")) name)
    ∷ (Meta, followed_by (one_of (codes "!")) run)
    ∷ (Group, followed_by (one_of (codes "#")) run)
    ∷ (Punct, one_of punctuation)
    ∷ []

-- a kind, and how many bytes a token of it takes at the front of a text
abbrev pub Found : Type 0
Found = Option (Kind × ℕ)

abbrev pub or_next : Kind → Option ℕ → Found → Found
or_next kind (Some n) next = Some (kind, n)
or_next kind None next = next

-- the first form of the table that fits at the front of a text
unfoldable pub first_fit : List (Kind × Form) → Text → Found
first_fit [] text = None
first_fit (row ∷ rows) text = or_next row.0 (row.1 text) (first_fit rows text)

-- the token at the front of a text that begins with neither a blank nor a comment
unfoldable pub token_at : Text → Found
token_at = first_fit table

-- ---- Whole texts

-- The tokens of a text up to the first place where none begins, and that place, if there is one.
pub record Cut : Type 0 where
  pub tokens : List Token
  pub stop : Option ℕ

abbrev pub nothing : Cut
nothing = record { tokens = []; stop = None }

abbrev pub with_first : Token → Cut → Cut
with_first token rest = record { tokens = token ∷ rest.tokens; stop = rest.stop }

-- a token of n bytes at this place, and the text after its first byte
abbrev pub cut_at : Found → ℕ → (ℕ → Cut) → Cut
cut_at None place after = record { tokens = []; stop = Some place }
cut_at (Some found) place after = with_first (record { kind = found.0; start = place; end = place + found.1 }) (after (found.1 - 1))

-- The text from this place on. As many of its bytes as `left` says belong to the token or the comment in front of it.
-- Any other byte is a blank, begins a comment, which goes on up to the end of its line, or begins a token.
abbrev pub cut_from : ℕ → ℕ → Text → Cut
cut_from left place [] = nothing
cut_from (suc left) place (b ∷ rest) = cut_from left (place + 1) rest
cut_from zero place (b ∷ rest) =
    if is_blank b then cut_from 0 (place + 1) rest
    else if b == 59 then cut_from (position_or_len is_newline rest) (place + 1) rest
    else cut_at (token_at (b ∷ rest)) place (λ left. cut_from left (place + 1) rest)

unfoldable pub cut_of : Text → Cut
cut_of = cut_from 0 0

-- ---- Answers

-- Why no token begins at this byte, which stands at this place. At a quote a string begins there and doesn't end.
abbrev pub refusal_of : ℕ → ℕ → LexError
refusal_of byte place = if is_quote byte then OpenString place else BadByte place

abbrev pub unless_stopped : Text → List Token → Option ℕ → Result (List Token) LexError
unless_stopped text tokens None = Ok tokens
unless_stopped text tokens (Some place) = Err (refusal_of (slice_index text place) place)

-- The tokens of a text, of which there may be so many, or why it has none.
unfoldable pub tokens_of : Text → ℕ → Result (List Token) LexError
tokens_of text limit =
    if nat_lt limit (length (cut_of text).tokens) then Err TooManyTokens
    else unless_stopped text (cut_of text).tokens (cut_of text).stop

-- the answer of a call, unless memory ran out
abbrev pub GivesTokens : Result (List Token) LexError → Result (Vec Token Global) LexError → Type 0
GivesTokens answer (Ok found) = answer ≡ Ok found.items
GivesTokens answer (Err error) = error ≢ NoMemory → answer ≡ Err error

-- a call refuses for this reason exactly where the fact holds, unless memory ran out
abbrev pub RefusesExactly : Result (Vec Token Global) LexError → LexError → Type 0 → Type 0
RefusesExactly result reason Fact = (result ≡ Err reason → Fact) × (Fact → (result ≡ Err reason) ⊎ (result ≡ Err NoMemory))

-- the first place where no token begins, with at most so many tokens before it
pub record StopsAt (text : Text) (limit place : ℕ) : Type 0 where
  pub here : (cut_of text).stop ≡ Some place
  pub few : length (cut_of text).tokens ≤ limit

-- each token has a byte or more and lies within so many bytes, and none begins before the one in front of it ends
pub record InOrder (tokens : List Token) (size : ℕ) : Type 0 where
  pub within : All (λ t. (t.start < t.end) × (t.end ≤ size)) tokens
  pub ordered : AllPairs (λ a b. a.end ≤ b.start) tokens
