-- The format of 'printf' (C standard library, "The fprintf function"; own: which directives are taken, and that a format
-- with any other is bad).
use Rattle.std.specs.Prelude.{ℕ, zero, suc, ◌%◌, Bool, true, false, List, [], ◌∷◌, ◌++◌, length, take, drop, filter, get_or, eqb, if◌then◌else◌, Option, Some, None, option_map, Result, Ok, Err, codes, decimal}
use Rattle.std.specs.Fmt.{digits, signed_decimal}
use Rattle.ms_bits.specs.Signed.{signed}
use Rattle.ms_bits.specs.declared.traps.Trap.{Trap}
use Rattle.ms_bits.specs.declared.traps.Trap.TheVariants as trap
use Rattle.ms_ir.specs.declared.syntax.Ty.{Ty, Int, Ptr}
use Rattle.ms_ir.specs.Equal.{type_eq}
use Rattle.ms_runs.specs.declared.formats.Piece.{Piece}
use Rattle.ms_runs.specs.declared.formats.Piece.TheVariants.{Text, Dec32, Udec32, Hex32, Char, Str, Dec64, Udec64, Hex64}
use Rattle.ms_runs.specs.declared.formats.Cut.{Cut}

-- ---- the pieces of a format

-- the directives of one letter after `%`
abbrev pub letters : List (ℕ × Piece)
letters = (100, Dec32) ∷ (117, Udec32) ∷ (120, Hex32) ∷ (99, Char) ∷ (115, Str) ∷ (37, Text (37 ∷ [])) ∷ []

-- the directives of one letter after `%l`
abbrev pub long_letters : List (ℕ × Piece)
long_letters = (100, Dec64) ∷ (117, Udec64) ∷ (120, Hex64) ∷ []

-- the directive of a letter, if a table has it
abbrev pub lettered : List (ℕ × Piece) → ℕ → Option Piece
lettered [] b = None
lettered (row ∷ rows) b = if eqb row.0 b then Some row.1 else lettered rows b

-- the directive of the letter that bytes begin with, and the bytes after it
abbrev pub by_letter : List (ℕ × Piece) → List ℕ → Option (Piece × List ℕ)
by_letter rows [] = None
by_letter rows (b ∷ bs) = option_map (λ p. (p, bs)) (lettered rows b)

-- the directive that the bytes after a `%` begin with, and the bytes after it
abbrev pub directive : List ℕ → Option (Piece × List ℕ)
directive [] = None
directive (b ∷ bs) = if eqb b 108 then by_letter long_letters bs else by_letter letters (b ∷ bs)

-- how many bytes stand before the first `%`
abbrev pub plain_bytes : List ℕ → ℕ
plain_bytes [] = 0
plain_bytes (b ∷ bs) = if eqb b 37 then 0 else suc (plain_bytes bs)

-- a format of no pieces, bad or not
abbrev pub no_pieces : Bool → Cut
no_pieces bad = record { pieces = []; bad = bad }

-- a format with one more piece before it
abbrev pub with_piece : Piece → Cut → Cut
with_piece p c = record { pieces = p ∷ c.pieces; bad = c.bad }

-- the cut of a format of at most n bytes: a longest run of bytes other than `%` is one piece, and so is each directive;
-- it ends at a `%` that no directive follows
abbrev pub cut_within : ℕ → List ℕ → Cut
cut_within zero format = no_pieces false
cut_within (suc n) [] = no_pieces false
cut_within (suc n) (b ∷ bs) =
    if eqb b 37
    then elim (directive bs) [ Some d ↦ with_piece d.0 (cut_within n d.1) | None ↦ no_pieces true ]
    else with_piece (Text (b ∷ take (plain_bytes bs) bs)) (cut_within n (drop (plain_bytes bs) bs))

-- the pieces of a format, up to its bad place if there is one
abbrev pub cut_of : List ℕ → Cut
cut_of format = cut_within (length format) format

-- ---- their arguments

-- whether a piece takes an argument
abbrev pub takes_argument : Piece → Bool
takes_argument (Text bs) = false
takes_argument p = true

-- whether a piece is `%s`
abbrev pub is_string : Piece → Bool
is_string Str = true
is_string p = false

-- whether the directive of an argument is `%s`; the format itself is argument 0
abbrev pub asks_string : List ℕ → ℕ → Bool
asks_string format zero = false
asks_string format (suc k) = is_string (get_or (filter takes_argument (cut_of format).pieces) k (Text []))

-- each piece with its argument, where it takes one that is there; arguments are taken in order
abbrev pub with_arguments : List Piece → List (Ty × ℕ) → List (Piece × Option (Ty × ℕ))
with_arguments [] args = []
with_arguments (Text bs ∷ ps) args = (Text bs, None) ∷ with_arguments ps args
with_arguments (p ∷ ps) [] = (p, None) ∷ with_arguments ps []
with_arguments (p ∷ ps) (a ∷ args) = (p, Some a) ∷ with_arguments ps args

-- the type that a piece's argument must have
abbrev pub argument_type : Piece → Ty
argument_type Dec64 = Int 64
argument_type Udec64 = Int 64
argument_type Hex64 = Int 64
argument_type Str = Ptr
argument_type p = Int 32

-- ---- what is printed

-- what a piece prints for a word, given the string at each address
abbrev pub piece_text : (ℕ → Option (List ℕ)) → Piece → ℕ → Result (List ℕ) Trap
piece_text strings (Text bs) v = Ok bs
piece_text strings Dec32 v = Ok (signed_decimal (signed 32 v))
piece_text strings Udec32 v = Ok (decimal v)
piece_text strings Hex32 v = Ok (digits 16 false v)
piece_text strings Char v = Ok (v % 256 ∷ [])
piece_text strings Str v = elim (strings v) [ Some bs ↦ Ok bs | None ↦ Err trap.BadAddress ]
piece_text strings Dec64 v = Ok (signed_decimal (signed 64 v))
piece_text strings Udec64 v = Ok (decimal v)
piece_text strings Hex64 v = Ok (digits 16 false v)

-- what a piece prints with its argument; one that is missing, or of another type, is a fault of the format
abbrev pub shown : (ℕ → Option (List ℕ)) → Piece × Option (Ty × ℕ) → Result (List ℕ) Trap
shown strings (Text bs, a) = Ok bs
shown strings (p, None) = Err trap.Format
shown strings (p, Some a) = if type_eq a.0 (argument_type p) then piece_text strings p a.1 else Err trap.Format

-- what a piece prints and what the rest prints: a bad address anywhere comes before a fault of the format
abbrev pub both_shown : Result (List ℕ) Trap → Result (List ℕ) Trap → Result (List ℕ) Trap
both_shown (Ok a) (Ok b) = Ok (a ++ b)
both_shown (Ok a) (Err t) = Err t
both_shown (Err trap.BadAddress) rest = Err trap.BadAddress
both_shown (Err t) (Err u) = Err u
both_shown (Err t) (Ok b) = Err t

-- what all pieces print, in turn, of a format that is bad or not
abbrev pub all_shown : Bool → List (Result (List ℕ) Trap) → Result (List ℕ) Trap
all_shown bad [] = if bad then Err trap.Format else Ok []
all_shown bad (r ∷ rs) = both_shown r (all_shown bad rs)
