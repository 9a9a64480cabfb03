-- What a format prints is bytes.
use Rattle.std.proofs.Common.{◌≡◌, ◌<◌, ◌≤◌, ℕ, zero, suc, ◌+◌, ◌-◌, ◌/◌, ◌%◌, List, [], ◌∷◌, ◌++◌, take, drop, map, Bool, false, eqb, Option, Some, None, option_map, Result, Ok, Err, IfSome, IfOk, All, refl, arith, if◌then◌else◌}
use Rattle.std.specs.Prelude.{ℤ, pos, negsuc, true, nat_lt, ◌==◌, decimal, length}
use Rattle.std.specs.Fmt.{digits, digits_onto, digit_glyph, signed_decimal}
use Rattle.std.proofs.lemmas.Nat.{mod_below}
use Rattle.std.proofs.lemmas.List.Elements.{All-nil, All-cons, All-head, All-tail, All-append, All-take, All-drop}
use Rattle.ms_bits.specs.declared.traps.Trap.{Trap}
use Rattle.ms_bits.specs.declared.traps.Trap.TheVariants as trap
use Rattle.ms_bits.specs.Signed.{signed}
use Rattle.ms_ir.specs.declared.syntax.Ty.{Ty}
use Rattle.ms_ir.specs.Equal.{type_eq}
use Rattle.ms_runs.specs.declared.formats.Piece.{Piece}
use Rattle.ms_runs.specs.declared.formats.Piece.TheVariants.{Text, Dec32, Udec32, Hex32, Char, Str, Dec64, Udec64, Hex64}
use Rattle.ms_runs.specs.declared.formats.Cut.{Cut}
use Rattle.ms_runs.specs.Formats.{letters, long_letters, lettered, by_letter, directive, plain_bytes, no_pieces, with_piece, cut_within, cut_of, with_arguments, argument_type, piece_text, shown, both_shown, all_shown}
use Rattle.ms_runs_good_laws.proofs.WorldChanges.{either}

-- each item of a list is a byte
abbrev pub AreBytes : List ℕ → Type 0
AreBytes bs = All (λ b. b < 256) bs

-- ---- numbers

glyph_byte : (d : ℕ) → d < 16 → digit_glyph false d < 256
glyph_byte d l = either (λ v. v < 256) (nat_lt d 10) (48 + d) (87 + d) (omega (arith, l)) (omega (arith, l))

digits_bytes : (base : ℕ) → 0 < base → base ≤ 16 → (k n : ℕ) (acc : List ℕ) → AreBytes acc → AreBytes (digits_onto k base false n acc)
digits_bytes base p l zero n acc h = h
digits_bytes base p l (suc k) n acc h =
    let d : n % base < base = mod_below n base p in
    let more = All-cons (λ b. b < 256) (digit_glyph false (n % base)) acc (glyph_byte (n % base) (omega (arith, d, l))) h in
    either AreBytes (n / base == 0) (digit_glyph false (n % base) ∷ acc) (digits_onto k base false (n / base) (digit_glyph false (n % base) ∷ acc)) more
    (digits_bytes base p l k (n / base) (digit_glyph false (n % base) ∷ acc) more)

decimal_bytes : (n : ℕ) → AreBytes (decimal n)
unfolding digits
decimal_bytes n = digits_bytes 10 (omega arith) (omega arith) 64 n [] (All-nil (λ b. b < 256))

hexadecimal_bytes : (n : ℕ) → AreBytes (digits 16 false n)
unfolding digits
hexadecimal_bytes n = digits_bytes 16 (omega arith) (omega arith) 64 n [] (All-nil (λ b. b < 256))

signed_bytes : (z : ℤ) → AreBytes (signed_decimal z)
signed_bytes (pos n) = decimal_bytes n
signed_bytes (negsuc n) = All-cons (λ b. b < 256) 45 (decimal (suc n)) (omega arith) (decimal_bytes (suc n))

-- ---- pieces

-- the text of a piece is bytes
abbrev HasBytes : Piece → Type 0
HasBytes (Text bs) = AreBytes bs
HasBytes p = Unit {0}

abbrev RowHas : ℕ × Piece → Type 0
RowHas row = HasBytes row.1

lettered_bytes : (rows : List (ℕ × Piece)) → All RowHas rows → (b : ℕ) → IfSome (lettered rows b) HasBytes
lettered_bytes [] h b = tt
lettered_bytes (row ∷ rows) h b =
    either (λ (o : Option Piece). IfSome o HasBytes) (eqb row.0 b) (Some row.1) (lettered rows b) (All-head RowHas row rows h) (lettered_bytes rows (All-tail RowHas row rows h) b)

long_have : All RowHas long_letters
long_have =
    All-cons RowHas (100, Dec64) ((117, Udec64) ∷ (120, Hex64) ∷ []) tt
    (All-cons RowHas (117, Udec64) ((120, Hex64) ∷ []) tt (All-cons RowHas (120, Hex64) [] tt (All-nil RowHas)))

one_byte : AreBytes (37 ∷ [])
one_byte = All-cons (λ b. b < 256) 37 [] (omega arith) (All-nil (λ b. b < 256))

letters_have : All RowHas letters
letters_have =
    All-cons RowHas (100, Dec32) ((117, Udec32) ∷ (120, Hex32) ∷ (99, Char) ∷ (115, Str) ∷ (37, Text (37 ∷ [])) ∷ []) tt
    (All-cons RowHas (117, Udec32) ((120, Hex32) ∷ (99, Char) ∷ (115, Str) ∷ (37, Text (37 ∷ [])) ∷ []) tt
    (All-cons RowHas (120, Hex32) ((99, Char) ∷ (115, Str) ∷ (37, Text (37 ∷ [])) ∷ []) tt
    (All-cons RowHas (99, Char) ((115, Str) ∷ (37, Text (37 ∷ [])) ∷ []) tt
    (All-cons RowHas (115, Str) ((37, Text (37 ∷ [])) ∷ []) tt (All-cons RowHas (37, Text (37 ∷ [])) [] one_byte (All-nil RowHas))))))

-- a directive and the bytes after it
abbrev FirstHas : Piece × List ℕ → Type 0
FirstHas d = HasBytes d.0 × AreBytes d.1

letter_bytes : (rows : List (ℕ × Piece)) → All RowHas rows → (bs : List ℕ) → AreBytes bs → IfSome (by_letter rows bs) FirstHas
letter_bytes rows h [] k = tt
letter_bytes rows h (b ∷ bs) k = by_piece (lettered rows b) (lettered_bytes rows h b)
  where
    by_piece : (o : Option Piece) → IfSome o HasBytes → IfSome {T = Piece × List ℕ} (option_map (λ p. (p, bs)) o) FirstHas
    by_piece None g = tt
    by_piece (Some p) g = (g, All-tail (λ c. c < 256) b bs k)

directive_bytes : (bs : List ℕ) → AreBytes bs → IfSome (directive bs) FirstHas
directive_bytes [] h = tt
directive_bytes (b ∷ bs) h =
    either (λ (o : Option (Piece × List ℕ)). IfSome o FirstHas) (eqb b 108) (by_letter long_letters bs) (by_letter letters (b ∷ bs))
    (letter_bytes long_letters long_have bs (All-tail (λ c. c < 256) b bs h)) (letter_bytes letters letters_have (b ∷ bs) h)

abbrev CutHas : Cut → Type 0
CutHas c = All HasBytes c.pieces

cut_bytes : (n : ℕ) (format : List ℕ) → AreBytes format → All HasBytes (cut_within n format).pieces
cut_bytes zero format h = All-nil HasBytes
cut_bytes (suc n) [] h = All-nil HasBytes
cut_bytes (suc n) (b ∷ bs) h =
    let rest = All-tail (λ c. c < 256) b bs h in
    either CutHas (eqb b 37)
    (elim (directive bs) as (λ z. Cut) [ Some d ↦ with_piece d.0 (cut_within n d.1) | None ↦ no_pieces true ])
    (with_piece (Text (b ∷ take (plain_bytes bs) bs)) (cut_within n (drop (plain_bytes bs) bs)))
    (by_directive (directive bs) (directive_bytes bs rest) (λ more k. cut_bytes n more k))
    (All-cons HasBytes (Text (b ∷ take (plain_bytes bs) bs)) (cut_within n (drop (plain_bytes bs) bs)).pieces
    (All-cons (λ c. c < 256) b (take (plain_bytes bs) bs) (All-head (λ c. c < 256) b bs h) (All-take (λ c. c < 256) (plain_bytes bs) bs rest))
    (cut_bytes n (drop (plain_bytes bs) bs) (All-drop (λ c. c < 256) (plain_bytes bs) bs rest)))
  where
    by_directive : (o : Option (Piece × List ℕ)) → IfSome o FirstHas → ((more : List ℕ) → AreBytes more → All HasBytes (cut_within n more).pieces) → CutHas (elim o as (λ z. Cut) [ Some d ↦ with_piece d.0 (cut_within n d.1) | None ↦ no_pieces true ])
    by_directive None g again = All-nil HasBytes
    by_directive (Some d) g again = All-cons HasBytes d.0 (cut_within n d.1).pieces g.0 (again d.1 g.1)

-- a piece with its argument
abbrev GivenHas : Piece × Option (Ty × ℕ) → Type 0
GivenHas x = HasBytes x.0

with_bytes : (ps : List Piece) (args : List (Ty × ℕ)) → All HasBytes ps → All GivenHas (with_arguments ps args)
with_bytes [] args h = All-nil GivenHas
with_bytes (Text bs ∷ ps) args h = All-cons GivenHas (Text bs, None) (with_arguments ps args) (All-head HasBytes (Text bs) ps h) (with_bytes ps args (All-tail HasBytes (Text bs) ps h))
with_bytes (p ∷ ps) [] h = All-cons GivenHas (p, None) (with_arguments ps []) (All-head HasBytes p ps h) (with_bytes ps [] (All-tail HasBytes p ps h))
with_bytes (p ∷ ps) (a ∷ args) h = All-cons GivenHas (p, Some a) (with_arguments ps args) (All-head HasBytes p ps h) (with_bytes ps args (All-tail HasBytes p ps h))

-- ---- what they print

module _ (strings : ℕ → Option (List ℕ)) (given : (a : ℕ) → IfSome (strings a) AreBytes) where
  string_bytes : (o : Option (List ℕ)) → IfSome o AreBytes → IfOk (elim o as (λ z. Result (List ℕ) Trap) [ Some bs ↦ Ok bs | None ↦ Err trap.BadAddress ]) AreBytes
  string_bytes (Some bs) h = h
  string_bytes None h = tt

  piece_bytes : (p : Piece) (v : ℕ) → HasBytes p → IfOk (piece_text strings p v) AreBytes
  piece_bytes (Text bs) v h = h
  piece_bytes Dec32 v h = signed_bytes (signed 32 v)
  piece_bytes Udec32 v h = decimal_bytes v
  piece_bytes Hex32 v h = hexadecimal_bytes v
  piece_bytes Char v h = All-cons (λ b. b < 256) (v % 256) [] (mod_below v 256 (omega arith)) (All-nil (λ b. b < 256))
  piece_bytes Str v h = string_bytes (strings v) (given v)
  piece_bytes Dec64 v h = signed_bytes (signed 64 v)
  piece_bytes Udec64 v h = decimal_bytes v
  piece_bytes Hex64 v h = hexadecimal_bytes v

  typed_bytes : (p : Piece) (a : Ty × ℕ) → HasBytes p → IfOk (if type_eq a.0 (argument_type p) then piece_text strings p a.1 else Err trap.Format) AreBytes
  typed_bytes p a h = either (λ r. IfOk r AreBytes) (type_eq a.0 (argument_type p)) (piece_text strings p a.1) (Err trap.Format) (piece_bytes p a.1 h) tt

  shown_bytes : (x : Piece × Option (Ty × ℕ)) → HasBytes x.0 → IfOk (shown strings x) AreBytes
  shown_bytes (Text bs, a) h = h
  shown_bytes (Dec32, None) h = tt
  shown_bytes (Udec32, None) h = tt
  shown_bytes (Hex32, None) h = tt
  shown_bytes (Char, None) h = tt
  shown_bytes (Str, None) h = tt
  shown_bytes (Dec64, None) h = tt
  shown_bytes (Udec64, None) h = tt
  shown_bytes (Hex64, None) h = tt
  shown_bytes (Dec32, Some a) h = typed_bytes Dec32 a h
  shown_bytes (Udec32, Some a) h = typed_bytes Udec32 a h
  shown_bytes (Hex32, Some a) h = typed_bytes Hex32 a h
  shown_bytes (Char, Some a) h = typed_bytes Char a h
  shown_bytes (Str, Some a) h = typed_bytes Str a h
  shown_bytes (Dec64, Some a) h = typed_bytes Dec64 a h
  shown_bytes (Udec64, Some a) h = typed_bytes Udec64 a h
  shown_bytes (Hex64, Some a) h = typed_bytes Hex64 a h

  both_bytes : (r s : Result (List ℕ) Trap) → IfOk r AreBytes → IfOk s AreBytes → IfOk (both_shown r s) AreBytes
  both_bytes (Ok a) (Ok b) h k = All-append (λ x. x < 256) a b h k
  both_bytes (Ok a) (Err t) h k = tt
  both_bytes (Err trap.BadAddress) s h k = tt
  both_bytes (Err t) (Err u) h k = tt
  both_bytes (Err t) (Ok b) h k = tt

  all_bytes : (bad : Bool) (xs : List (Piece × Option (Ty × ℕ))) → All GivenHas xs → IfOk (all_shown bad (map (shown strings) xs)) AreBytes
  all_bytes bad [] h = either (λ r. IfOk r AreBytes) bad (Err trap.Format) (Ok []) tt (All-nil (λ b. b < 256))
  all_bytes bad (x ∷ xs) h =
      both_bytes (shown strings x) (all_shown bad (map (shown strings) xs)) (shown_bytes x (All-head GivenHas x xs h)) (all_bytes bad xs (All-tail GivenHas x xs h))

  -- what a format prints of its arguments
  pub format_bytes : (format : List ℕ) (args : List (Ty × ℕ)) → AreBytes format → IfOk (all_shown (cut_of format).bad (map (shown strings) (with_arguments (cut_of format).pieces args))) AreBytes
  format_bytes format args h =
      all_bytes (cut_of format).bad (with_arguments (cut_of format).pieces args) (with_bytes (cut_of format).pieces args (cut_bytes (length format) format h))
