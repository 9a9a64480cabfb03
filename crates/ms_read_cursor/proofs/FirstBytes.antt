-- A word is looked up among those with its first byte.
use Rattle.std.proofs.Common.{◌≡◌, ℕ, ◌<◌, Bool, true, false, true≢false, cond, ◌&&◌, ◌==◌, codes, List, [], ◌∷◌, length, get_or, refl, sym, ap, ◌∙◌, arith}
use Rattle.std.specs.Str.{bytes_eq}
use Rattle.ms_lex.specs.Tokens.{Text, is_one_of}
use Rattle.ms_text_grammar.specs.declared.symbols.Symbol.{Symbol}
use Rattle.ms_text_grammar.specs.Lexemes.{Row, keywords, symbol_in}
use Rattle.ms_read_cursor.specs.Words.{begins, beginning}

picked : (e t : Bool) (row : Row) (narrow rows : List Row) (fallback : Symbol) (word : Text) → bytes_eq row.0 word ≡ (e && t)
    → symbol_in narrow fallback word ≡ symbol_in rows fallback word → symbol_in (cond e (row ∷ narrow) narrow) fallback word ≡ symbol_in (row ∷ rows) fallback word
picked true t row narrow rows fallback word test same = ap (λ x. cond (bytes_eq row.0 word) row.1 x) same
picked false t row narrow rows fallback word test same = rw test same

step : (b : ℕ) (rest w : Text) (s : Symbol) (rows : List Row) (fallback : Symbol) → symbol_in (beginning b rows) fallback (b ∷ rest) ≡ symbol_in rows fallback (b ∷ rest)
    → symbol_in (beginning b ((w, s) ∷ rows)) fallback (b ∷ rest) ≡ symbol_in ((w, s) ∷ rows) fallback (b ∷ rest)
step b rest [] s rows fallback same = same
step b rest (c ∷ w) s rows fallback same = picked (c == b) (bytes_eq w rest) (c ∷ w, s) (beginning b rows) rows fallback (b ∷ rest) refl same

same_symbol_in : (b : ℕ) (rest : Text) (rows : List Row) (fallback : Symbol) → symbol_in (beginning b rows) fallback (b ∷ rest) ≡ symbol_in rows fallback (b ∷ rest)
same_symbol_in b rest [] fallback = refl
same_symbol_in b rest (row ∷ rows) fallback = step b rest row.0 row.1 rows fallback (same_symbol_in b rest rows fallback)

pub by_first : (word : Text) (b : ℕ) (rows : List Row) (fallback : Symbol) → 0 < length word → b ≡ get_or word 0 0 → symbol_in (beginning b rows) fallback word ≡ symbol_in rows fallback word
by_first [] b rows fallback some e = absurd (omega arith)
by_first (c ∷ rest) b rows fallback some e = rw e (same_symbol_in c rest rows fallback)

-- ---- no word begins with another byte

-- the first bytes of words
abbrev pub letters : Text
letters = codes "abcdefghilmnoprstuvxz"

abbrev first_in : Text → Bool
first_in [] = true
first_in (c ∷ rest) = is_one_of letters c

abbrev covered : List Row → Bool
covered [] = true
covered (row ∷ rows) = cond (first_in row.0) (covered rows) false

equal : (b c : ℕ) → (c == b) ≡ true → c ≡ b
equal b c e = grind arith

by_test : (b c : ℕ) (t : Bool) → (c == b) ≡ t → is_one_of letters b ≡ false → is_one_of letters c ≡ true → (c == b) ≡ false
by_test b c false e p q = e
by_test b c true e p q = absurd (true≢false (sym q ∙ ap (is_one_of letters) (equal b c e) ∙ p))

begun_otherwise : (b : ℕ) (word : Text) → is_one_of letters b ≡ false → first_in word ≡ true → begins b word ≡ false
begun_otherwise b [] p q = refl
begun_otherwise b (c ∷ rest) p q = by_test b c (c == b) refl p q

both : (x y : Bool) → cond x y false ≡ true → (x ≡ true) × (y ≡ true)
both true y h = (refl, h)
both false y h = absurd cc

nothing_in : (b : ℕ) (rows : List Row) → is_one_of letters b ≡ false → covered rows ≡ true → [] ≡ beginning b rows
nothing_in b [] p h = refl
nothing_in b (row ∷ rows) p h =
    let q = both (first_in row.0) (covered rows) h in
    rw (begun_otherwise b row.0 p q.0) (nothing_in b rows p q.1)

all_covered : covered keywords ≡ true
all_covered = refl

pub nothing : (b : ℕ) → is_one_of letters b ≡ false → [] ≡ beginning b keywords
nothing b p = nothing_in b keywords p all_covered

pub no_letter : (b : ℕ) → (b == 97) ≡ false → (b == 98) ≡ false → (b == 99) ≡ false → (b == 100) ≡ false → (b == 101) ≡ false → (b == 102) ≡ false → (b == 103) ≡ false → (b == 104) ≡ false → (b == 105) ≡ false → (b == 108) ≡ false → (b == 109) ≡ false → (b == 110) ≡ false → (b == 111) ≡ false → (b == 112) ≡ false → (b == 114) ≡ false → (b == 115) ≡ false → (b == 116) ≡ false → (b == 117) ≡ false → (b == 118) ≡ false → (b == 120) ≡ false → (b == 122) ≡ false → is_one_of letters b ≡ false
no_letter b n97 n98 n99 n100 n101 n102 n103 n104 n105 n108 n109 n110 n111 n112 n114 n115 n116 n117 n118 n120 n122 = rw (n97, n98, n99, n100, n101, n102, n103, n104, n105, n108, n109, n110, n111, n112, n114, n115, n116, n117, n118, n120, n122) refl
