-- What a symbol says of the spelling.
use Rattle.std.proofs.Common.{◌≡◌, ◌⊎◌, inl, inr, ℕ, ◌-◌, ◌≤◌, Bool, true, false, cond, ◌&&◌, ◌==◌, List, [], ◌∷◌, length, take, drop, refl, sym, ap, ◌∙◌, subst, arith}
use Rattle.std.specs.Str.{bytes_eq}
use Rattle.ms_lex.specs.declared.kinds.Kind.{Kind}
use Rattle.ms_lex.specs.declared.kinds.Kind.TheVariants as k
use Rattle.ms_lex.specs.Tokens.{Text, is_digits, is_quote}
use Rattle.ms_lex.specs.Names.{name_part, decoded}
use Rattle.ms_lex.specs.Numbers.{decimal}
use Rattle.ms_text_grammar.specs.declared.symbols.Symbol.{Symbol}
use Rattle.ms_text_grammar.specs.declared.symbols.Symbol.TheVariants as s
use Rattle.ms_read_cursor.specs.declared.lexemes.Lexeme.TheInside.{Inside}
use Rattle.ms_read_cursor.specs.Views.{lexeme_in, IsLexeme, digits_of}
use Rattle.ms_text_grammar.specs.Lexemes.{Lexeme, name_in, width_in, Row, keywords, punctuation_symbols, symbol_in, int_symbol, type_or_plain, word_symbol, symbol_of, same_symbol}

-- ---- a symbol that a table doesn't have isn't found in it

abbrev lacks : Symbol → List Row → Bool
lacks x [] = true
lacks x (row ∷ rest) = cond (same_symbol row.1 x) false (lacks x rest)

passed : (x y z : Symbol) (e b others : Bool) → same_symbol x x ≡ true → same_symbol y x ≡ e → cond e false others ≡ true → cond b y z ≡ x → (others ≡ true) × (z ≡ x)
passed x y z true b others self t h f = absurd cc
passed x y z false true others self t h f = let same : same_symbol y x ≡ true = ap (λ w. same_symbol w x) f ∙ self in absurd cc
passed x y z false false others self t h f = (h, f)

found_other : (x : Symbol) (rows : List Row) (fallback : Symbol) (word : Text) → same_symbol x x ≡ true → lacks x rows ≡ true → symbol_in rows fallback word ≡ x → fallback ≡ x
found_other x [] fallback word self h f = f
found_other x (row ∷ rest) fallback word self h f =
    let p = passed x row.1 (symbol_in rest fallback word) (same_symbol row.1 x) (bytes_eq row.0 word) (lacks x rest) self refl h f in
    found_other x rest fallback word self p.0 p.1

no_word : (x : Symbol) (word : Text) → same_symbol x x ≡ true → lacks x keywords ≡ true → word_symbol word ≡ x → type_or_plain word ≡ x
unfolding word_symbol
no_word x word self h f = found_other x keywords (type_or_plain word) word self h f

-- ---- integer types

abbrev pub Narrow : ℕ → Type 0
Narrow n = (1 ≤ n) × (n ≤ 64)

int_narrow : (t : Bool) (n : ℕ) → cond t (int_symbol n) s.PlainWord ≡ s.IntType → Narrow n
int_narrow true n h = grind arith
int_narrow false n h = absurd cc

type_narrow : (word : Text) → type_or_plain word ≡ s.IntType → Narrow (decimal (drop 1 word))
type_narrow [] h = absurd cc
type_narrow (b ∷ rest) h = int_narrow (b == 105 && is_digits rest) (decimal rest) h

narrow_of : (kind : Kind) (z : Text) → symbol_of kind z ≡ s.IntType → Narrow (decimal (drop 1 z))
unfolding symbol_of same_symbol
narrow_of k.Label z h = absurd (grind arith)
narrow_of k.CText z h = absurd cc
narrow_of k.Str z h = absurd cc
narrow_of k.Number z h = absurd cc
narrow_of k.Word z h = type_narrow z (no_word s.IntType z refl refl h)
narrow_of k.Other z h = absurd (grind arith)
narrow_of k.Global z h = absurd cc
narrow_of k.Local z h = absurd (grind arith)
narrow_of k.Meta z h = absurd (grind arith)
narrow_of k.Group z h = absurd (grind arith)
narrow_of k.Punct z h = let e = found_other s.IntType punctuation_symbols s.Other z refl refl h in absurd cc

pub narrow : (x : Symbol) (kind : Kind) (z : Text) → x ≡ s.IntType → (x ≡ s.EndOfText) ⊎ (x ≡ symbol_of kind z) → Narrow (decimal (drop 1 z))
narrow x kind z is (inl e) = absurd cc
narrow x kind z is (inr e) = narrow_of kind z (sym e ∙ is)

-- ---- numbers as names

plain_digits : (text : Text) → is_digits text ≡ true → decoded text ≡ text
plain_digits [] h = refl
plain_digits (b ∷ rest) h = let other : is_quote b ≡ false = grind arith in rw other refl

numbered_label : (t : Bool) → (cond t s.NumberedLabel s.Label ≡ s.NumberedLocal) ⊎ (cond t s.NumberedLabel s.Label ≡ s.NumberedLabel) → t ≡ true
numbered_label true h = refl
numbered_label false (inl h) = absurd cc
numbered_label false (inr h) = absurd cc

numbered_local : (t : Bool) → (cond t s.NumberedLocal s.Local ≡ s.NumberedLocal) ⊎ (cond t s.NumberedLocal s.Local ≡ s.NumberedLabel) → t ≡ true
numbered_local true h = refl
numbered_local false (inl h) = absurd cc
numbered_local false (inr h) = absurd cc

type_local : (word : Text) → type_or_plain word ≡ s.NumberedLocal → ⊥
type_local [] h = cc
type_local (b ∷ rest) h = grind arith

type_label : (word : Text) → type_or_plain word ≡ s.NumberedLabel → ⊥
type_label [] h = cc
type_label (b ∷ rest) h = grind arith

abbrev pub IsNumbered : Symbol → Type 0
IsNumbered x = (x ≡ s.NumberedLocal) ⊎ (x ≡ s.NumberedLabel)

word_numbered : (z : Text) → IsNumbered (word_symbol z) → ⊥
unfolding same_symbol
word_numbered z (inl h) = type_local z (no_word s.NumberedLocal z refl refl h)
word_numbered z (inr h) = type_label z (no_word s.NumberedLabel z refl refl h)

mark_numbered : (z : Text) → IsNumbered (symbol_in punctuation_symbols s.Other z) → ⊥
unfolding same_symbol
mark_numbered z (inl h) = let e = found_other s.NumberedLocal punctuation_symbols s.Other z refl refl h in cc
mark_numbered z (inr h) = let e = found_other s.NumberedLabel punctuation_symbols s.Other z refl refl h in cc

numbered_of : (kind : Kind) (z : Text) → IsNumbered (symbol_of kind z) → decoded (name_part kind z) ≡ digits_of kind z
unfolding symbol_of
numbered_of k.Label z h = plain_digits (take (length z - 1) z) (numbered_label (is_digits (take (length z - 1) z)) h)
numbered_of k.CText z h = absurd (grind arith)
numbered_of k.Str z h = absurd (grind arith)
numbered_of k.Number z h = absurd (grind arith)
numbered_of k.Word z h = absurd (word_numbered z h)
numbered_of k.Other z h = absurd (grind arith)
numbered_of k.Global z h = absurd (grind arith)
numbered_of k.Local z h = plain_digits (drop 1 z) (numbered_local (is_digits (drop 1 z)) h)
numbered_of k.Meta z h = absurd (grind arith)
numbered_of k.Group z h = absurd (grind arith)
numbered_of k.Punct z h = absurd (mark_numbered z h)

pub numbered : (x : Symbol) (kind : Kind) (z : Text) → IsNumbered x → (x ≡ s.EndOfText) ⊎ (x ≡ symbol_of kind z) → decoded (name_part kind z) ≡ digits_of kind z
numbered x kind z (inl n) (inl e) = absurd cc
numbered x kind z (inr n) (inl e) = absurd cc
numbered x kind z (inl n) (inr e) = numbered_of kind z (inl (sym e ∙ n))
numbered x kind z (inr n) (inr e) = numbered_of kind z (inr (sym e ∙ n))

-- ---- a token of a text

pub narrow_in : (l : Inside) (t : Lexeme) → IsLexeme l → lexeme_in l ≡ t → t.symbol ≡ s.IntType → Narrow (width_in t)
narrow_in l t is e int =
    let narrow = narrow l.symbol l.token.kind (lexeme_in l).spelling (ap (λ x. x.symbol) e ∙ int) is.symbol in
    subst (λ x. Narrow (width_in x)) e narrow

pub numbered_in : (l : Inside) (t : Lexeme) → IsLexeme l → lexeme_in l ≡ t → IsNumbered t.symbol → name_in t ≡ digits_of t.kind t.spelling
numbered_in l t is e n =
    subst (λ x. IsNumbered x.symbol → name_in x ≡ digits_of x.kind x.spelling) e (λ n. numbered l.symbol l.token.kind (lexeme_in l).spelling n is.symbol) n
