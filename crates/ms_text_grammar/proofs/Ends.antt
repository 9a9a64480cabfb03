-- No token is the end of a text, so a module is read up to the end.
use Rattle.std.proofs.Common.{◌≡◌, ◌⊎◌, inl, inr, ℕ, ◌+◌, ◌-◌, Bool, true, false, true≢false, cond, List, [], ◌∷◌, length, Ok, Err, refl, ◌∙◌, subst, arith}
use Rattle.std.proofs.lemmas.List.{length-map}
use Rattle.std.specs.List.{AllByRecursion}
use Rattle.std.specs.Str.{bytes_eq}
use Rattle.ms_lex.specs.declared.kinds.Kind.{Kind}
use Rattle.ms_lex.specs.declared.kinds.Kind.TheVariants as k
use Rattle.ms_lex.specs.declared.kinds.Token.{Token}
use Rattle.ms_lex.specs.Tokens.{Text}
use Rattle.ms_lex.specs.Names.{spelling_of}
use Rattle.ms_lex.specs.Grammar.{head, loop}
use Rattle.ms_lex.proofs.Relations.{either}
use Rattle.ms_ir.specs.declared.syntax.Module.{Module}
use Rattle.ms_ir.specs.declared.forms.Form.{Form}
use Rattle.ms_text_grammar.specs.declared.refusals.Cause.{Cause}
use Rattle.ms_text_grammar.specs.declared.symbols.Symbol.{Symbol}
use Rattle.ms_text_grammar.specs.declared.symbols.Symbol.TheVariants as s
use Rattle.ms_text_grammar.specs.Lexemes.{Lexeme, Row, keywords, punctuation_symbols, symbol_in, type_or_plain, word_symbol, symbol_of, end_of_text, lexeme_of, lexemes_of, same_symbol, is}
use Rattle.ms_text_grammar.specs.Steps.{refusal}
use Rattle.ms_text_grammar.specs.Modules.{module_rule, entity_begins, entity, no_parts, end_of}
use Rattle.ms_text_grammar.specs.Texts.{HasTokens, Reads, Stops, ReadsUpTo}
use Rattle.ms_text_grammar.proofs.Rests.{stop_shorter, reads_keep}

abbrev NoEnd : Symbol → Type 0
NoEnd x = same_symbol x s.EndOfText ≡ false

abbrev none_ends : List Row → Bool
none_ends [] = true
none_ends (row ∷ rest) = cond (same_symbol row.1 s.EndOfText) false (none_ends rest)

in_row : (e b : Bool) (x y : Symbol) (others : Bool) → same_symbol x s.EndOfText ≡ e → cond e false others ≡ true → (others ≡ true → NoEnd y) → NoEnd (cond b x y)
in_row true b x y others p h q = absurd cc
in_row false true x y others p h q = p
in_row false false x y others p h q = q h

table_no_end : (rows : List Row) (none : Symbol) (word : Text) → none_ends rows ≡ true → NoEnd none → NoEnd (symbol_in rows none word)
table_no_end [] none word h o = o
table_no_end (row ∷ rest) none word h o =
    in_row (same_symbol row.1 s.EndOfText) (bytes_eq row.0 word) row.1 (symbol_in rest none word) (none_ends rest) refl h (λ others. table_no_end rest none word others o)

keywords_no_end : none_ends keywords ≡ true
unfolding same_symbol
keywords_no_end = refl

punctuation_no_end : none_ends punctuation_symbols ≡ true
unfolding same_symbol
punctuation_no_end = refl

plain_no_end : (x : Symbol) → NoEnd x → (y : Symbol) → NoEnd y → (z : Symbol) → NoEnd z → (a b c : Bool) → NoEnd (cond a (cond b x (cond c y z)) x)
plain_no_end x p y q z r true true c = p
plain_no_end x p y q z r true false true = q
plain_no_end x p y q z r true false false = r
plain_no_end x p y q z r false b c = p

type_no_end : (word : Text) → NoEnd (type_or_plain word)
unfolding same_symbol
type_no_end [] = refl
type_no_end (b ∷ rest) = plain_no_end s.PlainWord refl s.IntType refl s.WideIntType refl _ _ _

other_no_end : (a b c : Bool) → NoEnd (cond a s.Dots (cond b s.FloatLiteral (cond c s.DollarName s.Other)))
unfolding same_symbol
other_no_end true b c = refl
other_no_end false true c = refl
other_no_end false false true = refl
other_no_end false false false = refl

two_no_end : (b : Bool) → NoEnd (cond b s.NumberedLabel s.Label) × NoEnd (cond b s.NumberedLocal s.Local) × NoEnd (cond b s.NoSanitize s.Meta) × NoEnd (cond b s.DebugGroup s.Group)
unfolding same_symbol
two_no_end true = (refl, refl, refl, refl)
two_no_end false = (refl, refl, refl, refl)

fixed_no_end : NoEnd s.CText × NoEnd s.Str × NoEnd s.Number × NoEnd s.Global × NoEnd s.Other
unfolding same_symbol
fixed_no_end = (refl, refl, refl, refl, refl)

symbol_no_end : (kind : Kind) (spelling : Text) → NoEnd (symbol_of kind spelling)
unfolding symbol_of word_symbol
symbol_no_end k.Label spelling = (two_no_end _).0
symbol_no_end k.CText spelling = fixed_no_end.0
symbol_no_end k.Str spelling = fixed_no_end.1
symbol_no_end k.Number spelling = fixed_no_end.2
symbol_no_end k.Word spelling = table_no_end keywords (type_or_plain spelling) spelling keywords_no_end (type_no_end spelling)
symbol_no_end k.Other spelling = other_no_end _ _ _
symbol_no_end k.Global spelling = fixed_no_end.3
symbol_no_end k.Local spelling = (two_no_end _).1
symbol_no_end k.Meta spelling = (two_no_end _).2
symbol_no_end k.Group spelling = (two_no_end _).3
symbol_no_end k.Punct spelling = table_no_end punctuation_symbols s.Other spelling punctuation_no_end fixed_no_end.4

all_no_end : (text : Text) (tokens : List Token) → AllByRecursion (λ t. NoEnd t.symbol) (lexemes_of text tokens)
all_no_end text [] = tt
all_no_end text (t ∷ rest) = (symbol_no_end t.kind (spelling_of text t), all_no_end text rest)

refused : (b : Bool) → b ≡ false → (e : Cause) (u : Unit {0}) → cond b (Ok tt) (Err e) ≡ Ok u → ⊥
refused true p e u h = true≢false p
refused false p e u h = cc

nothing_left : (rest : List Lexeme) → AllByRecursion (λ t. NoEnd t.symbol) rest → (u : Unit {0}) → end_of (head end_of_text rest) ≡ Ok u → rest ≡ []
nothing_left [] all u h = refl
nothing_left (t ∷ rest) all u h = absurd (refused (is s.EndOfText t) all.0 (refusal t) u h)

-- a whole module leaves nothing
leaves_nothing : (form : Form) (ts : List Lexeme) (m : Module) (rest : List Lexeme) → AllByRecursion (λ t. NoEnd t.symbol) ts → ReadsUpTo (module_rule form) ts m rest → rest ≡ []
unfolding module_rule
leaves_nothing form ts m rest all h =
    let parts = loop (entity_begins form) (entity form) no_parts in
    let mid = reads_keep end_of_text (λ t. NoEnd t.symbol) parts ts h.0 h.1 h.2 all in
    let ended = nothing_left h.1 mid h.3.0 h.3.2.0 in
    h.3.3.1 ∙ (h.3.2.1 ∙ ended)

-- a text that has tokens reads or stops
pub reads_or_stops : (form : Form) (text : Text) (tokens : List Token) → HasTokens form text tokens
    → ((m : Module) × Reads form text m) ⊎ ((k : ℕ) × (c : Cause) × Stops form text k c)
reads_or_stops form text tokens has = elim (either end_of_text (module_rule form) (lexemes_of text tokens)) [
  | inl r ↦
      let empty = leaves_nothing form (lexemes_of text tokens) r.0 r.1 (all_no_end text tokens) r.2 in
      inl (r.0, (tokens, has, subst (λ rest. ReadsUpTo (module_rule form) (lexemes_of text tokens) r.0 rest) empty r.2))
  | inr r ↦
      let less = stop_shorter end_of_text (module_rule form) (lexemes_of text tokens) r.0 r.1 r.2 in
      let k = length tokens - length r.1 in
      let whole : k + length r.1 ≡ length tokens = omega (arith, length-map tokens (lexeme_of text)) in
      inr (k, r.0, (tokens, has, (r.1, whole, r.2)))
]
