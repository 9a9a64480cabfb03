-- The tokens of a text: what `get` lends, and their bytes.
use Rattle.std.proofs.Common.{◌≡◌, ◌<◌, ◌≤◌, ℕ, zero, suc, List, [], ◌∷◌, length, get_or, drop, slice_range, Option, Some, None, Bor, refl, sym, ap, subst, ◌∙◌, arith}
use Rattle.std.specs.Prelude.{IfSome, slice_get, option_copied}
use Rattle.std.specs.Slice.{IsItemAt}
use Rattle.std.proofs.lemmas.Option.{slice_get_past, slice_get_read}
use Rattle.ms_lex.specs.declared.kinds.Token.{Token}
use Rattle.ms_lex.specs.Tokens.{Text, InOrder}
use Rattle.ms_text_grammar.specs.Lexemes.{lexemes_of}
use Rattle.ms_read_cursor.specs.Reading.{front}

pub item_is : {X : Type 0} (xs : List X) (n : ℕ) (r : Option (Bor X)) → IsItemAt xs n r → option_copied r ≡ slice_get xs n
item_is xs n None h = sym (slice_get_past xs n h.3)
item_is xs n (Some x) h = sym (slice_get_read xs (length xs) n x.now refl h.3.0 h.1)

pub item_lies : (text : Text) (tokens : List Token) (n : ℕ) (r : Option (Bor Token)) → InOrder tokens (length text) → IsItemAt tokens n r
    → IfSome r (λ t. (t.now.start ≤ t.now.end) × (t.now.end ≤ length text))
item_lies text tokens n None h i = tt
item_lies text tokens n (Some t) h i =
    let within = subst (λ (u : Token). (u.start < u.end) × (u.end ≤ length text)) (sym i.1) (h.within n t.now i.3.0) in
    (omega (arith, within.0), within.1)

spelling_at_place : (text : Text) (tokens : List Token) (n : ℕ) (d : Token) → n < length tokens
    → (front (drop n (lexemes_of text tokens))).spelling ≡ slice_range text (get_or tokens n d).start (get_or tokens n d).end
spelling_at_place text [] n d h = absurd (omega arith)
spelling_at_place text (t ∷ ts) zero d h = refl
spelling_at_place text (t ∷ ts) (suc n) d h = spelling_at_place text ts n d (omega arith)

pub spelling_is : (text : Text) (tokens : List Token) (n : ℕ) (t : Token) → n < length tokens → t ≡ get_or tokens n t
    → slice_range text t.start t.end ≡ (front (drop n (lexemes_of text tokens))).spelling
spelling_is text tokens n t inside e = sym (spelling_at_place text tokens n t inside ∙ ap (λ (u : Token). slice_range text u.start u.end) (sym e))
