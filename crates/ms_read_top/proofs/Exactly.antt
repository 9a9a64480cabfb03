-- An answer that is so comes exactly where it is so: of a text no two are.
use Rattle.std.proofs.Common.{◌≡◌, ◌≢◌, ◌⊎◌, ℕ, List, Option, Some, Result, Ok, Err, refl, sym, subst, ap, ◌∙◌, inl, inr}
use Rattle.ms_lex.specs.declared.errors.LexError.{LexError}
use Rattle.ms_lex.specs.declared.errors.LexError.TheVariants as lex
use Rattle.ms_lex.specs.declared.kinds.Token.{Token}
use Rattle.ms_lex.specs.Tokens.{Text, tokens_of}
use Rattle.ms_ir.specs.declared.syntax.Module.{Module}
use Rattle.ms_ir.specs.declared.forms.Form.{Form}
use Rattle.ms_text_grammar.specs.Causes.{printed_number}
use Rattle.ms_text_grammar.specs.Texts.{Reads, max_tokens, place_in}
use Rattle.ms_text_grammar.proofs.Readings.{one_reading, one_stop, never_both}
use Rattle.ms_read_body.specs.Calls.{what_of}
use Rattle.ms_read_body.specs.declared.errors.What.{What}
use Rattle.ms_read_body.specs.declared.errors.ReadError.{ReadError}
use Rattle.ms_read_body.specs.declared.errors.ReadError.TheVariants as e
use Rattle.ms_read_top.specs.Reading.{IsTextRefused, IsReading, AnswersExactly}

cut_once : (r : Result (List Token) LexError) (ts : List Token) (c : LexError) → r ≡ Ok ts → r ≡ Err c → ⊥
cut_once r ts c p q = cc

same_cause : (r : Result (List Token) LexError) (c d : LexError) → r ≡ Err c → r ≡ Err d → c ≡ d
same_cause r c d p q = cc

same_number : (o : Option ℕ) (n m : ℕ) → o ≡ Some n → o ≡ Some m → n ≡ m
same_number o n m p q = cc

abbrev Answer : Type 0
Answer = Result Module ReadError

same_refusal : (n m : ℕ) (v w : What) (j k a b : ℕ) → n ≡ m → v ≡ w → j ≡ k → a ≡ b → ◌≡◌ {A = Answer} (Err (e.Refused n v j a)) (Err (e.Refused m w k b))
same_refusal n m v w j k a b p q x y = cc

module _ (form : Form) (text : Text) where
  reading : (result : Answer) → IsReading form text result → (m : Module) → Reads form text m → (result ≡ Ok m) ⊎ (result ≡ Err e.NoMemory)
  reading (Ok n) is m reads = inl (ap Ok (one_reading form text n m is reads))
  reading (Err (e.Lex c)) is m reads = absurd (cut_once (tokens_of text (max_tokens form)) reads.0 c reads.1.cut is.0)
  reading (Err (e.Refused n w k p)) is m reads = absurd (never_both form text m k is.cause reads is.stops)
  reading (Err e.NoMemory) is m reads = inr refl

  lexing : (result : Answer) → IsReading form text result → (d : LexError) → tokens_of text (max_tokens form) ≡ Err d → (result ≡ Err (e.Lex d)) ⊎ (result ≡ Err e.NoMemory)
  lexing (Ok n) is d cut = absurd (cut_once (tokens_of text (max_tokens form)) is.0 d is.1.cut cut)
  lexing (Err (e.Lex c)) is d cut = inl (ap (λ x. Err (e.Lex x)) (same_cause (tokens_of text (max_tokens form)) c d is.0 cut))
  lexing (Err (e.Refused n w k p)) is d cut = absurd (cut_once (tokens_of text (max_tokens form)) is.stops.0 d is.stops.1.cut cut)
  lexing (Err e.NoMemory) is d cut = inr refl

  refusing : (result : Answer) → IsReading form text result → (n : ℕ) (w : What) (k p : ℕ) → IsTextRefused form text n w k p
      → (result ≡ Err (e.Refused n w k p)) ⊎ (result ≡ Err e.NoMemory)
  refusing (Ok m) is n w k p so = absurd (never_both form text m k so.cause is so.stops)
  refusing (Err (e.Lex c)) is n w k p so = absurd (cut_once (tokens_of text (max_tokens form)) so.stops.0 c so.stops.1.cut is.0)
  refusing (Err (e.Refused m v j q)) is n w k p so =
      let both = one_stop form text j k is.cause so.cause is.stops so.stops in
      let number = same_number (printed_number so.cause) m n (ap printed_number (sym both.1) ∙ is.numbered) so.numbered in
      let what = is.named ∙ ap what_of both.1 ∙ sym so.named in
      let place = is.begins so.stops.0 so.stops.1 ∙ ap (λ t. place_in text so.stops.0 t) both.0 ∙ sym (so.begins so.stops.0 so.stops.1) in
      inl (same_refusal m n v w j k q p number what both.0 place)
  refusing (Err e.NoMemory) is n w k p so = inr refl

  module _ (result : Answer) (is : IsReading form text result) where
    pub module_exactly : (m : Module) → AnswersExactly result (Ok m) (Reads form text m)
    module_exactly m = (λ same. subst (IsReading form text) same is, reading result is m)

    pub lex_exactly : (c : LexError) → AnswersExactly result (Err (e.Lex c)) (tokens_of text (max_tokens form) ≡ Err c)
    lex_exactly c = (λ same. (subst (IsReading form text) same is).0, lexing result is c)

    pub refused_exactly : (n : ℕ) (w : What) (k p : ℕ) → AnswersExactly result (Err (e.Refused n w k p)) (IsTextRefused form text n w k p)
    refused_exactly n w k p = (λ same. subst (IsReading form text) same is, refusing result is n w k p)

    pub lexer_has_memory : result ≢ Err (e.Lex lex.NoMemory)
    lexer_has_memory same = (subst (IsReading form text) same is).1 refl
