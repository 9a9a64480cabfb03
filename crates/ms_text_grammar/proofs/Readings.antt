-- The laws of whole texts, from those of grammars.
use Rattle.std.proofs.Common.{◌≡◌, ℕ, ◌+◌, List, [], length, Result, Ok, subst, ap, arith}
use Rattle.ms_lex.specs.declared.kinds.Token.{Token}
use Rattle.ms_lex.specs.declared.errors.LexError.{LexError}
use Rattle.ms_lex.specs.Tokens.{Text, tokens_of}
use Rattle.ms_lex.proofs.Relations as laws
use Rattle.ms_ir.specs.declared.syntax.Module.{Module}
use Rattle.ms_ir.specs.declared.forms.Form.{Form}
use Rattle.ms_text_grammar.specs.declared.refusals.Cause.{Cause}
use Rattle.ms_text_grammar.specs.Lexemes.{Lexeme, end_of_text, lexemes_of}
use Rattle.ms_text_grammar.specs.Modules.{module_rule}
use Rattle.ms_text_grammar.specs.Texts.{HasTokens, ReadsUpTo, StopsAt, Reads, Stops, max_tokens}

same_ok : (r : Result (List Token) LexError) (ts us : List Token) → r ≡ Ok ts → r ≡ Ok us → ts ≡ us
same_ok r ts us p q = cc

-- a text has its tokens once
pub same_tokens : (form : Form) (text : Text) (ts us : List Token) → HasTokens form text ts → HasTokens form text us → us ≡ ts
same_tokens form text ts us h i = same_ok (tokens_of text (max_tokens form)) us ts i.cut h.cut

module _ (form : Form) (text : Text) where
  abbrev Read : Module → List Token → Type 0
  Read m ts = ReadsUpTo (module_rule form) (lexemes_of text ts) m []

  abbrev Stop : Cause → List Lexeme → List Token → Type 0
  Stop c rest ts = StopsAt (module_rule form) (lexemes_of text ts) c rest

  pub one_reading : (m n : Module) → Reads form text m → Reads form text n → m ≡ n
  one_reading m n p q =
      (laws.one_reading end_of_text (module_rule form) (lexemes_of text p.0) m n [] [] p.2
      (subst (Read n) (same_tokens form text p.0 q.0 p.1 q.1) q.2)).0

  pub never_both : (m : Module) (k : ℕ) (c : Cause) → Reads form text m → Stops form text k c → ⊥
  never_both m k c p q =
      laws.not_both end_of_text (module_rule form) (lexemes_of text p.0) m c [] q.2.0 p.2
      (subst (Stop c q.2.0) (same_tokens form text p.0 q.0 p.1 q.1) q.2.2)

  same_place : (j k a b n m : ℕ) → j + a ≡ n → k + b ≡ m → a ≡ b → m ≡ n → j ≡ k
  same_place j k a b n m p q e f = omega arith

  pub one_stop : (j k : ℕ) (c d : Cause) → Stops form text j c → Stops form text k d → (j ≡ k) × (c ≡ d)
  one_stop j k c d p q =
      let e = same_tokens form text p.0 q.0 p.1 q.1 in
      let both = laws.one_stop end_of_text (module_rule form) (lexemes_of text p.0) c d p.2.0 q.2.0 p.2.2 (subst (Stop d q.2.0) e q.2.2) in
      (same_place j k (length p.2.0) (length q.2.0) (length p.0) (length q.0) p.2.1 q.2.1 (ap length both.1) (ap length e), both.0)
