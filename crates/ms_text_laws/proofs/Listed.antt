-- Lists with commas between are read as what they were written of.
use Rattle.std.proofs.Common.{◌≡◌, Bool, true, false, ◌&&◌, List, [], ◌∷◌, ◌++◌, Ok, refl, ap, append_assoc}
use Rattle.ms_lex.specs.Grammar.{head, loop}
use Rattle.ms_text_grammar.specs.declared.symbols.Symbol.{Symbol}
use Rattle.ms_text_grammar.specs.declared.symbols.Symbol.TheVariants as s
use Rattle.ms_text_grammar.specs.Lexemes.{Lexeme, end_of_text, is, same_symbol, symbol_of}
use Rattle.ms_text_grammar.specs.Steps.{Rule, word, comma_begins, listed}
use Rattle.ms_text_grammar.specs.LayoutPieces.{comma, after_commas, with_commas}
use Rattle.ms_text_laws.proofs.Takes.{Takes, given, taken, seen, chain, turned, ended, along}

-- Part after part takes the state further, before tokens that pass the test.
abbrev pub AllTake : {S : Type 0} → (Lexeme → Bool) → (S → Bool) → (S → Rule S) → List (List Lexeme) → S → S → Type 0
AllTake good more item [] start end = end ≡ start
AllTake {S} good more item (part ∷ parts) start end =
    (more start ≡ true) × (next : S) × ((rest : List Lexeme) → good (head end_of_text rest) ≡ true → Takes (item start) (part ++ rest) next rest) × AllTake good more item parts next end

pub comma_symbol : comma.symbol ≡ s.Comma
unfolding symbol_of
comma_symbol = refl

pub comma_is : is s.Comma comma ≡ true
unfolding symbol_of same_symbol
comma_is = refl

-- the closing token, after which the rest stands
pub record Closing (good : Lexeme → Bool) (closing : Symbol) (close : Lexeme) : Type 0 where
  pub closes : is closing close ≡ true
  pub no_comma : is s.Comma close ≡ false
  pub allowed : good close ≡ true
  pub comma_allowed : good comma ≡ true

module _ {S : Type 0} (good : Lexeme → Bool) (more : S → Bool) (item : S → Rule S) (closing : Symbol) (close : Lexeme) (c : Closing good closing close) where
  after_allowed : (parts : List (List Lexeme)) (rest : List Lexeme) → good (head end_of_text (after_commas parts ++ close ∷ rest)) ≡ true
  after_allowed [] rest = c.allowed
  after_allowed (part ∷ parts) rest = c.comma_allowed

  and_true : (a b : Bool) → a ≡ true → b ≡ true → (a && b) ≡ true
  and_true true b p q = q
  and_true false b p q = p

  and_false : (a b : Bool) → b ≡ false → (a && b) ≡ false
  and_false true b p = p
  and_false false b p = refl

  pub loop_back : (parts : List (List Lexeme)) (start end : S) (rest : List Lexeme) → AllTake good more item parts start end
      → Takes (loop (comma_begins more) (λ state separator. item state) start) (after_commas parts ++ close ∷ rest) end (close ∷ rest)
  loop_back [] start end rest h = rw h (ended (ap Ok (and_false (more start) (is s.Comma close) c.no_comma)))
  loop_back (part ∷ parts) start end rest h =
      turned (ap Ok (and_true (more start) (is s.Comma comma) h.0 comma_is))
      (along (append_assoc part (after_commas parts) (close ∷ rest)) (h.2 (after_commas parts ++ close ∷ rest) (after_allowed parts rest)))
      (loop_back parts h.1 end rest h.3)

  pub close_taken : (rest : List Lexeme) → Takes (word closing) (close ∷ rest) tt rest
  unfolding word
  close_taken rest = taken (rw c.closes refl)

  -- the first part doesn't begin with the closing symbol
  abbrev Begins : List (List Lexeme) → Type 0
  Begins [] = Unit {0}
  Begins (part ∷ parts) = (rest : List Lexeme) → is closing (head end_of_text (part ++ rest)) ≡ false

  pub listed_back : (parts : List (List Lexeme)) (start end : S) (rest : List Lexeme) → Begins parts → AllTake good more item parts start end
      → Takes (listed closing more item start) (with_commas parts ++ close ∷ rest) end rest
  unfolding listed
  listed_back [] start end rest b h = rw h (chain (seen (ap Ok c.closes)) (chain (taken refl) given))
  listed_back (part ∷ parts) start end rest b h =
      let after : List Lexeme = after_commas parts ++ close ∷ rest in
      along (append_assoc part (after_commas parts) (close ∷ rest))
      (chain (seen (ap Ok (b after))) (chain (h.2 after (after_allowed parts rest)) (chain (loop_back parts h.1 end rest h.3) (chain (close_taken rest) given))))
