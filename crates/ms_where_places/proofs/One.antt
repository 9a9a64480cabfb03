-- A text has one list of marks.
use Rattle.std.proofs.Common.{◌≡◌, ℕ, zero, suc, Bool, true, false, List, [], ◌∷◌, ◌++◌, ◌-◌, length, Result, Ok, sym, subst, ap, ◌∙◌}
use Rattle.ms_lex.specs.declared.kinds.Token.{Token}
use Rattle.ms_lex.specs.Tokens.{Text}
use Rattle.ms_lex.specs.Grammar.{Ends, tail}
use Rattle.ms_lex.proofs.Relations.{one_reading}
use Rattle.ms_ir.specs.declared.forms.Form.{Form}
use Rattle.ms_text_grammar.specs.declared.symbols.Symbol.{Symbol}
use Rattle.ms_text_grammar.specs.declared.symbols.Symbol.TheVariants as s
use Rattle.ms_text_grammar.specs.declared.states.ModuleSoFar.{ModuleSoFar}
use Rattle.ms_text_grammar.specs.Lexemes.{Lexeme, end_of_text, lexemes_of}
use Rattle.ms_text_grammar.specs.Bodies.{line_begins}
use Rattle.ms_text_grammar.specs.Lines.{line}
use Rattle.ms_text_grammar.specs.Modules.{entity, entity_begins, no_parts}
use Rattle.ms_text_grammar.specs.Texts.{ReadsUpTo}
use Rattle.ms_read_cursor.specs.Reading.{front}
use Rattle.ms_read_body.specs.Headed.{heading}
use Rattle.ms_where_places.specs.declared.marks.Mark.{Mark}
use Rattle.ms_where_places.specs.Turns.{Passes}
use Rattle.ms_where_places.specs.Marks.{AreMarks, EntityBrings, HasInner, HasLines, LineBrings, LinesPass, entity_kind, marks_of}

-- turns that read one thing and bring one list bring one list together
module _ {T R S P : Type 0} (begins : S → T → Result Bool R) (TurnReads : S → T → List T → S → List T → Type 0) (Brings : S → List T → List T → List P → Type 0)
    (one_turn : (s : S) (t : T) (ts : List T) (v w : S) (x y : List T) → TurnReads s t ts v x → TurnReads s t ts w y → (v ≡ w) × (x ≡ y))
    (one_list : (s : S) (ts rest : List T) (found other : List P) → Brings s ts rest found → Brings s ts rest other → found ≡ other) where
  not_both : (r : Result Bool R) → r ≡ Ok true → r ≡ Ok false → ⊥
  not_both r p q = cc

  ended : (s : S) (t : T) (ts : List T) (v : S) (rest : List T) → v ≡ s → rest ≡ t ∷ ts → Ends begins v rest → begins s t ≡ Ok true → ⊥
  ended s t ts v rest p q e b = not_both (begins s t) b (subst (λ a. Ends begins a (t ∷ ts)) p (subst (Ends begins v) q e))

  one_pass : (n k : ℕ) (s : S) (ts : List T) (v w : S) (x y : List T) (found other : List P) → Passes begins TurnReads Brings n s ts v x found → Ends begins v x
      → Passes begins TurnReads Brings k s ts w y other → Ends begins w y → found ≡ other
  one_pass zero zero s ts v w x y found other h e i f = h.2 ∙ sym i.2
  one_pass zero (suc k) s [] v w x y found other h e i f = absurd i
  one_pass zero (suc k) s (t ∷ ts) v w x y found other h e i f = absurd (ended s t ts v x h.0 h.1 e i.0)
  one_pass (suc n) k s [] v w x y found other h e i f = absurd h
  one_pass (suc n) zero s (t ∷ ts) v w x y found other h e i f = absurd (ended s t ts w y i.0 i.1 f h.0)
  one_pass (suc n) (suc k) s (t ∷ ts) v w x y found other h e i f =
      let same = one_turn s t ts h.1 i.1 h.2 i.2 h.3 i.3 in
      let from = subst (λ a. Passes begins TurnReads Brings k a i.2 w y i.6) (sym same.0) i.7 in
      let pass = subst (λ us. Passes begins TurnReads Brings k h.1 us w y i.6) (sym same.1) from in
      let others = one_pass n k h.1 h.2 v w x y h.6 i.6 h.7 e pass f in
      let here = one_list s (t ∷ ts) h.2 h.4 i.4 h.5 (subst (λ us. Brings s (t ∷ ts) us i.4) (sym same.1) i.5) in
      h.8 ∙ ap (λ l. l ++ h.6) here ∙ ap (λ l. i.4 ++ l) others ∙ sym i.8

module _ (form : Form) (total : ℕ) where
  one_lines : (before : ℕ) (ts : List Lexeme) (found other : List Mark) → HasLines form total before ts found → HasLines form total before ts other → found ≡ other
  one_lines before ts found other a b =
      let same = one_reading end_of_text (heading form before) ts a.start b.start a.inside b.inside a.head b.head in
      let from = subst (λ s. LinesPass form total b.lines s b.inside b.last b.rest other) (sym same.0) b.pass in
      let pass = subst (λ us. LinesPass form total b.lines a.start us b.last b.rest other) (sym same.1) from in
      one_pass (line_begins form) (λ b t. ReadsUpTo (line form b t)) (LineBrings total) (λ b t ts v w x y p q. one_reading end_of_text (line form b t) ts v w x y p q)
      (λ s ts rest found other p q. p ∙ sym q) a.lines b.lines a.start a.inside a.last b.last a.rest b.rest found other a.pass a.ends pass b.ends

  one_inner : (a : Symbol) (before : ℕ) (ts : List Lexeme) (found other : List Mark) → HasInner a form total before ts found → HasInner a form total before ts other → found ≡ other
  one_inner s.Define before ts found other p q = one_lines before ts found other p q
  one_inner a before ts found other p q = p ∙ sym q

  one_entity : (p : ModuleSoFar) (ts rest : List Lexeme) (found other : List Mark) → EntityBrings form total p ts rest found → EntityBrings form total p ts rest other → found ≡ other
  one_entity p ts rest found other a b =
      a.whole ∙ ap (λ l. l ++ marks_of (entity_kind (front ts).symbol) (total - length ts) (total - length rest)) (one_inner (front ts).symbol p.count (tail ts) a.lines b.lines a.inner b.inner) ∙ sym b.whole

pub one_list_of_marks : (form : Form) (text : Text) (tokens : List Token) (found other : List Mark) → AreMarks form text tokens found → AreMarks form text tokens other → found ≡ other
one_list_of_marks form text tokens found other a b =
    one_pass (entity_begins form) (λ p t. ReadsUpTo (entity form p t)) (EntityBrings form (length tokens)) (λ p t ts v w x y h i. one_reading end_of_text (entity form p t) ts v w x y h i)
    (one_entity form (length tokens)) a.entities b.entities no_parts (lexemes_of text tokens) a.parts b.parts a.rest b.rest found other a.pass a.ends b.pass b.ends
