-- One turn more.
use Rattle.std.proofs.Common.{◌≡◌, ◌<◌, ◌≤◌, ℕ, zero, suc, ◌-◌, Bool, true, false, List, [], ◌∷◌, ◌++◌, length, Result, Ok, refl, sym, subst, ap, ◌∙◌, arith}
use Rattle.std.proofs.lemmas.List.{append_assoc, append-nil}
use Rattle.ms_lex.specs.Grammar.{tail, Ends, done}
use Rattle.ms_lex.proofs.Exact.{shorter, sound}
use Rattle.ms_lex.specs.declared.kinds.Token.{Token}
use Rattle.ms_lex.specs.Tokens.{Text}
use Rattle.ms_ir.specs.declared.forms.Form.{Form}
use Rattle.ms_text_grammar.specs.declared.states.BodySoFar.{BodySoFar}
use Rattle.ms_text_grammar.specs.declared.states.ModuleSoFar.{ModuleSoFar}
use Rattle.ms_text_grammar.specs.declared.symbols.Symbol.TheVariants as s
use Rattle.ms_text_grammar.specs.Lexemes.{Lexeme, end_of_text, lexemes_of}
use Rattle.ms_text_grammar.specs.Bodies.{line_begins}
use Rattle.ms_text_grammar.specs.Lines.{line}
use Rattle.ms_text_grammar.specs.Modules.{entity_begins, entity, no_parts}
use Rattle.ms_text_grammar.specs.Texts.{ReadsUpTo}
use Rattle.ms_read_cursor.specs.Reading.{front, run}
use Rattle.ms_where_places.specs.declared.marks.Mark.{Mark}
use Rattle.ms_where_places.specs.Turns.{Passes}
use Rattle.ms_read_body.specs.Headed.{heading}
use Rattle.ms_where_places.specs.Marks.{AreMarks, LinesAdd, FunctionAdds, InnerAdds, EntitiesAdd, EntityAdds, LineBrings, EntityBrings, EntitiesPass, line_marks, entity_kind, marks_of}

module _ {T R S P : Type 0} (begins : S → T → Result Bool R) (TurnReads : S → T → List T → S → List T → Type 0) (Brings : S → List T → List T → List P → Type 0) where
  abbrev Pass : ℕ → S → List T → S → List T → List P → Type 0
  Pass = Passes begins TurnReads Brings

  -- a last turn more
  pub one_more : (n : ℕ) (s : S) (ts : List T) (v : S) (t : T) (us : List T) (w : S) (rest : List T) (found here : List P)
      → Pass n s ts v (t ∷ us) found → begins v t ≡ Ok true → TurnReads v t us w rest → Brings v (t ∷ us) rest here → Pass (suc n) s ts w rest (found ++ here)
  one_more zero s ts v t us w rest found here h b r x =
      let from : Pass (suc zero) v (t ∷ us) w rest here = (b, w, rest, r, here, x, [], (refl, refl, refl), sym (append-nil here)) in
      subst (λ found. Pass (suc zero) s ts w rest (found ++ here)) (sym h.2)
      (subst (λ s. Pass (suc zero) s ts w rest here) h.0 (subst (λ ts. Pass (suc zero) v ts w rest here) h.1 from))
  one_more (suc n) s [] v t us w rest found here h b r x = absurd h
  one_more (suc n) s (a ∷ ts) v t us w rest found here h b r x =
      let further = one_more n h.1 h.2 v t us w rest h.6 here h.7 b r x in
      (h.0, h.1, h.2, h.3, h.4, h.5, h.6 ++ here, further, ap (λ l. l ++ here) h.8 ∙ append_assoc h.4 h.6 here)

module _ (form : Form) (total : ℕ) where
  -- ---- lines

  pub lines_none : (b : BodySoFar) (ts : List Lexeme) (old : List Mark) → LinesAdd form total b ts b ts old old
  lines_none b ts old = record { turns = 0; more = []; pass = (refl, refl, refl); grown = sym (append-nil old) }

  pub lines_more : (b : BodySoFar) (ts : List Lexeme) (v : BodySoFar) (us : List Lexeme) (w : BodySoFar) (rest : List Lexeme) (old mid new : List Mark)
      → LinesAdd form total b ts v us old mid → 0 < length us → line_begins form v (front us) ≡ Ok true → run (line form v (front us)) (tail us) ≡ done w rest
      → new ≡ mid ++ line_marks total us rest → LinesAdd form total b ts w rest old new
  lines_more b ts v [] w rest old mid new a some h r e = absurd (omega arith)
  lines_more b ts v (t ∷ us) w rest old mid new a some h r e =
      let here = line_marks total (t ∷ us) rest in
      record {
        turns = suc a.turns;
        more = a.more ++ here;
        pass = one_more (line_begins form) (λ b t. ReadsUpTo (line form b t)) (LineBrings total) a.turns b ts v t us w rest a.more here a.pass h (sound end_of_text (line form v t) us w rest r) refl;
        grown = e ∙ ap (λ l. l ++ here) a.grown ∙ append_assoc old a.more here;
      }

  pub line_moves : (v : BodySoFar) (us : List Lexeme) (w : BodySoFar) (rest : List Lexeme) → 0 < length us → run (line form v (front us)) (tail us) ≡ done w rest → length rest < length us
  line_moves v [] w rest some r = absurd (omega arith)
  line_moves v (t ∷ us) w rest some r = let less = shorter end_of_text (line form v t) us w rest r in omega arith

  pub lines_end : (v : BodySoFar) (us : List Lexeme) → line_begins form v (front us) ≡ Ok false → Ends (line_begins form) v us
  lines_end v [] h = tt
  lines_end v (t ∷ us) h = h

  pub none_left : (v : BodySoFar) (us : List Lexeme) → length us ≤ 0 → Ends (line_begins form) v us
  none_left v [] h = tt
  none_left v (t ∷ us) h = absurd (omega arith)

  pub function_has : (before : ℕ) (ts : List Lexeme) (start : BodySoFar) (inside : List Lexeme) (last : BodySoFar) (rest : List Lexeme) (old new : List Mark)
      → run (heading form before) ts ≡ done start inside → LinesAdd form total start inside last rest old new → Ends (line_begins form) last rest → FunctionAdds form total before ts old new
  function_has before ts start inside last rest old new h a e =
      record {
        more = a.more;
        lines = record { start = start; inside = inside; head = sound end_of_text (heading form before) ts start inside h; lines = a.turns; last = last; rest = rest; pass = a.pass; ends = e };
        grown = a.grown;
      }

  -- ---- entities

  pub function_inner : (before : ℕ) (ts : List Lexeme) (old new : List Mark) → FunctionAdds form total before ts old new → InnerAdds s.Define form total before ts old new
  function_inner before ts old new a = record { more = a.more; lines = a.lines; grown = a.grown }

  pub entity_adds : (p : ModuleSoFar) (ts rest : List Lexeme) (old mid new : List Mark) → InnerAdds (front ts).symbol form total p.count (tail ts) old mid
      → new ≡ mid ++ marks_of (entity_kind (front ts).symbol) (total - length ts) (total - length rest) → EntityAdds form total p ts rest old new
  entity_adds p ts rest old mid new a e =
      let itself = marks_of (entity_kind (front ts).symbol) (total - length ts) (total - length rest) in
      record {
        more = a.more ++ itself;
        brings = record { lines = a.more; inner = a.lines; whole = refl };
        grown = e ∙ ap (λ l. l ++ itself) a.grown ∙ append_assoc old a.more itself;
      }

  pub entities_none : (p : ModuleSoFar) (ts : List Lexeme) (old : List Mark) → EntitiesAdd form total p ts p ts old old
  entities_none p ts old = record { turns = 0; more = []; pass = (refl, refl, refl); grown = sym (append-nil old) }

  pub entities_more : (p : ModuleSoFar) (ts : List Lexeme) (v : ModuleSoFar) (us : List Lexeme) (w : ModuleSoFar) (rest : List Lexeme) (old mid new : List Mark)
      → EntitiesAdd form total p ts v us old mid → 0 < length us → entity_begins form v (front us) ≡ Ok true → run (entity form v (front us)) (tail us) ≡ done w rest
      → EntityAdds form total v us rest mid new → EntitiesAdd form total p ts w rest old new
  entities_more p ts v [] w rest old mid new a some h r e = absurd (omega arith)
  entities_more p ts v (t ∷ us) w rest old mid new a some h r e =
      record {
        turns = suc a.turns;
        more = a.more ++ e.more;
        pass = one_more (entity_begins form) (λ p t. ReadsUpTo (entity form p t)) (EntityBrings form total) a.turns p ts v t us w rest a.more e.more a.pass h (sound end_of_text (entity form v t) us w rest r) e.brings;
        grown = e.grown ∙ ap (λ l. l ++ e.more) a.grown ∙ append_assoc old a.more e.more;
      }

  pub entity_moves : (v : ModuleSoFar) (us : List Lexeme) (w : ModuleSoFar) (rest : List Lexeme) → 0 < length us → run (entity form v (front us)) (tail us) ≡ done w rest → length rest < length us
  entity_moves v [] w rest some r = absurd (omega arith)
  entity_moves v (t ∷ us) w rest some r = let less = shorter end_of_text (entity form v t) us w rest r in omega arith

  pub entities_end : (v : ModuleSoFar) (us : List Lexeme) → entity_begins form v (front us) ≡ Ok false → Ends (entity_begins form) v us
  entities_end v [] h = tt
  entities_end v (t ∷ us) h = h

  pub no_entity_left : (v : ModuleSoFar) (us : List Lexeme) → length us ≤ 0 → Ends (entity_begins form) v us
  no_entity_left v [] h = tt
  no_entity_left v (t ∷ us) h = absurd (omega arith)

pub all_marks : (form : Form) (text : Text) (tokens : List Token) (v : ModuleSoFar) (rest : List Lexeme) (found : List Mark)
    → EntitiesAdd form (length tokens) no_parts (lexemes_of text tokens) v rest [] found → Ends (entity_begins form) v rest → AreMarks form text tokens found
all_marks form text tokens v rest found a e =
    record { entities = a.turns; parts = v; rest = rest; pass = subst (EntitiesPass form (length tokens) a.turns no_parts (lexemes_of text tokens) v rest) (sym a.grown) a.pass; ends = e }
