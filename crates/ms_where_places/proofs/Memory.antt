-- Where a text reads as a module, no error comes but that memory ran out.
use Rattle.std.proofs.Common.{◌≡◌, ◌≢◌, ◌<◌, ℕ, zero, suc, Bool, true, false, List, [], ◌∷◌, length, Result, Ok, Err, refl, sym, subst, arith}
use Rattle.std.specs.Prelude.{IfErr, IsErrAnd}
use Rattle.ms_lex.specs.declared.kinds.Token.{Token}
use Rattle.ms_lex.specs.Tokens.{Text}
use Rattle.ms_lex.specs.Grammar.{Turns, loop, tail, done, fails}
use Rattle.ms_lex.proofs.Exact.{sound, stop_sound}
use Rattle.ms_lex.proofs.Relations.{one_reading, not_both}
use Rattle.ms_ir.specs.declared.syntax.Func.{Func}
use Rattle.ms_ir.specs.declared.syntax.Module.{Module}
use Rattle.ms_ir.specs.declared.forms.Form.{Form}
use Rattle.ms_text_grammar.specs.declared.refusals.Cause.{Cause}
use Rattle.ms_text_grammar.specs.declared.refusals.Cause.TheVariants as r
use Rattle.ms_text_grammar.specs.declared.symbols.Symbol.TheVariants as s
use Rattle.ms_text_grammar.specs.declared.states.BodySoFar.{BodySoFar}
use Rattle.ms_text_grammar.specs.declared.states.ModuleSoFar.{ModuleSoFar}
use Rattle.ms_text_grammar.specs.Lexemes.{Lexeme, end_of_text, lexemes_of}
use Rattle.ms_text_grammar.specs.Steps.{Rule}
use Rattle.ms_text_grammar.specs.Bodies.{line_begins}
use Rattle.ms_text_grammar.specs.Functions.{body_after, function}
use Rattle.ms_text_grammar.specs.Lines.{blocks, line}
use Rattle.ms_text_grammar.specs.Modules.{entity, entity_begins, entity_by, module_rule, no_parts}
use Rattle.ms_text_grammar.specs.Texts.{HasTokens, Reads, ReadsUpTo}
use Rattle.ms_text_grammar.proofs.Readings.{same_tokens}
use Rattle.ms_read_cursor.specs.Reading.{front, run}
use Rattle.ms_read_body.specs.Headed.{heading}
use Rattle.ms_where_places.proofs.Headings.{headed}
use Rattle.ms_where_places.specs.declared.marks.Mark.{Mark}
use Rattle.ms_where_places.specs.Turns.{Passes}
use Rattle.ms_where_places.specs.Failures.{OnlyMemory}
use Rattle.ms_where_places.specs.Marks.{EntitiesAdd, EntityBrings, LineBrings, LinesAdd}

is_memory : (cause : Cause) → (cause ≢ r.NoMemory → ⊥) → cause ≡ r.NoMemory
is_memory r.Syntax h = absurd (h (λ p. cc))
is_memory (r.Outside construct) h = absurd (h (λ p. cc))
is_memory (r.Limit limit) h = absurd (h (λ p. cc))
is_memory r.Numbering h = absurd (h (λ p. cc))
is_memory r.Reserved h = absurd (h (λ p. cc))
is_memory r.NoMemory h = refl

-- what `?` returns
pub returned : {A : Type 0} (result : Result A Cause) (cause : Cause) (Is : Cause → Type 0) → IsErrAnd result (λ e. e ≡ cause) → Is cause → IfErr result Is
returned (Ok a) cause Is h is = absurd h
returned (Err e) cause Is h is = subst Is (sym h) is

pub is_only : {A : Type 0} (rule : Rule A) (ts : List Lexeme) (cause : Cause) → cause ≡ r.NoMemory → OnlyMemory rule ts cause
is_only rule ts cause e = record { memory = λ a rest reads. e }

-- what a reader gives
pub gave : {A : Type 0} (rule : Rule A) (ts left : List Lexeme) (cause : Cause) → (cause ≢ r.NoMemory → run rule ts ≡ fails cause left) → OnlyMemory rule ts cause
gave rule ts left cause h = record { memory = λ a rest reads. is_memory cause (λ real. not_both end_of_text rule ts a cause rest left reads (stop_sound end_of_text rule ts cause left (h real))) }

no_such : (v : Result Bool Cause) (cause : Cause) (b : Bool) → v ≡ Err cause → v ≡ Ok b → ⊥
no_such v cause b p q = cc

not_so : (v : Result Bool Cause) → v ≡ Ok true → v ≡ Ok false → ⊥
not_so v p q = cc

-- ---- loops

module _ {S : Type 0} (begins : S → Lexeme → Result Bool Cause) (body : S → Lexeme → Rule S) where
  -- what is read from a state is read on from each state that it comes to
  further : {P : Type 0} (Brings : S → List Lexeme → List Lexeme → List P → Type 0) (n k : ℕ) (s : S) (ts : List Lexeme) (v : S) (us : List Lexeme) (found : List P) (w : S) (rest : List Lexeme)
      → Passes begins (λ s t. ReadsUpTo (body s t)) Brings n s ts v us found → Turns begins (λ s t. ReadsUpTo (body s t)) k s ts w rest → ReadsUpTo (loop begins body v) us w rest
  further Brings zero k s ts v us found w rest h turns =
      (k, subst (λ a. Turns begins (λ s t. ReadsUpTo (body s t)) k a us w rest) (sym h.0) (subst (λ l. Turns begins (λ s t. ReadsUpTo (body s t)) k s l w rest) (sym h.1) turns))
  further Brings (suc n) k s [] v us found w rest h turns = absurd h
  further Brings (suc n) zero s (t ∷ ts) v us found w rest h turns = absurd (not_so (begins s t) h.0 turns.0)
  further Brings (suc n) (suc k) s (t ∷ ts) v us found w rest h turns =
      let same = one_reading end_of_text (body s t) ts h.1 turns.1 h.2 turns.2 h.3 turns.3 in
      let from = subst (λ a. Turns begins (λ s t. ReadsUpTo (body s t)) k a turns.2 w rest) (sym same.0) turns.4 in
      further Brings n k h.1 h.2 v us h.6 w rest h.7 (subst (λ l. Turns begins (λ s t. ReadsUpTo (body s t)) k h.1 l w rest) (sym same.1) from)

  no_beginning_by : (v : S) (t : Lexeme) (us : List Lexeme) (cause : Cause) (k : ℕ) (w : S) (rest : List Lexeme) → begins v t ≡ Err cause → Turns begins (λ s t. ReadsUpTo (body s t)) k v (t ∷ us) w rest → ⊥
  no_beginning_by v t us cause zero w rest e turns = no_such (begins v t) cause false e turns.0
  no_beginning_by v t us cause (suc k) w rest e turns = no_such (begins v t) cause true e turns.0

  -- the next token was refused as the beginning of a turn
  no_beginning : (v : S) (us : List Lexeme) (cause : Cause) → 0 < length us → (cause ≢ r.NoMemory → begins v (front us) ≡ Err cause) → OnlyMemory (loop begins body v) us cause
  no_beginning v [] cause some h = absurd (omega arith)
  no_beginning v (t ∷ us) cause some h = record { memory = λ w rest reads. is_memory cause (λ real. no_beginning_by v t us cause reads.0 w rest (h real) reads.1) }

  no_turn_by : (v : S) (t : Lexeme) (us : List Lexeme) (cause : Cause) (k : ℕ) (w : S) (rest : List Lexeme) → begins v t ≡ Ok true → OnlyMemory (body v t) us cause
      → Turns begins (λ s t. ReadsUpTo (body s t)) k v (t ∷ us) w rest → cause ≡ r.NoMemory
  no_turn_by v t us cause zero w rest b o turns = absurd (not_so (begins v t) b turns.0)
  no_turn_by v t us cause (suc k) w rest b o turns = o.memory turns.1 turns.2 turns.3

  -- the turn that the next token begins failed
  no_turn : (v : S) (us : List Lexeme) (cause : Cause) → 0 < length us → begins v (front us) ≡ Ok true → OnlyMemory (body v (front us)) (tail us) cause → OnlyMemory (loop begins body v) us cause
  no_turn v [] cause some b o = absurd (omega arith)
  no_turn v (t ∷ us) cause some b o = record { memory = λ w rest reads. no_turn_by v t us cause reads.0 w rest b o reads.1 }

module _ (form : Form) (total : ℕ) where
  -- ---- lines

  lines_memory : (b : BodySoFar) (ts : List Lexeme) (v : BodySoFar) (us : List Lexeme) (old mid : List Mark) (cause : Cause) → LinesAdd form total b ts v us old mid
      → OnlyMemory (loop (line_begins form) (line form) v) us cause → OnlyMemory (loop (line_begins form) (line form) b) ts cause
  lines_memory b ts v us old mid cause a o =
      record { memory = λ w rest reads. o.memory w rest (further (line_begins form) (line form) (LineBrings total) a.turns reads.0 b ts v us a.more w rest a.pass reads.1) }

  pub line_not_begun : (b : BodySoFar) (ts : List Lexeme) (v : BodySoFar) (us : List Lexeme) (old mid : List Mark) (cause : Cause) → LinesAdd form total b ts v us old mid → 0 < length us
      → (cause ≢ r.NoMemory → line_begins form v (front us) ≡ Err cause) → OnlyMemory (loop (line_begins form) (line form) b) ts cause
  line_not_begun b ts v us old mid cause a some h = lines_memory b ts v us old mid cause a (no_beginning (line_begins form) (line form) v us cause some h)

  pub line_not_read : (b : BodySoFar) (ts : List Lexeme) (v : BodySoFar) (us : List Lexeme) (old mid : List Mark) (cause : Cause) → LinesAdd form total b ts v us old mid → 0 < length us
      → line_begins form v (front us) ≡ Ok true → OnlyMemory (line form v (front us)) (tail us) cause → OnlyMemory (loop (line_begins form) (line form) b) ts cause
  line_not_read b ts v us old mid cause a some h o = lines_memory b ts v us old mid cause a (no_turn (line_begins form) (line form) v us cause some h o)

  -- ---- entities

  entities_memory : (p : ModuleSoFar) (ts : List Lexeme) (v : ModuleSoFar) (us : List Lexeme) (old mid : List Mark) (cause : Cause) → EntitiesAdd form total p ts v us old mid
      → OnlyMemory (loop (entity_begins form) (entity form) v) us cause → OnlyMemory (loop (entity_begins form) (entity form) p) ts cause
  entities_memory p ts v us old mid cause a o =
      record { memory = λ w rest reads. o.memory w rest (further (entity_begins form) (entity form) (EntityBrings form total) a.turns reads.0 p ts v us a.more w rest a.pass reads.1) }

  pub entity_not_begun : (p : ModuleSoFar) (ts : List Lexeme) (v : ModuleSoFar) (us : List Lexeme) (old mid : List Mark) (cause : Cause) → EntitiesAdd form total p ts v us old mid → 0 < length us
      → (cause ≢ r.NoMemory → entity_begins form v (front us) ≡ Err cause) → OnlyMemory (loop (entity_begins form) (entity form) p) ts cause
  entity_not_begun p ts v us old mid cause a some h = entities_memory p ts v us old mid cause a (no_beginning (entity_begins form) (entity form) v us cause some h)

  pub entity_not_read : (p : ModuleSoFar) (ts : List Lexeme) (v : ModuleSoFar) (us : List Lexeme) (old mid : List Mark) (cause : Cause) → EntitiesAdd form total p ts v us old mid → 0 < length us
      → entity_begins form v (front us) ≡ Ok true → OnlyMemory (entity form v (front us)) (tail us) cause → OnlyMemory (loop (entity_begins form) (entity form) p) ts cause
  entity_not_read p ts v us old mid cause a some h o = entities_memory p ts v us old mid cause a (no_turn (entity_begins form) (entity form) v us cause some h o)

module _ (form : Form) (before : ℕ) (ts : List Lexeme) (cause : Cause) where
  -- ---- functions

  pub heading_not_read : (left : List Lexeme) → (cause ≢ r.NoMemory → run (heading form before) ts ≡ fails cause left) → OnlyMemory (function form before) ts cause
  heading_not_read left h =
      let o = gave (heading form before) ts left cause h in
      record { memory = λ f rest reads. let read = headed form before ts f rest reads in o.memory (body_after read.parameters before) read.inside read.head }

  lines_read : (start : BodySoFar) (inside : List Lexeme) (f : Func) (rest : List Lexeme) → ReadsUpTo (heading form before) ts start inside → ReadsUpTo (function form before) ts f rest
      → (last : BodySoFar) × (left : List Lexeme) × ReadsUpTo (loop (line_begins form) (line form) start) inside last left
  unfolding blocks
  lines_read start inside f rest head reads =
      let read = headed form before ts f rest reads in
      let same = one_reading end_of_text (heading form before) ts start (body_after read.parameters before) inside read.inside head read.head in
      let from = subst (λ b. ReadsUpTo (loop (line_begins form) (line form) b) read.inside read.body.0 read.body.1) (sym same.0) read.body.2 in
      (read.body.0, read.body.1, subst (λ us. ReadsUpTo (loop (line_begins form) (line form) start) us read.body.0 read.body.1) (sym same.1) from)

  pub lines_not_read : (start : BodySoFar) (inside : List Lexeme) → run (heading form before) ts ≡ done start inside → OnlyMemory (loop (line_begins form) (line form) start) inside cause
      → OnlyMemory (function form before) ts cause
  lines_not_read start inside h o =
      record { memory = λ f rest reads. let read = lines_read start inside f rest (sound end_of_text (heading form before) ts start inside h) reads in o.memory read.0 read.1 read.2 }

-- the lines of an entity
function_not_read : (form : Form) (p : ModuleSoFar) (t : Lexeme) (ts : List Lexeme) (cause : Cause) → t.symbol ≡ s.Define → OnlyMemory (function form p.count) ts cause
    → (v : ModuleSoFar) (rest : List Lexeme) → ReadsUpTo (entity form p t) ts v rest → cause ≡ r.NoMemory
unfolding entity
function_not_read form p t ts cause e o v rest reads =
    let read = subst (λ a. ReadsUpTo (entity_by form p a t) ts v rest) e reads in
    o.memory read.0 read.1 read.2

pub inner_not_read : (form : Form) (p : ModuleSoFar) (t : Lexeme) (ts : List Lexeme) (cause : Cause) → t.symbol ≡ s.Define → OnlyMemory (function form p.count) ts cause → OnlyMemory (entity form p t) ts cause
inner_not_read form p t ts cause e o = record { memory = λ v rest reads. function_not_read form p t ts cause e o v rest reads }

-- ---- texts

entities_read : (form : Form) (text : Text) (tokens : List Token) (m : Module) → Reads form text m → HasTokens form text tokens
    → (v : ModuleSoFar) × (rest : List Lexeme) × ReadsUpTo (loop (entity_begins form) (entity form) no_parts) (lexemes_of text tokens) v rest
unfolding module_rule
entities_read form text tokens m reads has =
    let same = same_tokens form text tokens reads.0 has reads.1 in
    (reads.2.0, reads.2.1, subst (λ ts. ReadsUpTo (loop (entity_begins form) (entity form) no_parts) (lexemes_of text ts) reads.2.0 reads.2.1) same reads.2.2)

pub module_not_read : (form : Form) (text : Text) (tokens : List Token) (cause : Cause) → OnlyMemory (loop (entity_begins form) (entity form) no_parts) (lexemes_of text tokens) cause
    → (m : Module) → Reads form text m → HasTokens form text tokens → cause ≡ r.NoMemory
module_not_read form text tokens cause o m reads has = let read = entities_read form text tokens m reads has in o.memory read.0 read.1 read.2
