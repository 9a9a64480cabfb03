-- Where the functions, the instructions, the debug records and the nodes of metadata of a text stand, by the turns of its reading.
use Rattle.std.specs.Prelude.{◌≡◌, ℕ, ◌-◌, List, [], ◌∷◌, ◌++◌, length, Option, Some, None}
use Rattle.ms_lex.specs.declared.kinds.Token.{Token}
use Rattle.ms_lex.specs.Tokens.{Text}
use Rattle.ms_lex.specs.Grammar.{Ends, tail}
use Rattle.ms_ir.specs.declared.forms.Form.{Form}
use Rattle.ms_text_grammar.specs.declared.symbols.Symbol.{Symbol}
use Rattle.ms_text_grammar.specs.declared.symbols.Symbol.TheVariants as s
use Rattle.ms_text_grammar.specs.declared.states.BodySoFar.{BodySoFar}
use Rattle.ms_text_grammar.specs.declared.states.ModuleSoFar.{ModuleSoFar}
use Rattle.ms_text_grammar.specs.Lexemes.{Lexeme, lexemes_of}
use Rattle.ms_text_grammar.specs.Bodies.{line_begins}
use Rattle.ms_text_grammar.specs.Lines.{line}
use Rattle.ms_text_grammar.specs.Modules.{entity_begins, entity, no_parts}
use Rattle.ms_text_grammar.specs.Texts.{ReadsUpTo}
use Rattle.ms_read_cursor.specs.Reading.{front}
use Rattle.ms_read_body.specs.Headed.{heading}
use Rattle.ms_where_places.specs.declared.marks.MarkKind.{MarkKind}
use Rattle.ms_where_places.specs.declared.marks.MarkKind.TheVariants as k
use Rattle.ms_where_places.specs.declared.marks.Mark.{Mark}
use Rattle.ms_where_places.specs.Turns.{Passes}

-- ---- kinds

-- What a line is, by the symbol that begins it: a label has no mark, and what is neither a label nor a debug record is an
-- instruction (LLVM Language Reference, "Functions").
abbrev pub line_kind : Symbol → Option MarkKind
line_kind s.Label = None
line_kind s.NumberedLabel = None
line_kind s.DebugGroup = Some k.Record
line_kind symbol = Some k.Instruction

-- what an entity is, by the symbol that begins it (LLVM Language Reference, "Module Structure")
abbrev pub entity_kind : Symbol → Option MarkKind
entity_kind s.Define = Some k.Function
entity_kind s.Meta = Some k.Node
entity_kind symbol = None

-- what has a kind has a mark, from its first token up to the first one after it
abbrev pub marks_of : Option MarkKind → ℕ → ℕ → List Mark
marks_of None first after = []
marks_of (Some kind) first after = record { kind = kind; first = first; after = after } ∷ []

-- ---- in a function; `total` is the number of the text's tokens

-- the mark of a line from one rest of the tokens up to another
abbrev pub line_marks : (total : ℕ) → List Lexeme → List Lexeme → List Mark
line_marks total ts rest = marks_of (line_kind (front ts).symbol) (total - length ts) (total - length rest)

abbrev pub LineBrings : (total : ℕ) → BodySoFar → List Lexeme → List Lexeme → List Mark → Type 0
LineBrings total b ts rest here = here ≡ line_marks total ts rest

-- so many lines are read, and bring these
abbrev pub LinesPass : Form → (total : ℕ) → ℕ → BodySoFar → List Lexeme → BodySoFar → List Lexeme → List Mark → Type 0
LinesPass form total = Passes (line_begins form) (λ b t. ReadsUpTo (line form b t)) (LineBrings total)

-- a function after `define`, which so many instructions of the text stand before, has these lines
pub record HasLines (form : Form) (total before : ℕ) (ts : List Lexeme) (found : List Mark) : Type 0 where
  pub start : BodySoFar
  pub inside : List Lexeme
  pub head : ReadsUpTo (heading form before) ts start inside
  pub lines : ℕ
  pub last : BodySoFar
  pub rest : List Lexeme
  pub pass : LinesPass form total lines start inside last rest found
  pub ends : Ends (line_begins form) last rest

-- ---- in a module

-- the lines of an entity after its first token, which has this symbol
abbrev pub HasInner : Symbol → Form → (total before : ℕ) → List Lexeme → List Mark → Type 0
HasInner s.Define form total before ts found = HasLines form total before ts found
HasInner symbol form total before ts found = found ≡ []

-- what an entity brings: its lines, and then itself
pub record EntityBrings (form : Form) (total : ℕ) (p : ModuleSoFar) (ts rest : List Lexeme) (here : List Mark) : Type 0 where
  pub lines : List Mark
  pub inner : HasInner (front ts).symbol form total p.count (tail ts) lines
  pub whole : here ≡ lines ++ marks_of (entity_kind (front ts).symbol) (total - length ts) (total - length rest)

-- so many entities are read, and bring these
abbrev pub EntitiesPass : Form → (total : ℕ) → ℕ → ModuleSoFar → List Lexeme → ModuleSoFar → List Lexeme → List Mark → Type 0
EntitiesPass form total = Passes (entity_begins form) (λ p t. ReadsUpTo (entity form p t)) (EntityBrings form total)

-- what stands in the tokens of a text, from the first to the last
pub record AreMarks (form : Form) (text : Text) (tokens : List Token) (found : List Mark) : Type 0 where
  pub entities : ℕ
  pub parts : ModuleSoFar
  pub rest : List Lexeme
  pub pass : EntitiesPass form (length tokens) entities no_parts (lexemes_of text tokens) parts rest found
  pub ends : Ends (entity_begins form) parts rest

-- ---- growing lists

-- a list grew by what so many lines bring
pub record LinesAdd (form : Form) (total : ℕ) (b : BodySoFar) (ts : List Lexeme) (v : BodySoFar) (rest : List Lexeme) (old new : List Mark) : Type 0 where
  pub turns : ℕ
  pub more : List Mark
  pub pass : LinesPass form total turns b ts v rest more
  pub grown : new ≡ old ++ more

-- by the lines of a function
pub record FunctionAdds (form : Form) (total before : ℕ) (ts : List Lexeme) (old new : List Mark) : Type 0 where
  pub more : List Mark
  pub lines : HasLines form total before ts more
  pub grown : new ≡ old ++ more

-- by the lines of an entity
pub record InnerAdds (symbol : Symbol) (form : Form) (total before : ℕ) (ts : List Lexeme) (old new : List Mark) : Type 0 where
  pub more : List Mark
  pub lines : HasInner symbol form total before ts more
  pub grown : new ≡ old ++ more

-- by an entity
pub record EntityAdds (form : Form) (total : ℕ) (p : ModuleSoFar) (ts rest : List Lexeme) (old new : List Mark) : Type 0 where
  pub more : List Mark
  pub brings : EntityBrings form total p ts rest more
  pub grown : new ≡ old ++ more

-- by so many entities
pub record EntitiesAdd (form : Form) (total : ℕ) (p : ModuleSoFar) (ts : List Lexeme) (v : ModuleSoFar) (rest : List Lexeme) (old new : List Mark) : Type 0 where
  pub turns : ℕ
  pub more : List Mark
  pub pass : EntitiesPass form total turns p ts v rest more
  pub grown : new ≡ old ++ more
