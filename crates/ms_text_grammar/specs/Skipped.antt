-- What is read over: tokens between brackets, attributes (LLVM Language Reference, "Parameter Attributes", "Function Attributes"),
-- and metadata after an instruction ("Metadata").
use Rattle.std.specs.Prelude.{Bool, true, false, ◌||◌, cond, if◌then◌else◌, List, [], ◌∷◌, Ok, Err}
use Rattle.ms_lex.specs.Grammar.{give, one, loop, ◌>>=◌, ◌>>◌}
use Rattle.ms_ir.specs.declared.forms.Form.{Form}
use Rattle.ms_ir.specs.declared.forms.Form.TheVariants.{Plain, Instrumented}
use Rattle.ms_text_grammar.specs.declared.symbols.Symbol.{Symbol}
use Rattle.ms_text_grammar.specs.declared.symbols.Symbol.TheVariants as s
use Rattle.ms_text_grammar.specs.declared.refusals.Cause.TheVariants as r
use Rattle.ms_text_grammar.specs.Lexemes.{Lexeme, is, name_in, same_symbol}
use Rattle.ms_text_grammar.specs.Steps.{Rule, Verdict, refusal, judge_map, next_symbol, refuse, skip, sees, word}
use Rattle.ms_text_grammar.specs.Names.{global_name, local_name}

-- ---- tokens in which brackets match. The state is the closing brackets that are awaited, the innermost first

-- a closing bracket
abbrev pub is_closer : Symbol → Bool
is_closer s.CloseParen = true
is_closer s.CloseBracket = true
is_closer s.CloseBrace = true
is_closer _ = false

-- the innermost bracket that is awaited
abbrev pub is_awaited : List Symbol → Symbol → Bool
is_awaited [] symbol = false
is_awaited (closer ∷ outer) symbol = same_symbol symbol closer

-- a name is judged also where it is read over; a number names nothing there
abbrev pub may_skip : Form → Symbol → Lexeme → Verdict Bool
may_skip form s.Global t = judge_map (λ n. true) (global_name form (name_in t))
may_skip form s.Local t = judge_map (λ n. true) (local_name form (name_in t))
may_skip form s.Label t = judge_map (λ n. true) (local_name form (name_in t))
may_skip form symbol t = Ok true

-- any token but a closing bracket that nothing awaits
abbrev pub balanced_begins : Form → List Symbol → Lexeme → Verdict Bool
balanced_begins form awaited t = if is_closer t.symbol then Ok (is_awaited awaited t.symbol) else may_skip form t.symbol t

-- the innermost bracket is closed
abbrev pub without_first : List Symbol → List Symbol
without_first [] = []
without_first (closer ∷ outer) = outer

-- what is awaited after a token
abbrev pub awaits : List Symbol → Symbol → List Symbol
awaits awaited s.OpenParen = s.CloseParen ∷ awaited
awaits awaited s.OpenBracket = s.CloseBracket ∷ awaited
awaits awaited s.OpenBrace = s.CloseBrace ∷ awaited
awaits awaited symbol = if is_closer symbol then without_first awaited else awaited

-- one token more
abbrev pub balanced_turn : List Symbol → Lexeme → Rule (List Symbol)
balanced_turn awaited t = give (awaits awaited t.symbol)

-- no bracket is open any more
abbrev pub all_closed : List Symbol → Rule (Unit {0})
all_closed [] = give tt
all_closed (closer ∷ outer) = refuse

-- such tokens, up to and with the closing bracket
unfoldable pub balanced : Form → Symbol → Rule (Unit {0})
balanced form closing = do
  awaited ← loop (balanced_begins form) balanced_turn []
  all_closed awaited
  word closing

-- ---- attributes, as many as come

-- A word without a meaning of its own in the grammar. The words of flags, of predicates and of `getelementptr`, and `section`,
-- have theirs elsewhere.
abbrev pub is_attribute_word : Symbol → Bool
is_attribute_word s.PlainWord = true
is_attribute_word s.Section = true
is_attribute_word s.Nuw = true
is_attribute_word s.Nsw = true
is_attribute_word s.Exact = true
is_attribute_word s.Disjoint = true
is_attribute_word s.Nneg = true
is_attribute_word s.InBounds = true
is_attribute_word s.Nusw = true
is_attribute_word s.Eq = true
is_attribute_word s.Ne = true
is_attribute_word s.Ugt = true
is_attribute_word s.Uge = true
is_attribute_word s.Ult = true
is_attribute_word s.Ule = true
is_attribute_word s.Sgt = true
is_attribute_word s.Sge = true
is_attribute_word s.Slt = true
is_attribute_word s.Sle = true
is_attribute_word _ = false

-- a token that begins an attribute
abbrev pub is_attribute : Symbol → Bool
is_attribute s.Align = true
is_attribute s.Group = true
is_attribute s.DebugGroup = true
is_attribute s.Str = true
is_attribute symbol = is_attribute_word symbol

-- `(` and tokens up to `)`, where `(` comes next
unfoldable pub in_parens : Form → Rule (Unit {0})
in_parens form = do
  has ← sees s.OpenParen
  cond has (skip >> balanced form s.CloseParen) (give tt)

-- `=` and a string, where `=` comes next
unfoldable pub string_value : Rule (Unit {0})
string_value = do
  has ← sees s.Equals
  cond has (skip >> word s.Str) (give tt)

-- after the first token of an attribute
abbrev pub attribute_rest : Form → Symbol → Rule (Unit {0})
attribute_rest form s.Align = word s.Number
attribute_rest form s.Group = give tt
attribute_rest form s.DebugGroup = give tt
attribute_rest form s.Str = string_value
attribute_rest form symbol = in_parens form

-- an attribute comes next
abbrev pub attribute_begins : Unit {0} → Lexeme → Verdict Bool
attribute_begins u t = Ok (is_attribute t.symbol)

-- word, word '(' balanced ')', 'align' number, group, string, string '=' string
unfoldable pub attributes : Form → Rule (Unit {0})
attributes form = loop attribute_begins (λ u t. attribute_rest form t.symbol) tt

-- ---- metadata that is attached

-- the mark may be attached only where instrumented texts are read
abbrev pub mark_allowed : Form → Verdict Bool
mark_allowed Plain = Err r.Reserved
mark_allowed Instrumented = Ok true

-- whether metadata is attached: its kind comes next
abbrev pub attached_by : Form → Symbol → Verdict Bool
attached_by form s.Meta = Ok true
attached_by form s.NoSanitize = mark_allowed form
attached_by form symbol = Ok false

-- any name of metadata
abbrev pub meta_of : Lexeme → Verdict (Unit {0})
meta_of t = if is s.Meta t || is s.NoSanitize t then Ok tt else Err (refusal t)

-- a name of metadata
unfoldable pub meta : Rule (Unit {0})
meta = one meta_of

-- attached metadata comes next
abbrev pub attachment_begins : Form → Unit {0} → Lexeme → Verdict Bool
attachment_begins form u t = attached_by form t.symbol

-- pairs of names of metadata, as many as come
unfoldable pub attachments : Form → Rule (Unit {0})
attachments form = loop (attachment_begins form) (λ u t. meta) tt

-- ---- suffixes of an instruction. The state is whether one of them is the mark

-- the kind of an attachment, and whether it is the mark's
abbrev pub kind_by : Form → Symbol → Lexeme → Verdict Bool
kind_by form s.Meta t = Ok false
kind_by form s.NoSanitize t = mark_allowed form
kind_by form symbol t = Err (refusal t)

-- the kind of what is attached
abbrev pub kind_of : Form → Lexeme → Verdict Bool
kind_of form t = kind_by form t.symbol t

-- after the kind: metadata written in place marks nothing
abbrev pub attached_rest : Form → Bool → Bool → Symbol → Rule Bool
attached_rest form marked marks s.Bang = do
  skip
  word s.OpenBrace
  balanced form s.CloseBrace
  give marked
attached_rest form marked marks symbol = do
  meta
  in_parens form
  give (marked || marks)

-- kind metadata, kind '!' '{' balanced '}', kind metadata '(' balanced ')'
unfoldable pub attached : Form → Bool → Rule Bool
attached form marked = do
  marks ← one (kind_of form)
  symbol ← next_symbol
  attached_rest form marked marks symbol

-- 'align' number, or attached metadata
abbrev pub suffix_by : Form → Bool → Symbol → Rule Bool
suffix_by form marked s.Align = skip >> (word s.Number >> give marked)
suffix_by form marked symbol = attached form marked

-- a suffix after its comma
unfoldable pub suffix : Form → Bool → Rule Bool
suffix form marked = next_symbol >>= suffix_by form marked

-- a comma
abbrev pub suffix_begins : Bool → Lexeme → Verdict Bool
suffix_begins marked t = Ok (is s.Comma t)

-- suffixes with a comma in front of each, as many as come
unfoldable pub suffixes : Form → Bool → Rule Bool
suffixes form marked = loop suffix_begins (λ marked comma. suffix form marked) marked

-- the suffixes of an instruction; the comma of the first was read already, where `begun`
unfoldable pub suffixes_from : Form → Bool → Rule Bool
suffixes_from form begun = do
  marked ← cond begun (suffix form false) (give false)
  suffixes form marked
