-- Functions and declarations: their parameters, whose numbers are successive too, and the body (LLVM Language Reference, "Functions").
use Rattle.std.specs.Prelude.{ℕ, ◌+◌, nat_lt, ◌==◌, Bool, true, false, not, ◌||◌, ◌&&◌, cond, if◌then◌else◌, List, [], ◌∷◌, ◌++◌, length, map, None, Ok, Err}
use Rattle.ms_lex.specs.Numbers.{decimal}
use Rattle.ms_lex.specs.Grammar.{give, one, look, loop, ◌>>=◌, ◌>>◌}
use Rattle.ms_ir.specs.declared.syntax.Name.{Name}
use Rattle.ms_ir.specs.declared.syntax.Name.TheVariants as name
use Rattle.ms_ir.specs.declared.syntax.Ty.{Ty}
use Rattle.ms_ir.specs.declared.syntax.Func.{Func}
use Rattle.ms_ir.specs.declared.syntax.Decl.{Decl}
use Rattle.ms_ir.specs.declared.forms.Form.{Form}
use Rattle.ms_text_grammar.specs.declared.symbols.Symbol.{Symbol}
use Rattle.ms_text_grammar.specs.declared.symbols.Symbol.TheVariants as s
use Rattle.ms_text_grammar.specs.declared.refusals.Cause.TheVariants as r
use Rattle.ms_text_grammar.specs.declared.refusals.Limit.TheVariants as limit
use Rattle.ms_text_grammar.specs.declared.states.Parameters.{Parameters}
use Rattle.ms_text_grammar.specs.declared.states.BodySoFar.{BodySoFar}
use Rattle.ms_text_grammar.specs.Lexemes.{Lexeme, is, name_in}
use Rattle.ms_text_grammar.specs.Steps.{Rule, Verdict, within, next_symbol, skip, word, listed}
use Rattle.ms_text_grammar.specs.Names.{global, local_name}
use Rattle.ms_text_grammar.specs.Types.{is_ptr, value_type_of, result_type}
use Rattle.ms_text_grammar.specs.Skipped.{is_attribute, attribute_rest, attributes, attached_by, attachments, meta}
use Rattle.ms_text_grammar.specs.Insts.{names_printf, max_parameters}
use Rattle.ms_text_grammar.specs.Lines.{blocks}

-- ---- parameters

-- before the first parameter
abbrev pub no_parameters : Parameters
no_parameters = record { found = []; next = 0; dots = false }

-- room for one more; no more of them are unnamed than there are
abbrev pub has_room : Parameters → Bool
has_room ps = nat_lt (length ps.found) max_parameters && nat_lt ps.next max_parameters

-- the type that begins a parameter; the 101st has no room
abbrev pub parameter_type_of : Parameters → Lexeme → Verdict Ty
parameter_type_of ps t = within (has_room ps) limit.Parameters (value_type_of t)

-- a written number is the next one
abbrev pub numbered_name : ℕ → Lexeme → Verdict Name
numbered_name expected t = if decimal (name_in t) == expected then Ok (name.Number expected) else Err r.Numbering

-- its name, or the next number
abbrev pub parameter_name_by : Form → ℕ → Symbol → Rule Name
parameter_name_by form number s.Local = one (λ t. local_name form (name_in t))
parameter_name_by form number s.NumberedLocal = one (numbered_name number)
parameter_name_by form number symbol = give (name.Number number)

-- the name of a parameter, which may be missing
unfoldable pub parameter_name : Form → ℕ → Rule Name
parameter_name form number = next_symbol >>= parameter_name_by form number

-- the next number after a parameter
abbrev pub next_after : Name → ℕ → ℕ
next_after (name.Number n) next = next + 1
next_after (name.Text text) next = next

-- one parameter more
abbrev pub with_parameter : Parameters → Ty → Name → Parameters
with_parameter ps type n = record ps { found = ps.found ++ (type, n) ∷ []; next = next_after n ps.next }

-- value type, attributes, and a local's name or nothing
unfoldable pub typed_parameter : Form → Parameters → Rule Parameters
typed_parameter form ps = do
  t ← one (parameter_type_of ps)
  attributes form
  n ← parameter_name form ps.next
  give (with_parameter ps t n)

-- one parameter, a pointer
abbrev pub is_one_pointer : List (Ty × Name) → Bool
is_one_pointer [] = false
is_one_pointer (p ∷ []) = is_ptr p.0
is_one_pointer (p ∷ q ∷ rest) = false

-- whether three dots may come, and come
abbrev pub dots_come : Bool → Parameters → Lexeme → Verdict Bool
dots_come dotted ps t = Ok (dotted && is_one_pointer ps.found && is s.Dots t)

-- a parameter, or the dots; `dotted` in a declaration of `printf`
unfoldable pub parameter : Form → Bool → Parameters → Rule Parameters
parameter form dotted ps = do
  dots ← look (dots_come dotted ps)
  cond dots (skip >> give (record ps { dots = true })) (typed_parameter form ps)

-- the parameters after `(`, up to and with `)`; nothing stands after the dots
unfoldable pub parameters : Form → Bool → Rule Parameters
parameters form dotted = listed s.CloseParen (λ ps. not ps.dots) (parameter form dotted) no_parameters

-- ---- in front of the result's type

-- attributes and words of linkage
abbrev pub linkage_begins : Unit {0} → Lexeme → Verdict Bool
linkage_begins u t = Ok (is s.ExternalWord t || is_attribute t.symbol)

-- after its first token
abbrev pub linkage_rest : Form → Symbol → Rule (Unit {0})
linkage_rest form s.ExternalWord = give tt
linkage_rest form symbol = attribute_rest form symbol

-- as many as come
unfoldable pub linkage : Form → Rule (Unit {0})
linkage form = loop linkage_begins (λ u t. linkage_rest form t.symbol) tt

-- ---- declarations

-- after `declare`
unfoldable pub declaration : Form → Rule Decl
declaration form = do
  attachments form
  linkage form
  result ← result_type
  function ← global form
  word s.OpenParen
  ps ← parameters form (names_printf function)
  attributes form
  give (record { name = function; ret = result; params = map (λ p. p.0) ps.found })

-- ---- functions

-- attributes and attached metadata after the parameters
abbrev pub tail_begins : Form → Unit {0} → Lexeme → Verdict Bool
tail_begins form u t = if is_attribute t.symbol then Ok true else attached_by form t.symbol

-- after its first token
abbrev pub tail_rest : Form → Symbol → Rule (Unit {0})
tail_rest form s.Meta = meta
tail_rest form s.NoSanitize = meta
tail_rest form symbol = attribute_rest form symbol

-- as many as come
unfoldable pub function_tail : Form → Rule (Unit {0})
function_tail form = loop (tail_begins form) (λ u t. tail_rest form t.symbol) tt

-- the body of a function, in front of which the text has so many instructions
abbrev pub body_after : Parameters → ℕ → BodySoFar
body_after ps before = record { blocks = []; name = None; insts = []; next = ps.next; count = before; phis = false }

-- after `define`
unfoldable pub function : Form → ℕ → Rule Func
function form before = do
  linkage form
  result ← result_type
  n ← global form
  word s.OpenParen
  ps ← parameters form false
  function_tail form
  word s.OpenBrace
  all ← blocks form (body_after ps before)
  give (record { name = n; ret = result; params = ps.found; blocks = all })
