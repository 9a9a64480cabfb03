-- Names where they are written (LLVM Language Reference, "Identifiers"), and which are kept for what is inserted (own).
use Rattle.std.specs.Prelude.{ℕ, ◌^◌, Bool, not, ◌&&◌, ◌||◌, nat_lt, if◌then◌else◌, is_some, length, Ok, Err}
use Rattle.ms_lex.specs.Tokens.{Text}
use Rattle.ms_lex.specs.Numbers.{decimal}
use Rattle.ms_lex.specs.Grammar.{one}
use Rattle.ms_ir.specs.declared.syntax.Name.{Name}
use Rattle.ms_ir.specs.declared.syntax.Name.TheVariants as name
use Rattle.ms_ir.specs.Names.{lookup, runtime_functions, slots, is_reserved, is_inserted_name}
use Rattle.ms_ir.specs.declared.forms.Form.{Form}
use Rattle.ms_ir.specs.declared.forms.Form.TheVariants.{Plain, Instrumented}
use Rattle.ms_text_grammar.specs.declared.symbols.Symbol.{Symbol}
use Rattle.ms_text_grammar.specs.declared.symbols.Symbol.TheVariants as s
use Rattle.ms_text_grammar.specs.declared.refusals.Cause.TheVariants as r
use Rattle.ms_text_grammar.specs.declared.refusals.Limit.TheVariants as limit
use Rattle.ms_text_grammar.specs.Lexemes.{Lexeme, name_in}
use Rattle.ms_text_grammar.specs.Steps.{Rule, Verdict, refusal}

-- ---- reserved names

-- the front of every reserved name
abbrev pub begins_msan : Text → Bool
begins_msan text = is_reserved (name.Text text)

-- `__msan.` and decimal digits: the result of an inserted instruction
abbrev pub is_inserted : Text → Bool
is_inserted text = is_inserted_name (name.Text text)

-- a function or a slot of the runtime
abbrev pub is_of_runtime : Text → Bool
is_of_runtime text = is_some (lookup runtime_functions (name.Text text)) || is_some (lookup slots (name.Text text))

-- whether a global's name is one that the form doesn't have
unfoldable pub reserved_global : Form → Text → Bool
reserved_global Plain text = begins_msan text
reserved_global Instrumented text = begins_msan text && not (is_of_runtime text)

-- whether a local's or a block's name is one that the form doesn't have
unfoldable pub reserved_local : Form → Text → Bool
reserved_local Plain text = begins_msan text
reserved_local Instrumented text = begins_msan text && not (is_inserted text)

-- ---- verdicts on names. A name is reserved before it is too long

-- a name of at most 1024 bytes fits
unfoldable pub name_fits : Text → Bool
name_fits text = nat_lt (length text) 1025

-- a name of text, which may be reserved
abbrev pub text_name : Bool → Text → Verdict Name
text_name reserved text = if reserved then Err r.Reserved else if name_fits text then Ok (name.Text text) else Err (r.Limit limit.Name)

-- a global's name
abbrev pub global_name : Form → Text → Verdict Name
global_name form text = text_name (reserved_global form text) text

-- a local's or a block's name of text
abbrev pub local_name : Form → Text → Verdict Name
local_name form text = text_name (reserved_local form text) text

-- a number names something up to 2^32 - 1
abbrev pub number_name : ℕ → Verdict Name
number_name n = if nat_lt n (2 ^ 32) then Ok (name.Number n) else Err r.Numbering

-- ---- names that are used

-- a local: a name or a number
abbrev pub local_by : Form → Symbol → Lexeme → Verdict Name
local_by form s.Local t = local_name form (name_in t)
local_by form s.NumberedLocal t = number_name (decimal (name_in t))
local_by form symbol t = Err (refusal t)

-- a local that is used
unfoldable pub local : Form → Rule Name
local form = one (λ t. local_by form t.symbol t)

-- a global
abbrev pub global_by : Form → Symbol → Lexeme → Verdict Name
global_by form s.Global t = global_name form (name_in t)
global_by form symbol t = Err (refusal t)

-- a global that is used, or the name of a function
unfoldable pub global : Form → Rule Name
global form = one (λ t. global_by form t.symbol t)
