-- The body of a function, line by line: blocks, their instructions, and the numbers of unnamed values and blocks
-- (LLVM Language Reference, "Functions" and "Identifiers").
use Rattle.std.specs.Prelude.{◌-◌, ℕ, ◌+◌, ◌^◌, nat_lt, ◌==◌, Bool, true, false, ◌||◌, if◌then◌else◌, [], ◌∷◌, ◌++◌, Option, Some, None, Ok, Err}
use Rattle.ms_lex.specs.Tokens.{Text}
use Rattle.ms_lex.specs.Numbers.{decimal}
use Rattle.ms_ir.specs.declared.syntax.Name.{Name}
use Rattle.ms_ir.specs.declared.syntax.Name.TheVariants as name
use Rattle.ms_ir.specs.declared.syntax.Op.{Op}
use Rattle.ms_ir.specs.declared.syntax.Op.TheVariants as op
use Rattle.ms_ir.specs.declared.forms.Form.{Form}
use Rattle.ms_ir.specs.declared.forms.Form.TheVariants.{Plain, Instrumented}
use Rattle.ms_text_grammar.specs.declared.symbols.Symbol.{Symbol}
use Rattle.ms_text_grammar.specs.declared.symbols.Symbol.TheVariants as s
use Rattle.ms_text_grammar.specs.declared.refusals.Cause.TheVariants as r
use Rattle.ms_text_grammar.specs.declared.refusals.Limit.TheVariants as limit
use Rattle.ms_text_grammar.specs.declared.states.BodySoFar.{BodySoFar}
use Rattle.ms_text_grammar.specs.Lexemes.{Lexeme, name_in}
use Rattle.ms_text_grammar.specs.Steps.{Verdict, binary_op, cast_op, is_some_op}
use Rattle.ms_text_grammar.specs.Names.{reserved_local, name_fits}
use Rattle.ms_text_grammar.specs.Insts.{Marked}

-- ---- blocks that begin

-- whether a block is open
abbrev pub is_open : Option Name → Bool
is_open None = false
is_open (Some n) = true

-- a block begins under this name, which took so many numbers
abbrev pub opened_as : BodySoFar → Name → ℕ → BodySoFar
opened_as body n numbers = record body { name = Some n; insts = []; phis = true; next = body.next + numbers }

-- a block that no label begins takes a number
abbrev pub opened_by : Option Name → BodySoFar → BodySoFar
opened_by (Some n) body = body
opened_by None body = opened_as body (name.Number body.next) 1

-- the block in which a line stands: the open one, or an unlabelled one
unfoldable pub opened : BodySoFar → BodySoFar
opened body = opened_by body.name body

-- ---- which token begins a line, and what refuses it there

-- how many instructions a text may have
unfoldable pub max_instructions : Form → ℕ
max_instructions Plain = 2 ^ 17
max_instructions Instrumented = 2 ^ 22

-- room for one more instruction
abbrev pub counted : Form → BodySoFar → Verdict Bool → Verdict Bool
counted form body verdict = if nat_lt body.count (max_instructions form) then verdict else Err (r.Limit limit.Instructions)

-- a name that is short enough
abbrev pub short : Text → Verdict Bool
short text = if name_fits text then Ok true else Err (r.Limit limit.Name)

-- a written number is the next one
abbrev pub numbered : ℕ → Text → Verdict Bool → Verdict Bool
numbered expected digits verdict = if decimal digits == expected then verdict else Err r.Numbering

-- a name of text: it isn't reserved
abbrev pub unreserved : Form → Text → Verdict Bool → Verdict Bool
unreserved form text verdict = if reserved_local form text then Err r.Reserved else verdict

-- a word that begins an instruction other than a phi
abbrev pub begins_instruction : Symbol → Bool
begins_instruction s.Icmp = true
begins_instruction s.Select = true
begins_instruction s.Freeze = true
begins_instruction s.Alloca = true
begins_instruction s.Load = true
begins_instruction s.Store = true
begins_instruction s.GetElementPtr = true
begins_instruction s.Tail = true
begins_instruction s.MustTail = true
begins_instruction s.NoTail = true
begins_instruction s.Call = true
begins_instruction s.Br = true
begins_instruction s.Switch = true
begins_instruction s.Ret = true
begins_instruction s.Unreachable = true
begins_instruction symbol = is_some_op (binary_op symbol) || is_some_op (cast_op symbol)

-- a word begins an instruction, if there is room for one
abbrev pub word_begins : Form → BodySoFar → Symbol → Verdict Bool
word_begins form body symbol = if begins_instruction symbol then counted form body (Ok true) else Ok false

-- A label stands only where no block is open. A result's name or number begins an instruction, as a word does.
abbrev pub line_begins_by : Form → BodySoFar → Symbol → Lexeme → Verdict Bool
line_begins_by form body s.Label t = if is_open body.name then Ok false else unreserved form (name_in t) (short (name_in t))
line_begins_by form body s.NumberedLabel t = if is_open body.name then Ok false else numbered body.next (name_in t) (Ok true)
line_begins_by form body s.DebugGroup t = Ok true
line_begins_by form body s.Local t = unreserved form (name_in t) (counted form body (short (name_in t)))
line_begins_by form body s.NumberedLocal t = numbered (opened body).next (name_in t) (counted form body (Ok true))
line_begins_by form body s.Phi t = if (opened body).phis then counted form body (Ok true) else Ok false
line_begins_by form body symbol t = word_begins form body symbol

-- Numbers go up to 2^32 - 1, and a line takes at most two of them. No text within the limits comes so far.
abbrev pub numbers_left : ℕ → Bool
numbers_left next = nat_lt next (2 ^ 32 - 2)

-- whether a line begins with this token
unfoldable pub line_begins : Form → BodySoFar → Lexeme → Verdict Bool
line_begins form body t = if numbers_left body.next then line_begins_by form body t.symbol t else Err r.Numbering

-- ---- what a line adds

-- the result's name: a missing one is the next number
abbrev pub name_or : Option Name → ℕ → Name
name_or (Some n) number = n
name_or None number = name.Number number

-- how many numbers a result takes
abbrev pub numbers_of : Option Name → ℕ
numbers_of (Some (name.Text text)) = 0
numbers_of (Some (name.Number n)) = 1
numbers_of None = 1

-- an instruction with a result, whose number is used up unless it has a name of text
abbrev pub with_value : BodySoFar → Option Name → Bool → Marked → BodySoFar
with_value body result phis m =
    record body { insts = body.insts ++ record { op = m.0; result = Some (name_or result body.next); marked = m.1 } ∷ []; next = body.next + numbers_of result; count = body.count + 1; phis = phis }

-- an instruction without a result
abbrev pub with_effect : BodySoFar → Marked → BodySoFar
with_effect body m =
    record body { insts = body.insts ++ record { op = m.0; result = None; marked = m.1 } ∷ []; count = body.count + 1; phis = false }

-- a terminator ends the block
abbrev pub with_end : BodySoFar → Marked → BodySoFar
with_end body m =
    record body { blocks = body.blocks ++ record { name = name_or body.name 0; insts = body.insts ++ record { op = m.0; result = None; marked = m.1 } ∷ [] } ∷ []; name = None; insts = []; count = body.count + 1; phis = false }

-- a call of type `void`
abbrev pub is_void_call : Op → Bool
is_void_call (op.Call None callee args) = true
is_void_call _ = false

-- a call has a result unless its type is `void`
abbrev pub with_call : BodySoFar → Option Name → Marked → BodySoFar
with_call body result m = if is_void_call m.0 then with_effect body m else with_value body result false m
