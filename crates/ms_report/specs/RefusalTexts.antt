-- The lines of refusals, as bytes: the number of the cause, what it is, and where.
use Rattle.std.specs.Prelude.{◌≡◌, ◌⊎◌, ℕ, Bool, true, false, is_some, is_none, List, [], ◌++◌, eqb, if◌then◌else◌, codes, decimal}
use Rattle.ms_lex.specs.declared.errors.LexError.{LexError}
use Rattle.ms_lex.specs.declared.errors.LexError.TheVariants as lex
use Rattle.ms_text_grammar.specs.declared.refusals.Outside.{Outside}
use Rattle.ms_text_grammar.specs.declared.refusals.Outside.TheVariants as outside
use Rattle.ms_text_grammar.specs.declared.refusals.Limit.{Limit}
use Rattle.ms_text_grammar.specs.declared.refusals.Limit.TheVariants as limit
use Rattle.ms_read_body.specs.declared.errors.What.{What}
use Rattle.ms_read_body.specs.declared.errors.What.TheVariants as what
use Rattle.ms_read_body.specs.declared.errors.ReadError.{ReadError}
use Rattle.ms_read_body.specs.declared.errors.ReadError.TheVariants as e
use Rattle.ms_check.specs.Faults.{fault_of}
use Rattle.ms_report.specs.declared.refusals.Refusal.{Refusal}
use Rattle.ms_report.specs.declared.refusals.Refusal.TheVariants.{Read, Check}
use Rattle.ms_report.specs.FaultTexts.{refused_line, fault_line}

-- ---- names

-- a construct that is left out
abbrev pub outside_name : Outside → List ℕ
outside_name outside.FloatingPoint = codes "floating point"
outside_name outside.Vector = codes "vector"
outside_name outside.WideInteger = codes "wide integer"
outside_name outside.AddressSpace = codes "address space"
outside_name outside.ThreadLocal = codes "thread local"
outside_name outside.AggregateValue = codes "aggregate value"
outside_name outside.ByValue = codes "by value"
outside_name outside.IndirectCall = codes "indirect call"
outside_name outside.FunctionType = codes "function type"
outside_name outside.Variadic = codes "variadic"
outside_name outside.Exceptions = codes "exceptions"
outside_name outside.Assembly = codes "assembly"
outside_name outside.IndirectBranch = codes "indirect branch"
outside_name outside.Atomics = codes "atomics"
outside_name outside.Volatile = codes "volatile"
outside_name outside.VariableArguments = codes "variable arguments"
outside_name outside.Alias = codes "alias"
outside_name outside.Comdat = codes "comdat"
outside_name outside.ExternalGlobal = codes "external global"
outside_name outside.OpaqueType = codes "opaque type"
outside_name outside.TypedPointer = codes "typed pointer"
outside_name outside.MetadataOperand = codes "metadata operand"
outside_name outside.OperandBundle = codes "operand bundle"
outside_name outside.ConstantExpression = codes "constant expression"
outside_name outside.CallOfMain = codes "call of main"

-- a limit
abbrev pub limit_name : Limit → List ℕ
limit_name limit.Instructions = codes "instructions"
limit_name limit.Functions = codes "functions"
limit_name limit.Globals = codes "globals"
limit_name limit.Parameters = codes "parameters"
limit_name limit.Types = codes "types"
limit_name limit.Indices = codes "indices"
limit_name limit.Name = codes "name"

-- ---- lines

-- the cause that a number stands for
abbrev pub cause_name : ℕ → List ℕ
cause_name number =
    if eqb number 4 then codes "syntax" else
    if eqb number 5 then codes "outside" else
    if eqb number 6 then codes "limit" else
    if eqb number 7 then codes "numbering" else
    codes "reserved"

-- the name after a cause that has one
abbrev pub what_text : What → List ℕ
what_text what.Nothing = []
what_text (what.Outside construct) = codes " " ++ outside_name construct
what_text (what.Limit l) = codes " " ++ limit_name l

-- the number of a token, and the byte at which it begins
abbrev pub token_text : ℕ → ℕ → List ℕ
token_text token place = codes " at token " ++ decimal token ++ codes ", byte " ++ decimal place

-- why a text has no tokens
abbrev pub lexer_text : LexError → List ℕ
lexer_text (lex.BadByte place) = refused_line 1 (codes "bad byte at " ++ decimal place)
lexer_text (lex.OpenString place) = refused_line 2 (codes "open string at " ++ decimal place)
lexer_text lex.TooManyTokens = refused_line 3 (codes "too many tokens")
lexer_text lex.NoMemory = []

-- why a text isn't read
abbrev pub reader_text : ReadError → List ℕ
reader_text (e.Lex cause) = lexer_text cause
reader_text (e.Refused number w token place) = refused_line number (cause_name number ++ what_text w ++ token_text token place)
reader_text e.NoMemory = []

-- why a module is refused
abbrev pub refusal_text : Refusal → List ℕ
refusal_text (Read cause) = reader_text cause
refusal_text (Check cause) = fault_line (fault_of cause)

-- why a command that takes no schedule refuses a module with threads
abbrev pub threads_text : List ℕ
threads_text = refused_line 18 (codes "threads")

-- ---- what has a line

-- the number is from 4 to 8; a construct is named exactly at 5, and a limit exactly at 6
abbrev pub IsNumbered : ℕ → What → Type 0
IsNumbered number what.Nothing = (number ≡ 4) ⊎ (number ≡ 7) ⊎ (number ≡ 8)
IsNumbered number (what.Outside construct) = number ≡ 5
IsNumbered number (what.Limit l) = number ≡ 6

-- running out of memory alone has none
abbrev pub wants_memory : Refusal → Bool
wants_memory (Read e.NoMemory) = true
wants_memory (Read cause) = false
wants_memory (Check cause) = is_none (fault_of cause)

abbrev pub IsReadRefusal : ReadError → Type 0
IsReadRefusal (e.Lex lex.NoMemory) = ⊥
IsReadRefusal (e.Lex cause) = Unit {0}
IsReadRefusal (e.Refused number w token place) = IsNumbered number w
IsReadRefusal e.NoMemory = ⊥

abbrev pub HasLine : Refusal → Type 0
HasLine (Read cause) = IsReadRefusal cause
HasLine (Check cause) = is_some (fault_of cause) ≡ true
