-- The steps that every piece of the grammar is made of, and why a token that can't stand is refused.
use Rattle.std.specs.Prelude.{Bool, true, false, not, ◌||◌, ◌&&◌, cond, nat_lt, if◌then◌else◌, List, [], ◌∷◌, ◌++◌, Option, Some, None, Result, Ok, Err, ℤ, pos, negsuc, ◌^◌}
use Rattle.ms_bits.specs.declared.operations.BinOp.{BinOp}
use Rattle.ms_bits.specs.declared.operations.BinOp.TheVariants as binary
use Rattle.ms_bits.specs.declared.operations.CastOp.{CastOp}
use Rattle.ms_bits.specs.declared.operations.CastOp.TheVariants as cast
use Rattle.ms_lex.specs.Grammar.{Grammar, give, one, look, loop, ◌>>=◌, ◌>>◌}
use Rattle.ms_text_grammar.specs.declared.symbols.Symbol.{Symbol}
use Rattle.ms_text_grammar.specs.declared.symbols.Symbol.TheVariants as s
use Rattle.ms_text_grammar.specs.declared.refusals.Cause.{Cause}
use Rattle.ms_text_grammar.specs.declared.refusals.Cause.TheVariants as r
use Rattle.ms_text_grammar.specs.declared.refusals.Outside.{Outside}
use Rattle.ms_text_grammar.specs.declared.refusals.Outside.TheVariants as outside
use Rattle.ms_text_grammar.specs.declared.refusals.Limit.{Limit}
use Rattle.ms_text_grammar.specs.Lexemes.{Lexeme, is, number_in, same_symbol}

-- a piece of the grammar, and what it reads
abbrev pub Rule : Type 0 → Type 1
Rule A = Grammar Lexeme Cause A

-- what is said of a token: a value, or why it can't stand
abbrev pub Verdict : Type 0 → Type 0
Verdict A = Result A Cause

-- ---- why a token can't stand

-- from -2^63 to 2^64 - 1
abbrev pub is_givable : ℤ → Bool
is_givable (pos n) = nat_lt n (2 ^ 64)
is_givable (negsuc n) = nat_lt n (2 ^ 63)

-- the construct that is left out and that a symbol shows wherever the grammar doesn't have it
unfoldable pub outside_of : Symbol → Option Outside
outside_of s.FloatingPointWord = Some outside.FloatingPoint
outside_of s.FloatLiteral = Some outside.FloatingPoint
outside_of s.VectorWord = Some outside.Vector
outside_of s.WideIntType = Some outside.WideInteger
outside_of s.AddressSpaceWord = Some outside.AddressSpace
outside_of s.ThreadLocalWord = Some outside.ThreadLocal
outside_of s.AggregateWord = Some outside.AggregateValue
outside_of s.ByValueWord = Some outside.ByValue
outside_of s.Dots = Some outside.Variadic
outside_of s.ExceptionWord = Some outside.Exceptions
outside_of s.AssemblyWord = Some outside.Assembly
outside_of s.IndirectBranchWord = Some outside.IndirectBranch
outside_of s.AtomicWord = Some outside.Atomics
outside_of s.VolatileWord = Some outside.Volatile
outside_of s.VariableArgumentWord = Some outside.VariableArguments
outside_of s.AliasWord = Some outside.Alias
outside_of s.ComdatWord = Some outside.Comdat
outside_of s.DollarName = Some outside.Comdat
outside_of s.OpaqueWord = Some outside.OpaqueType
outside_of s.Star = Some outside.TypedPointer
outside_of s.MetadataWord = Some outside.MetadataOperand
outside_of _ = None

-- outside the grammar, with or without a construct that is left out
abbrev pub syntax_or : Option Outside → Cause
syntax_or None = r.Syntax
syntax_or (Some construct) = r.Outside construct

-- a number that no type holds is refused as such wherever a number is refused
unfoldable pub refusal : Lexeme → Cause
refusal t = if is s.Number t && not (is_givable (number_in t)) then r.Outside outside.WideInteger else syntax_or (outside_of t.symbol)

-- a limit counts only for a token that may stand
abbrev pub within : {A : Type 0} → Bool → Limit → Verdict A → Verdict A
within true limit verdict = verdict
within false limit (Ok a) = Err (r.Limit limit)
within false limit (Err e) = Err e

-- what a good verdict gives
abbrev pub judge_map : {A B : Type 0} → (A → B) → Verdict A → Verdict B
judge_map f (Ok a) = Ok (f a)
judge_map f (Err e) = Err e

-- ---- steps

-- the next symbol, which is not taken
abbrev pub next_symbol : Rule Symbol
next_symbol = look (λ t. Ok t.symbol)

-- nothing may begin with the next token
abbrev pub refuse : {A : Type 0} → Rule A
refuse = look (λ t. Err (refusal t))

-- the next token is refused for this
abbrev pub stop : {A : Type 0} → Cause → Rule A
stop e = look (λ t. Err e)

-- any token
abbrev pub skip : Rule (Unit {0})
skip = one (λ t. Ok tt)

-- whether this symbol comes next
abbrev pub sees : Symbol → Rule Bool
sees symbol = look (λ t. Ok (is symbol t))

-- this symbol
abbrev pub word_of : Symbol → Lexeme → Verdict (Unit {0})
word_of symbol t = if is symbol t then Ok tt else Err (refusal t)

-- this symbol, which is taken
unfoldable pub word : Symbol → Rule (Unit {0})
word symbol = one (word_of symbol)

-- ---- lists

-- a comma, as long as a further item may come
abbrev pub comma_begins : {S : Type 0} → (S → Bool) → S → Lexeme → Verdict Bool
comma_begins more state t = Ok (more state && is s.Comma t)

-- No item, or items with commas between, and the closing symbol. Each item goes on from what was read before it.
unfoldable pub listed : {S : Type 0} → Symbol → (S → Bool) → (S → Rule S) → S → Rule S
listed closing more item start = do
  empty ← sees closing
  cond empty (skip >> give start) (do
    first ← item start
    all ← loop (comma_begins more) (λ state comma. item state) first
    word closing
    give all)

-- a list whose items are pieces of their own
abbrev pub with_item : {A : Type 0} → Rule A → List A → Rule (List A)
with_item item found = item >>= λ a. give (found ++ a ∷ [])

-- such a list
unfoldable pub items : {A : Type 0} → Symbol → Rule A → Rule (List A)
items closing item = listed closing (λ found. true) (with_item item) []

-- ---- operations by their words

-- the binary operation that a word names
unfoldable pub binary_op : Symbol → Option BinOp
binary_op s.Add = Some binary.Add
binary_op s.Sub = Some binary.Sub
binary_op s.Mul = Some binary.Mul
binary_op s.Udiv = Some binary.Udiv
binary_op s.Sdiv = Some binary.Sdiv
binary_op s.Urem = Some binary.Urem
binary_op s.Srem = Some binary.Srem
binary_op s.Shl = Some binary.Shl
binary_op s.Lshr = Some binary.Lshr
binary_op s.Ashr = Some binary.Ashr
binary_op s.And = Some binary.And
binary_op s.Or = Some binary.Or
binary_op s.Xor = Some binary.Xor
binary_op _ = None

-- the cast that a word names
unfoldable pub cast_op : Symbol → Option CastOp
cast_op s.Trunc = Some cast.Trunc
cast_op s.Zext = Some cast.Zext
cast_op s.Sext = Some cast.Sext
cast_op s.PtrToInt = Some cast.PtrToInt
cast_op s.IntToPtr = Some cast.IntToPtr
cast_op s.Bitcast = Some cast.Bitcast
cast_op _ = None

-- a word names an operation
abbrev pub is_some_op : {A : Type 0} → Option A → Bool
is_some_op None = false
is_some_op (Some op) = true

-- a word that would begin a constant expression
abbrev pub begins_expression : Symbol → Bool
begins_expression symbol =
    is_some_op (binary_op symbol) || is_some_op (cast_op symbol) || same_symbol symbol s.Icmp || same_symbol symbol s.Select
