-- What a token is to the grammar: its symbol, and how it is spelled (LLVM Language Reference, "Identifiers" and "High Level Structure").
use Rattle.std.specs.Prelude.{ℕ, Bool, false, ◌&&◌, ◌==◌, nat_lt, if◌then◌else◌, List, [], ◌∷◌, ◌++◌, codes, length, map, take, drop, ℤ, ◌-◌}
use Rattle.std.specs.Str.{bytes_eq}
use Rattle.std.specs.Char.{is_ascii_digit}
use denote.Enum.Bare.{sameb}
use Rattle.ms_lex.specs.declared.kinds.Kind.{Kind}
use Rattle.ms_lex.specs.declared.kinds.Kind.TheVariants as k
use Rattle.ms_lex.specs.declared.kinds.Token.{Token}
use Rattle.ms_lex.specs.Tokens.{Text, is_digits}
use Rattle.ms_lex.specs.Names.{spelling_of, name_part, decoded}
use Rattle.ms_lex.specs.Numbers.{decimal, signed_decimal}
use Rattle.ms_text_grammar.specs.declared.symbols.Symbol.{Symbol}
use Rattle.ms_text_grammar.specs.declared.symbols.Symbol.TheVariants as s
use Rattle.ms_text_grammar.specs.contracts.symbols.Symbol.{the_type}

-- ---- words

-- a word that means something by itself, and its symbol
abbrev pub Row : Type 0
Row = Text × Symbol

-- words that mean the same
abbrev pub rows : Symbol → List Text → List Row
rows symbol = map (λ word. (word, symbol))

-- words of entities
abbrev pub entity_words : List Row
entity_words =
    (codes "source_filename", s.SourceFilename) ∷ (codes "target", s.Target) ∷ (codes "datalayout", s.DataLayout) ∷ (codes "triple", s.Triple)
    ∷ (codes "attributes", s.Attributes) ∷ (codes "distinct", s.Distinct) ∷ (codes "type", s.TypeWord) ∷ (codes "global", s.GlobalWord)
    ∷ (codes "constant", s.ConstantWord) ∷ (codes "section", s.Section) ∷ (codes "align", s.Align) ∷ (codes "declare", s.Declare)
    ∷ (codes "define", s.Define) ∷ []

-- words of types and of values
abbrev pub part_words : List Row
part_words =
    (codes "ptr", s.PtrType) ∷ (codes "void", s.Void) ∷ (codes "x", s.X) ∷ (codes "to", s.To) ∷ (codes "label", s.LabelWord)
    ∷ (codes "zeroinitializer", s.ZeroInitializer) ∷ (codes "true", s.True) ∷ (codes "false", s.False) ∷ (codes "null", s.Null)
    ∷ (codes "undef", s.Undef) ∷ (codes "poison", s.Poison) ∷ []

-- words that begin instructions
abbrev pub instruction_words : List Row
instruction_words =
    (codes "phi", s.Phi) ∷ (codes "icmp", s.Icmp) ∷ (codes "select", s.Select) ∷ (codes "freeze", s.Freeze) ∷ (codes "alloca", s.Alloca)
    ∷ (codes "load", s.Load) ∷ (codes "store", s.Store) ∷ (codes "getelementptr", s.GetElementPtr) ∷ (codes "tail", s.Tail)
    ∷ (codes "musttail", s.MustTail) ∷ (codes "notail", s.NoTail) ∷ (codes "call", s.Call) ∷ (codes "br", s.Br) ∷ (codes "switch", s.Switch)
    ∷ (codes "ret", s.Ret) ∷ (codes "unreachable", s.Unreachable) ∷ []

-- names of binary operations and of casts
abbrev pub operation_words : List Row
operation_words =
    (codes "add", s.Add) ∷ (codes "sub", s.Sub) ∷ (codes "mul", s.Mul) ∷ (codes "udiv", s.Udiv) ∷ (codes "sdiv", s.Sdiv) ∷ (codes "urem", s.Urem)
    ∷ (codes "srem", s.Srem) ∷ (codes "shl", s.Shl) ∷ (codes "lshr", s.Lshr) ∷ (codes "ashr", s.Ashr) ∷ (codes "and", s.And) ∷ (codes "or", s.Or)
    ∷ (codes "xor", s.Xor) ∷ (codes "trunc", s.Trunc) ∷ (codes "zext", s.Zext) ∷ (codes "sext", s.Sext) ∷ (codes "ptrtoint", s.PtrToInt)
    ∷ (codes "inttoptr", s.IntToPtr) ∷ (codes "bitcast", s.Bitcast) ∷ []

-- words of flags and of `getelementptr`
abbrev pub flag_words : List Row
flag_words =
    (codes "nuw", s.Nuw) ∷ (codes "nsw", s.Nsw) ∷ (codes "exact", s.Exact) ∷ (codes "disjoint", s.Disjoint) ∷ (codes "nneg", s.Nneg)
    ∷ (codes "samesign", s.SameSign) ∷ (codes "inbounds", s.InBounds) ∷ (codes "nusw", s.Nusw) ∷ []

-- predicates of `icmp`
abbrev pub predicate_words : List Row
predicate_words =
    (codes "eq", s.Eq) ∷ (codes "ne", s.Ne) ∷ (codes "ugt", s.Ugt) ∷ (codes "uge", s.Uge) ∷ (codes "ult", s.Ult) ∷ (codes "ule", s.Ule)
    ∷ (codes "sgt", s.Sgt) ∷ (codes "sge", s.Sge) ∷ (codes "slt", s.Slt) ∷ (codes "sle", s.Sle) ∷ []

-- the words of what is left out
abbrev pub floating_point_words : List Row
floating_point_words = rows s.FloatingPointWord (
    codes "half" ∷ codes "bfloat" ∷ codes "float" ∷ codes "double" ∷ codes "fp128" ∷ codes "x86_fp80" ∷ codes "ppc_fp128" ∷ codes "fneg"
    ∷ codes "fadd" ∷ codes "fsub" ∷ codes "fmul" ∷ codes "fdiv" ∷ codes "frem" ∷ codes "fcmp" ∷ codes "fptrunc" ∷ codes "fpext"
    ∷ codes "fptoui" ∷ codes "fptosi" ∷ codes "uitofp" ∷ codes "sitofp" ∷ [])

-- words of exceptions
abbrev pub exception_words : List Row
exception_words = rows s.ExceptionWord (
    codes "invoke" ∷ codes "landingpad" ∷ codes "resume" ∷ codes "catchswitch" ∷ codes "catchpad" ∷ codes "cleanuppad" ∷ codes "catchret"
    ∷ codes "cleanupret" ∷ codes "personality" ∷ codes "callbr" ∷ [])

-- all words of what is left out
abbrev pub outside_words : List Row
outside_words =
    floating_point_words
    ++ rows s.VectorWord (codes "extractelement" ∷ codes "insertelement" ∷ codes "shufflevector" ∷ codes "vscale" ∷ [])
    ++ rows s.AddressSpaceWord (codes "addrspace" ∷ codes "addrspacecast" ∷ [])
    ++ rows s.ThreadLocalWord (codes "thread_local" ∷ [])
    ++ rows s.AggregateWord (codes "insertvalue" ∷ codes "extractvalue" ∷ [])
    ++ rows s.ByValueWord (codes "byval" ∷ codes "inalloca" ∷ codes "preallocated" ∷ codes "byref" ∷ codes "swifterror" ∷ [])
    ++ exception_words
    ++ rows s.AssemblyWord (codes "asm" ∷ codes "module" ∷ [])
    ++ rows s.IndirectBranchWord (codes "indirectbr" ∷ codes "blockaddress" ∷ [])
    ++ rows s.AtomicWord (codes "atomic" ∷ codes "cmpxchg" ∷ codes "atomicrmw" ∷ codes "fence" ∷ [])
    ++ rows s.VolatileWord (codes "volatile" ∷ [])
    ++ rows s.VariableArgumentWord (codes "va_arg" ∷ [])
    ++ rows s.AliasWord (codes "alias" ∷ codes "ifunc" ∷ [])
    ++ rows s.ComdatWord (codes "comdat" ∷ [])
    ++ rows s.ExternalWord (codes "external" ∷ codes "extern_weak" ∷ [])
    ++ rows s.OpaqueWord (codes "opaque" ∷ [])
    ++ rows s.MetadataWord (codes "metadata" ∷ [])

-- the words that mean something by themselves
abbrev pub keywords : List Row
keywords = instruction_words ++ part_words ++ operation_words ++ flag_words ++ predicate_words ++ entity_words ++ outside_words

-- the symbol beside a word, or else another
abbrev pub symbol_in : List Row → Symbol → Text → Symbol
symbol_in [] other word = other
symbol_in (row ∷ rest) other word = if bytes_eq row.0 word then row.1 else symbol_in rest other word

-- `i` and a number is an integer type of that many bits, but for 0
abbrev pub int_symbol : ℕ → Symbol
int_symbol width = if width == 0 then s.PlainWord else if nat_lt width 65 then s.IntType else s.WideIntType

-- a word that is no keyword: an integer type, or without a meaning of its own
abbrev pub type_or_plain : Text → Symbol
type_or_plain [] = s.PlainWord
type_or_plain (b ∷ rest) = if b == 105 && is_digits rest then int_symbol (decimal rest) else s.PlainWord

-- the symbol of a word
unfoldable pub word_symbol : Text → Symbol
word_symbol word = symbol_in keywords (type_or_plain word) word

-- ---- the other kinds

-- a label, without its colon, is a number where it is digits alone
abbrev pub label_symbol : Text → Symbol
label_symbol spelling = if is_digits (take (length spelling - 1) spelling) then s.NumberedLabel else s.Label

-- a local is a number where digits alone are after its sign
abbrev pub local_symbol : Text → Symbol
local_symbol spelling = if is_digits (drop 1 spelling) then s.NumberedLocal else s.Local

-- a digit in front, or a minus sign and a digit
abbrev pub begins_number : Text → Bool
begins_number [] = false
begins_number (a ∷ []) = is_ascii_digit a
begins_number (a ∷ b ∷ rest) = if a == 45 then is_ascii_digit b else is_ascii_digit a

-- any other run of name bytes
abbrev pub other_symbol : Text → Symbol
other_symbol spelling =
    if bytes_eq spelling (codes "...") then s.Dots
    else if begins_number spelling then s.FloatLiteral
    else if bytes_eq (take 1 spelling) (codes "$") then s.DollarName
    else s.Other

-- metadata, one of whose names is the mark
abbrev pub meta_symbol : Text → Symbol
meta_symbol spelling = if bytes_eq spelling (codes "!nosanitize") then s.NoSanitize else s.Meta

-- a group of attributes, or a debug group
abbrev pub group_symbol : Text → Symbol
group_symbol spelling = if bytes_eq (take 4 spelling) (codes "#dbg") then s.DebugGroup else s.Group

-- the symbols of punctuation
abbrev pub punctuation_symbols : List Row
punctuation_symbols =
    (codes "(", s.OpenParen) ∷ (codes ")", s.CloseParen) ∷ (codes "[", s.OpenBracket) ∷ (codes "]", s.CloseBracket) ∷ (codes "{", s.OpenBrace)
    ∷ (codes "}", s.CloseBrace) ∷ (codes "<", s.Less) ∷ (codes ">", s.Greater) ∷ (codes ",", s.Comma) ∷ (codes "=", s.Equals) ∷ (codes "*", s.Star)
    ∷ (codes "!", s.Bang) ∷ (codes "|", s.Bar) ∷ []

-- the symbol that a token of a kind is, by how it is spelled
unfoldable pub symbol_of : Kind → Text → Symbol
symbol_of k.Label spelling = label_symbol spelling
symbol_of k.CText spelling = s.CText
symbol_of k.Str spelling = s.Str
symbol_of k.Number spelling = s.Number
symbol_of k.Word spelling = word_symbol spelling
symbol_of k.Other spelling = other_symbol spelling
symbol_of k.Global spelling = s.Global
symbol_of k.Local spelling = local_symbol spelling
symbol_of k.Meta spelling = meta_symbol spelling
symbol_of k.Group spelling = group_symbol spelling
symbol_of k.Punct spelling = symbol_in punctuation_symbols s.Other spelling

-- ---- lexemes

-- a token as the grammar sees it
pub record Lexeme : Type 0 where
  pub symbol : Symbol
  pub kind : Kind
  pub spelling : Text

-- what stands after the last token
abbrev pub end_of_text : Lexeme
end_of_text = record { symbol = s.EndOfText; kind = k.Punct; spelling = [] }

-- a token of a kind that is spelled so
abbrev pub lexeme : Kind → Text → Lexeme
lexeme kind spelling = record { symbol = symbol_of kind spelling; kind = kind; spelling = spelling }

-- a token of a text
abbrev pub lexeme_of : Text → Token → Lexeme
lexeme_of text token = lexeme token.kind (spelling_of text token)

-- the tokens of a text
abbrev pub lexemes_of : Text → List Token → List Lexeme
lexemes_of text = map (lexeme_of text)

-- the name that it spells, decoded and without its sign
abbrev pub name_in : Lexeme → Text
name_in t = decoded (name_part t.kind t.spelling)

-- the number that it spells
abbrev pub number_in : Lexeme → ℤ
number_in t = signed_decimal t.spelling

-- the width of the integer type that it spells
abbrev pub width_in : Lexeme → ℕ
width_in t = decimal (drop 1 t.spelling)

-- the same symbol
unfoldable pub same_symbol : Symbol → Symbol → Bool
same_symbol = sameb the_type

-- whether it is this symbol
abbrev pub is : Symbol → Lexeme → Bool
is symbol t = same_symbol t.symbol symbol
