-- Types (LLVM Language Reference, "Type System"). The depth is how many more arrays and structs may be open.
use Rattle.std.specs.Prelude.{ℕ, zero, suc, Bool, true, false, cond, ◌==◌, nat_lt, if◌then◌else◌, Option, Some, None, Ok, Err, ℤ, pos, negsuc, ◌^◌}
use Rattle.ms_lex.specs.Grammar.{give, one, ◌>>=◌, ◌>>◌}
use Rattle.ms_ir.specs.declared.syntax.Ty.{Ty, Int, Ptr}
use Rattle.ms_ir.specs.declared.syntax.Ty.TheVariants as ty
use Rattle.ms_ir.specs.declared.forms.Form.{Form}
use Rattle.ms_text_grammar.specs.declared.symbols.Symbol.{Symbol}
use Rattle.ms_text_grammar.specs.declared.symbols.Symbol.TheVariants as s
use Rattle.ms_text_grammar.specs.declared.refusals.Cause.TheVariants as r
use Rattle.ms_text_grammar.specs.declared.refusals.Limit.TheVariants as limit
use Rattle.ms_text_grammar.specs.declared.refusals.Outside.TheVariants as outside
use Rattle.ms_text_grammar.specs.Lexemes.{Lexeme, is, number_in, width_in}
use Rattle.ms_text_grammar.specs.Steps.{Rule, Verdict, refusal, next_symbol, refuse, stop, skip, word, items}
use Rattle.ms_text_grammar.specs.Names.{local}

-- ---- the types of values

-- the width of an integer type
abbrev pub int_width : Ty → Option ℕ
int_width (Int width) = Some width
int_width _ = None

-- the type `ptr`
abbrev pub is_ptr : Ty → Bool
is_ptr Ptr = true
is_ptr _ = false

-- this width, if there is one
abbrev pub is_width : ℕ → Option ℕ → Bool
is_width width None = false
is_width width (Some other) = other == width

-- `iN`, by its width
abbrev pub int_type_of : Lexeme → Verdict ℕ
int_type_of t = if is s.IntType t then Ok (width_in t) else Err (refusal t)

-- an integer type, by its width
unfoldable pub int_type : Rule ℕ
int_type = one int_type_of

-- an array, a struct or a named type is no type of a value
abbrev pub value_type_by : Symbol → Lexeme → Verdict Ty
value_type_by s.PtrType t = Ok ty.Ptr
value_type_by s.IntType t = Ok (ty.Int (width_in t))
value_type_by s.OpenBracket t = Err (r.Outside outside.AggregateValue)
value_type_by s.OpenBrace t = Err (r.Outside outside.AggregateValue)
value_type_by s.Less t = Err (r.Outside outside.AggregateValue)
value_type_by s.Local t = Err (r.Outside outside.AggregateValue)
value_type_by s.NumberedLocal t = Err (r.Outside outside.AggregateValue)
value_type_by symbol t = Err (refusal t)

-- the type of a value: iN or `ptr`
abbrev pub value_type_of : Lexeme → Verdict Ty
value_type_of t = value_type_by t.symbol t

-- a type of a value
unfoldable pub value_type : Rule Ty
value_type = one value_type_of

-- `void`, or the type of a value
abbrev pub result_type_by : Symbol → Rule (Option Ty)
result_type_by s.Void = skip >> give None
result_type_by symbol = value_type >>= λ t. give (Some t)

-- 'void' or the type of a value
unfoldable pub result_type : Rule (Option Ty)
result_type = next_symbol >>= result_type_by

-- ---- all types

-- how many items an array has, which is below 2^64
abbrev pub count_by : ℤ → Lexeme → Verdict ℕ
count_by (pos n) t = if nat_lt n (2 ^ 64) then Ok n else Err (refusal t)
count_by (negsuc n) t = Err (refusal t)

-- a number that counts
abbrev pub count_of : Lexeme → Verdict ℕ
count_of t = if is s.Number t then count_by (number_in t) t else Err (refusal t)

-- the number of items of an array
unfoldable pub count : Rule ℕ
count = one count_of

-- what opens no bracket
abbrev pub flat : Form → Symbol → Rule Ty
flat form s.PtrType = value_type
flat form s.IntType = value_type
flat form s.Local = local form >>= λ n. give (ty.Named n)
flat form s.NumberedLocal = local form >>= λ n. give (ty.Named n)
flat form symbol = refuse

-- after `<`, where a number would be the length of a vector
abbrev pub brace_of : Lexeme → Verdict (Unit {0})
brace_of t = if is s.OpenBrace t then Ok tt else if is s.Number t then Err (r.Outside outside.Vector) else Err (refusal t)

-- '{' after '<'
unfoldable pub packed_brace : Rule (Unit {0})
packed_brace = one brace_of

-- after `[`
unfoldable pub array_rest : Rule Ty → Rule Ty
array_rest item = do
  n ← count
  word s.X
  t ← item
  word s.CloseBracket
  give (ty.Array n t)

-- after `{`
unfoldable pub struct_rest : Rule Ty → Rule Ty
struct_rest field = do
  fields ← items s.CloseBrace field
  give (ty.Struct false fields)

-- after `<`
unfoldable pub packed_rest : Rule Ty → Rule Ty
packed_rest field = do
  packed_brace
  fields ← items s.CloseBrace field
  word s.Greater
  give (ty.Struct true fields)

-- the type that begins with this symbol, with its parts
abbrev pub nested : Form → Rule Ty → Symbol → Rule Ty
nested form part s.OpenBracket = skip >> array_rest part
nested form part s.OpenBrace = skip >> struct_rest part
nested form part s.Less = skip >> packed_rest part
nested form part symbol = flat form symbol

-- a symbol that opens an array or a struct
abbrev pub opens : Symbol → Bool
opens s.OpenBracket = true
opens s.OpenBrace = true
opens s.Less = true
opens _ = false

-- one more array or struct passes the limit
abbrev pub too_deep : Form → Symbol → Rule Ty
too_deep form symbol = cond (opens symbol) (stop (r.Limit limit.Types)) (flat form symbol)

-- a type: that of a value, an array, a struct or a name
unfoldable pub type_to : Form → ℕ → Rule Ty
type_to form zero = next_symbol >>= too_deep form
type_to form (suc depth) = next_symbol >>= nested form (type_to form depth)

-- at most 32 arrays and structs are open at once
abbrev pub max_depth : ℕ
max_depth = 32

-- the definition of a named type: a struct
abbrev pub struct_by : Form → Symbol → Rule Ty
struct_by form s.OpenBrace = skip >> struct_rest (type_to form 31)
struct_by form s.Less = skip >> packed_rest (type_to form 31)
struct_by form symbol = refuse

-- a struct
unfoldable pub struct_type : Form → Rule Ty
struct_type form = next_symbol >>= struct_by form
