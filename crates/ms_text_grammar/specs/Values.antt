-- Values by the type in front of them (LLVM Language Reference, "Constants"), and initialisers ("Complex Constants").
use Rattle.std.specs.Prelude.{ℕ, zero, suc, Bool, true, false, cond, ◌-◌, ◌&&◌, nat_le, nat_lt, if◌then◌else◌, List, [], ◌∷◌, ◌++◌, length, Option, Some, None, Ok, Err, ℤ, pos, negsuc, ◌^◌}
use Rattle.ms_bits.specs.Signed.{wrap}
use Rattle.ms_lex.specs.Grammar.{give, one, loop, ◌>>=◌, ◌>>◌}
use Rattle.ms_ir.specs.declared.syntax.Name.{Name}
use Rattle.ms_ir.specs.declared.syntax.Ty.{Ty}
use Rattle.ms_ir.specs.declared.syntax.Ty.TheVariants as ty
use Rattle.ms_ir.specs.declared.syntax.Operand.{Operand}
use Rattle.ms_ir.specs.declared.syntax.Operand.TheVariants as operand
use Rattle.ms_ir.specs.declared.syntax.Init.{Init}
use Rattle.ms_ir.specs.declared.syntax.Init.TheVariants as init
use Rattle.ms_ir.specs.declared.forms.Form.{Form}
use Rattle.ms_ir.specs.Equal.{AddressStep}
use Rattle.ms_text_grammar.specs.declared.symbols.Symbol.{Symbol}
use Rattle.ms_text_grammar.specs.declared.symbols.Symbol.TheVariants as s
use Rattle.ms_text_grammar.specs.declared.refusals.Cause.{Cause}
use Rattle.ms_text_grammar.specs.declared.refusals.Cause.TheVariants as r
use Rattle.ms_text_grammar.specs.declared.refusals.Limit.TheVariants as limit
use Rattle.ms_text_grammar.specs.declared.refusals.Outside.TheVariants as outside
use Rattle.ms_text_grammar.specs.Lexemes.{Lexeme, is, name_in, number_in}
use Rattle.ms_text_grammar.specs.Steps.{Rule, Verdict, refusal, within, judge_map, begins_expression, next_symbol, stop, skip, word, items, comma_begins}
use Rattle.ms_text_grammar.specs.Names.{local_by, global_by, global}
use Rattle.ms_text_grammar.specs.Types.{int_width, is_ptr, is_width, int_type_of, type_to, packed_brace, opens, max_depth}

-- ---- numbers

-- a number of an integer type lies from -2^(width - 1) to 2^width - 1
abbrev pub fits : ℕ → ℤ → Bool
fits width (pos n) = nat_lt n (2 ^ width)
fits width (negsuc n) = nat_lt n (2 ^ (width - 1))

-- it is kept modulo 2^width
abbrev pub number_by : ℕ → Lexeme → Verdict ℕ
number_by width t = if fits width (number_in t) then Ok (wrap width (number_in t)) else Err (refusal t)

-- a written number of an integer type
abbrev pub number_of : ℕ → Lexeme → Verdict ℕ
number_of width t = if is s.Number t then number_by width t else Err (refusal t)

-- a written number of iN
unfoldable pub number : ℕ → Rule ℕ
number width = one (number_of width)

-- ---- a constant `getelementptr`

-- the words that may stand after `getelementptr`, and are read over
abbrev pub is_gep_word : Symbol → Bool
is_gep_word s.InBounds = true
is_gep_word s.Nuw = true
is_gep_word s.Nusw = true
is_gep_word _ = false

-- such a word comes next
abbrev pub gep_word_begins : Unit {0} → Lexeme → Verdict Bool
gep_word_begins u t = Ok (is_gep_word t.symbol)

-- such words, as many as come
unfoldable pub gep_words : Rule (Unit {0})
gep_words = loop gep_word_begins (λ u t. give tt) tt

-- at most 64 indices
abbrev pub max_indices : ℕ
max_indices = 64

-- an index in front of which so many stand
abbrev pub index_type_of : ℕ → Lexeme → Verdict ℕ
index_type_of before t = within (nat_lt before max_indices) limit.Indices (int_type_of t)

-- iN number
unfoldable pub constant_index : List (Ty × ℕ) → Rule (List (Ty × ℕ))
constant_index found = do
  width ← one (index_type_of (length found))
  n ← number width
  give (found ++ (ty.Int width, n) ∷ [])

-- (',' iN number) as many as come
unfoldable pub constant_indices : Rule (List (Ty × ℕ))
constant_indices = loop (comma_begins (λ found. true)) (λ found comma. constant_index found) []

-- a global, and the steps that lead on from it, the outermost first
abbrev pub Address : Type 0
Address = Name × List AddressStep

-- after `getelementptr`, with what may stand as the base
unfoldable pub gep_from : Form → ℕ → Rule Address → Rule Address
gep_from form depth base = do
  gep_words
  word s.OpenParen
  t ← type_to form depth
  word s.Comma
  word s.PtrType
  from ← base
  indices ← constant_indices
  word s.CloseParen
  give (from.0, (t, indices) ∷ from.1)

-- another `getelementptr`, or a global
abbrev pub base_by : Form → Rule Address → Symbol → Rule Address
base_by form inner s.GetElementPtr = inner
base_by form inner symbol = global form >>= λ x. give (x, [])

-- the base of a `getelementptr`, in which so many more may stand within one another
unfoldable pub base_to : Form → ℕ → ℕ → Rule Address
base_to form depth zero = next_symbol >>= base_by form (stop (r.Limit limit.Indices))
base_to form depth (suc within) = next_symbol >>= base_by form (skip >> gep_from form depth (base_to form depth within))

-- at most so many stand within one
abbrev pub max_within : ℕ
max_within = 63

-- after `getelementptr`
unfoldable pub offset : Form → ℕ → Rule Operand
offset form depth = gep_from form depth (base_to form depth max_within) >>= λ a. give (operand.Offset a.0 a.1)

-- ---- values

-- the widths that integer types have
abbrev pub is_int_width : ℕ → Bool
is_int_width width = nat_le 1 width && nat_le width 64

-- a number stands after iN alone
abbrev pub int_value : Option ℕ → Lexeme → Verdict Operand
int_value None t = Err (refusal t)
int_value (Some width) t = if is_int_width width then judge_map operand.Int (number_by width t) else Err (refusal t)

-- `true` and `false` stand after `i1` alone
abbrev pub truth_value : Ty → ℕ → Lexeme → Verdict Operand
truth_value type n t = if is_width 1 (int_width type) then Ok (operand.Int n) else Err (refusal t)

-- `null` stands after `ptr` alone
abbrev pub null_value : Ty → Lexeme → Verdict Operand
null_value type t = if is_ptr type then Ok operand.Null else Err (refusal t)

-- a local is no constant
abbrev pub local_value : Form → Bool → Lexeme → Verdict Operand
local_value form true t = judge_map operand.Local (local_by form t.symbol t)
local_value form false t = Err (refusal t)

-- an operation would be a constant expression
abbrev pub no_value : Symbol → Lexeme → Cause
no_value symbol t = if begins_expression symbol then r.Outside outside.ConstantExpression else refusal t

-- The value that one token is. `locals` says whether a local may stand.
abbrev pub simple_by : Form → Bool → Ty → Symbol → Lexeme → Verdict Operand
simple_by form locals type s.Number t = int_value (int_width type) t
simple_by form locals type s.True t = truth_value type 1 t
simple_by form locals type s.False t = truth_value type 0 t
simple_by form locals type s.Null t = null_value type t
simple_by form locals type s.Undef t = Ok operand.Undef
simple_by form locals type s.Poison t = Ok operand.Poison
simple_by form locals type s.Local t = local_value form locals t
simple_by form locals type s.NumberedLocal t = local_value form locals t
simple_by form locals type s.Global t = judge_map operand.Global (global_by form t.symbol t)
simple_by form locals type symbol t = Err (no_value symbol t)

-- the value that a token is
abbrev pub simple_of : Form → Bool → Ty → Lexeme → Verdict Operand
simple_of form locals type t = simple_by form locals type t.symbol t

-- a value of one token
unfoldable pub simple_value : Form → Bool → Ty → Rule Operand
simple_value form locals type = one (simple_of form locals type)

-- a value by its first symbol
abbrev pub value_by : Form → ℕ → Bool → Ty → Symbol → Rule Operand
value_by form depth locals type s.GetElementPtr = skip >> offset form depth
value_by form depth locals type symbol = simple_value form locals type

-- a value of this type, below so many arrays and structs that may still open
unfoldable pub value_within : Form → ℕ → Bool → Ty → Rule Operand
value_within form depth locals type = next_symbol >>= value_by form depth locals type

-- an operand of an instruction
abbrev pub value : Form → Ty → Rule Operand
value form = value_within form max_depth true

-- ---- initialisers. Their brackets count with those of the types

-- the bytes of a string
abbrev pub bytes_init : Lexeme → Verdict Init
bytes_init t = Ok (init.Text (name_in t))

-- what opens no bracket
abbrev pub flat_init : Form → ℕ → Ty → Symbol → Rule Init
flat_init form depth type s.ZeroInitializer = skip >> give init.Zero
flat_init form depth type s.CText = one bytes_init
flat_init form depth type symbol = value_within form depth false type >>= λ v. give (init.Value v)

-- a type and the initialiser after it
abbrev pub typed : Rule Ty → (Ty → Rule Init) → Rule (Ty × Init)
typed type inner = type >>= λ t. inner t >>= λ i. give (t, i)

-- after `[`
unfoldable pub array_init : Rule (Ty × Init) → Rule Init
array_init item = do
  all ← items s.CloseBracket item
  give (init.Array all)

-- after `{`
unfoldable pub struct_init : Rule (Ty × Init) → Rule Init
struct_init item = do
  all ← items s.CloseBrace item
  give (init.Struct false all)

-- after `<`
unfoldable pub packed_init : Rule (Ty × Init) → Rule Init
packed_init item = do
  packed_brace
  all ← items s.CloseBrace item
  word s.Greater
  give (init.Struct true all)

-- the initialiser that begins with this symbol, with its parts
abbrev pub nested_init : Rule (Ty × Init) → Rule Init → Symbol → Rule Init
nested_init part flat s.OpenBracket = skip >> array_init part
nested_init part flat s.OpenBrace = skip >> struct_init part
nested_init part flat s.Less = skip >> packed_init part
nested_init part flat symbol = flat

-- one more bracket passes the limit
abbrev pub deep_init : Form → Ty → Symbol → Rule Init
deep_init form type symbol = cond (opens symbol) (stop (r.Limit limit.Types)) (flat_init form 0 type symbol)

-- an initialiser of a type, below so many arrays and structs that may still open
unfoldable pub init_to : Form → ℕ → Ty → Rule Init
init_to form zero type = next_symbol >>= deep_init form type
init_to form (suc depth) type =
    next_symbol >>= λ symbol. nested_init (typed (type_to form depth) (init_to form depth)) (flat_init form (suc depth) type symbol) symbol
