-- Names, types, values, and what is read over: where they stop they name a cause.
use Rattle.std.proofs.Common.{ℕ, zero, suc, ◌^◌, Bool, true, false, cond, List, [], ◌∷◌, length, Option, Some, None, Ok, Err, ℤ, pos, negsuc, refl}
use Rattle.std.specs.Prelude.{nat_lt}
use Rattle.ms_lex.specs.Tokens.{Text}
use Rattle.ms_lex.specs.Numbers.{decimal}
use Rattle.ms_ir.specs.declared.syntax.Name.TheVariants as name
use Rattle.ms_ir.specs.declared.syntax.Ty.{Ty}
use Rattle.ms_ir.specs.declared.syntax.Operand.TheVariants as operand
use Rattle.ms_ir.specs.declared.syntax.Init.{Init}
use Rattle.ms_ir.specs.declared.forms.Form.{Form}
use Rattle.ms_ir.specs.declared.forms.Form.TheVariants.{Plain, Instrumented}
use Rattle.ms_text_grammar.specs.declared.refusals.Limit.TheVariants as limit
use Rattle.ms_text_grammar.specs.declared.refusals.Outside.TheVariants as outside
use Rattle.ms_text_grammar.specs.declared.refusals.Cause.TheVariants as r
use Rattle.ms_text_grammar.specs.declared.symbols.Symbol.{Symbol}
use Rattle.ms_text_grammar.specs.declared.symbols.Symbol.TheVariants as s
use Rattle.ms_text_grammar.specs.Lexemes.{Lexeme, is, name_in, number_in, width_in}
use Rattle.ms_text_grammar.specs.Steps.{Rule, refusal, begins_expression}
use Rattle.ms_text_grammar.specs.Names.{reserved_global, reserved_local, name_fits, text_name, local_name, global_name, number_name, local_by, local, global_by, global}
use Rattle.ms_text_grammar.specs.Types.{int_width, is_ptr, is_width, int_type_of, int_type, value_type_by, value_type_of, value_type, result_type_by, result_type, count_by, count, flat, packed_brace, array_rest, struct_rest, packed_rest, nested, opens, type_to, struct_by, struct_type}
use Rattle.ms_text_grammar.specs.Values.{fits, number_by, number, gep_words, max_indices, index_type_of, constant_index, constant_indices, Address, gep_from, base_by, base_to, max_within, offset, is_int_width, int_value, local_value, simple_by, simple_value, value_by, value_within, flat_init, typed, array_init, struct_init, packed_init, nested_init, init_to}
use Rattle.ms_text_grammar.specs.Skipped.{is_closer, is_awaited, may_skip, all_closed, balanced, in_parens, string_value, attribute_rest, attributes, mark_allowed, attached_by, meta, attachments, kind_by, kind_of, attached_rest, attached, suffix_by, suffix, suffixes, suffixes_from}
use Rattle.ms_text_laws.proofs.Blames.{IsCause, IsNamed, cause, refusal_is, if_named, or_refused, within_named, mapped_named, Blames, given, judged, chained, either, looped, refused, stopped, sight, word_taken, by_symbol, after_token, after_word, items_blame}

-- ---- names

text_named : (reserved : Bool) (text : Text) → IsNamed (text_name reserved text)
text_named reserved text =
    if_named reserved (Err r.Reserved) _ (cause r.Reserved refl) (if_named (name_fits text) (Ok (name.Text text)) (Err (r.Limit limit.Name)) tt (cause (r.Limit limit.Name) refl))

pub local_named : (form : Form) (text : Text) → IsNamed (local_name form text)
local_named form text = text_named (reserved_local form text) text

pub global_named : (form : Form) (text : Text) → IsNamed (global_name form text)
global_named form text = text_named (reserved_global form text) text

number_named : (n : ℕ) → IsNamed (number_name n)
number_named n = if_named (nat_lt n (2 ^ 32)) (Ok (name.Number n)) (Err r.Numbering) tt (cause r.Numbering refl)

pub local_by_named : (form : Form) (x : Symbol) (t : Lexeme) → IsNamed (local_by form x t)
local_by_named form s.Local t = local_named form (name_in t)
local_by_named form s.NumberedLocal t = number_named (decimal (name_in t))
local_by_named form x t = refusal_is t

global_by_named : (form : Form) (x : Symbol) (t : Lexeme) → IsNamed (global_by form x t)
global_by_named form s.Global t = global_named form (name_in t)
global_by_named form x t = refusal_is t

pub local_blames : (form : Form) → Blames (local form)
unfolding local
local_blames form = judged (λ t. local_by_named form t.symbol t)

pub global_blames : (form : Form) → Blames (global form)
unfolding global
global_blames form = judged (λ t. global_by_named form t.symbol t)

-- ---- types

pub int_type_named : (t : Lexeme) → IsNamed (int_type_of t)
int_type_named t = or_refused (is s.IntType t) (Ok (width_in t)) t tt

pub int_type_blames : Blames int_type
unfolding int_type
int_type_blames = judged int_type_named

aggregate : IsCause (r.Outside outside.AggregateValue)
aggregate = cause (r.Outside outside.AggregateValue) refl

value_type_by_named : (x : Symbol) (t : Lexeme) → IsNamed (value_type_by x t)
value_type_by_named s.PtrType t = tt
value_type_by_named s.IntType t = tt
value_type_by_named s.OpenBracket t = aggregate
value_type_by_named s.OpenBrace t = aggregate
value_type_by_named s.Less t = aggregate
value_type_by_named s.Local t = aggregate
value_type_by_named s.NumberedLocal t = aggregate
value_type_by_named x t = refusal_is t

pub value_type_named : (t : Lexeme) → IsNamed (value_type_of t)
value_type_named t = value_type_by_named t.symbol t

pub value_type_blames : Blames value_type
unfolding value_type
value_type_blames = judged value_type_named

result_type_by_blames : (x : Symbol) → Blames (result_type_by x)
result_type_by_blames s.Void = after_token (λ u. given)
result_type_by_blames x = chained value_type_blames (λ t. given)

pub result_type_blames : Blames result_type
unfolding result_type
result_type_blames = by_symbol result_type_by_blames

count_by_named : (z : ℤ) (t : Lexeme) → IsNamed (count_by z t)
count_by_named (pos n) t = or_refused (nat_lt n (2 ^ 64)) (Ok n) t tt
count_by_named (negsuc n) t = refusal_is t

count_blames : Blames count
unfolding count
count_blames = judged (λ t. or_refused (is s.Number t) (count_by (number_in t) t) t (count_by_named (number_in t) t))

brace_blames : Blames packed_brace
unfolding packed_brace
brace_blames =
    judged (λ t. if_named (is s.OpenBrace t) (Ok tt) _ tt (if_named (is s.Number t) (Err (r.Outside outside.Vector)) (Err (refusal t)) (cause (r.Outside outside.Vector) refl) (refusal_is t)))

flat_blames : (form : Form) (x : Symbol) → Blames (flat form x)
flat_blames form s.PtrType = value_type_blames
flat_blames form s.IntType = value_type_blames
flat_blames form s.Local = chained (local_blames form) (λ n. given)
flat_blames form s.NumberedLocal = chained (local_blames form) (λ n. given)
flat_blames form x = refused

module _ (part : Rule Ty) (each : Blames part) where
  array_blames : Blames (array_rest part)
  unfolding array_rest
  array_blames = chained count_blames (λ n. after_word _ (λ u. chained each (λ t. after_word _ (λ v. given))))

  struct_blames : Blames (struct_rest part)
  unfolding struct_rest
  struct_blames = chained (items_blame s.CloseBrace part each) (λ ts. given)

  packed_blames : Blames (packed_rest part)
  unfolding packed_rest
  packed_blames = chained brace_blames (λ u. chained (items_blame s.CloseBrace part each) (λ ts. after_word _ (λ v. given)))

  nested_blames : (form : Form) (x : Symbol) → Blames (nested form part x)
  nested_blames form s.OpenBracket = after_token (λ u. array_blames)
  nested_blames form s.OpenBrace = after_token (λ u. struct_blames)
  nested_blames form s.Less = after_token (λ u. packed_blames)
  nested_blames form x = flat_blames form x

pub type_blames : (form : Form) (depth : ℕ) → Blames (type_to form depth)
unfolding type_to
type_blames form zero = by_symbol (λ x. either (opens x) (stopped (r.Limit limit.Types) refl) (flat_blames form x))
type_blames form (suc depth) = by_symbol (λ x. nested_blames (type_to form depth) (type_blames form depth) form x)

struct_by_blames : (form : Form) (x : Symbol) → Blames (struct_by form x)
struct_by_blames form s.OpenBrace = after_token (λ u. struct_blames (type_to form 31) (type_blames form 31))
struct_by_blames form s.Less = after_token (λ u. packed_blames (type_to form 31) (type_blames form 31))
struct_by_blames form x = refused

pub struct_type_blames : (form : Form) → Blames (struct_type form)
unfolding struct_type
struct_type_blames form = by_symbol (struct_by_blames form)

-- ---- values

number_by_named : (width : ℕ) (t : Lexeme) → IsNamed (number_by width t)
number_by_named width t = or_refused (fits width (number_in t)) _ t tt

pub number_blames : (width : ℕ) → Blames (number width)
unfolding number
number_blames width = judged (λ t. or_refused (is s.Number t) (number_by width t) t (number_by_named width t))

pub gep_words_blame : Blames gep_words
unfolding gep_words
gep_words_blame = looped (λ u t. tt) (λ u t. given)

pub index_type_blames : (before : ℕ) (t : Lexeme) → IsNamed (index_type_of before t)
index_type_blames before t = within_named (nat_lt before max_indices) limit.Indices (int_type_of t) (int_type_named t)

constant_index_blames : (found : List (Ty × ℕ)) → Blames (constant_index found)
unfolding constant_index
constant_index_blames found = chained (judged (index_type_blames (length found))) (λ width. chained (number_blames width) (λ n. given))

constant_indices_blame : Blames constant_indices
unfolding constant_indices
constant_indices_blame = looped (λ found t. tt) (λ found t. constant_index_blames found)

gep_from_blames : (form : Form) (depth : ℕ) {base : Rule Address} → Blames base → Blames (gep_from form depth base)
unfolding gep_from
gep_from_blames form depth p =
    chained gep_words_blame (λ u. after_word _ (λ v. chained (type_blames form depth) (λ t. after_word _ (λ w. after_word _ (λ x. chained p (λ from.
    chained constant_indices_blame (λ indices. after_word _ (λ y. given))))))))

base_by_blames : (form : Form) {inner : Rule Address} → Blames inner → (x : Symbol) → Blames (base_by form inner x)
base_by_blames form p s.GetElementPtr = p
base_by_blames form p x = chained (global_blames form) (λ n. given)

base_blames : (form : Form) (depth within : ℕ) → Blames (base_to form depth within)
unfolding base_to
base_blames form depth zero = by_symbol (λ x. base_by_blames form (stopped (r.Limit limit.Indices) refl) x)
base_blames form depth (suc within) = by_symbol (λ x. base_by_blames form (after_token (λ u. gep_from_blames form depth (base_blames form depth within))) x)

offset_blames : (form : Form) (depth : ℕ) → Blames (offset form depth)
unfolding offset
offset_blames form depth = chained (gep_from_blames form depth (base_blames form depth max_within)) (λ a. given)

int_value_named : (width : Option ℕ) (t : Lexeme) → IsNamed (int_value width t)
int_value_named None t = refusal_is t
int_value_named (Some width) t = or_refused (is_int_width width) _ t (mapped_named operand.Int (number_by width t) (number_by_named width t))

local_value_named : (form : Form) (locals : Bool) (t : Lexeme) → IsNamed (local_value form locals t)
local_value_named form true t = mapped_named operand.Local (local_by form t.symbol t) (local_by_named form t.symbol t)
local_value_named form false t = refusal_is t

expression_named : (b : Bool) (t : Lexeme) → IsCause (cond b (r.Outside outside.ConstantExpression) (refusal t))
expression_named true t = cause (r.Outside outside.ConstantExpression) refl
expression_named false t = refusal_is t

simple_by_named : (form : Form) (locals : Bool) (type : Ty) (x : Symbol) (t : Lexeme) → IsNamed (simple_by form locals type x t)
simple_by_named form locals type s.Number t = int_value_named (int_width type) t
simple_by_named form locals type s.True t = or_refused (is_width 1 (int_width type)) _ t tt
simple_by_named form locals type s.False t = or_refused (is_width 1 (int_width type)) _ t tt
simple_by_named form locals type s.Null t = or_refused (is_ptr type) _ t tt
simple_by_named form locals type s.Undef t = tt
simple_by_named form locals type s.Poison t = tt
simple_by_named form locals type s.Local t = local_value_named form locals t
simple_by_named form locals type s.NumberedLocal t = local_value_named form locals t
simple_by_named form locals type s.Global t = mapped_named operand.Global (global_by form t.symbol t) (global_by_named form t.symbol t)
simple_by_named form locals type x t = expression_named (begins_expression x) t

simple_blames : (form : Form) (locals : Bool) (type : Ty) → Blames (simple_value form locals type)
unfolding simple_value
simple_blames form locals type = judged (λ t. simple_by_named form locals type t.symbol t)

value_by_blames : (form : Form) (depth : ℕ) (locals : Bool) (type : Ty) (x : Symbol) → Blames (value_by form depth locals type x)
value_by_blames form depth locals type s.GetElementPtr = after_token (λ u. offset_blames form depth)
value_by_blames form depth locals type x = simple_blames form locals type

pub value_blames : (form : Form) (depth : ℕ) (locals : Bool) (type : Ty) → Blames (value_within form depth locals type)
unfolding value_within
value_blames form depth locals type = by_symbol (value_by_blames form depth locals type)

-- ---- initialisers

flat_init_blames : (form : Form) (depth : ℕ) (type : Ty) (x : Symbol) → Blames (flat_init form depth type x)
flat_init_blames form depth type s.ZeroInitializer = after_token (λ u. given)
flat_init_blames form depth type s.CText = judged (λ t. tt)
flat_init_blames form depth type x = chained (value_blames form depth false type) (λ v. given)

module _ (part : Rule (Ty × Init)) (each : Blames part) where
  nested_init_blames : (rest : Rule Init) (x : Symbol) → Blames rest → Blames (nested_init part rest x)
  unfolding array_init struct_init packed_init
  nested_init_blames rest s.OpenBracket h = after_token (λ u. chained (items_blame s.CloseBracket part each) (λ all. given))
  nested_init_blames rest s.OpenBrace h = after_token (λ u. chained (items_blame s.CloseBrace part each) (λ all. given))
  nested_init_blames rest s.Less h = after_token (λ u. chained brace_blames (λ v. chained (items_blame s.CloseBrace part each) (λ all. after_word _ (λ w. given))))
  nested_init_blames rest x h = h

typed_blames : (form : Form) (depth : ℕ) → ((type : Ty) → Blames (init_to form depth type)) → Blames (typed (type_to form depth) (init_to form depth))
typed_blames form depth inner = chained (type_blames form depth) (λ t. chained (inner t) (λ i. given))

pub init_blames : (form : Form) (depth : ℕ) (type : Ty) → Blames (init_to form depth type)
unfolding init_to
init_blames form zero type = by_symbol (λ x. either (opens x) (stopped (r.Limit limit.Types) refl) (flat_init_blames form 0 type x))
init_blames form (suc depth) type =
    by_symbol (λ x. nested_init_blames (typed (type_to form depth) (init_to form depth)) (typed_blames form depth (init_blames form depth)) _ x (flat_init_blames form (suc depth) type x))

-- ---- what is read over

may_skip_named : (form : Form) (x : Symbol) (t : Lexeme) → IsNamed (may_skip form x t)
may_skip_named form s.Global t = mapped_named _ (global_name form (name_in t)) (global_named form (name_in t))
may_skip_named form s.Local t = mapped_named _ (local_name form (name_in t)) (local_named form (name_in t))
may_skip_named form s.Label t = mapped_named _ (local_name form (name_in t)) (local_named form (name_in t))
may_skip_named form x t = tt

all_closed_blames : (awaited : List Symbol) → Blames (all_closed awaited)
all_closed_blames [] = given
all_closed_blames (closer ∷ outer) = refused

pub balanced_blames : (form : Form) (closing : Symbol) → Blames (balanced form closing)
unfolding balanced
balanced_blames form closing =
    chained (looped (λ awaited t. if_named (is_closer t.symbol) (Ok (is_awaited awaited t.symbol)) (may_skip form t.symbol t) tt (may_skip_named form t.symbol t)) (λ awaited t. given))
    (λ awaited. chained (all_closed_blames awaited) (λ u. word_taken closing))

in_parens_blames : (form : Form) → Blames (in_parens form)
unfolding in_parens
in_parens_blames form = chained (sight s.OpenParen) (λ has. either has (after_token (λ u. balanced_blames form s.CloseParen)) given)

string_value_blames : Blames string_value
unfolding string_value
string_value_blames = chained (sight s.Equals) (λ has. either has (after_token (λ u. word_taken s.Str)) given)

pub attribute_rest_blames : (form : Form) (x : Symbol) → Blames (attribute_rest form x)
attribute_rest_blames form s.Align = word_taken s.Number
attribute_rest_blames form s.Group = given
attribute_rest_blames form s.DebugGroup = given
attribute_rest_blames form s.Str = string_value_blames
attribute_rest_blames form x = in_parens_blames form

pub attributes_blame : (form : Form) → Blames (attributes form)
unfolding attributes
attributes_blame form = looped (λ u t. tt) (λ u t. attribute_rest_blames form t.symbol)

mark_named : (form : Form) → IsNamed (mark_allowed form)
mark_named Plain = cause r.Reserved refl
mark_named Instrumented = tt

pub attached_by_named : (form : Form) (x : Symbol) → IsNamed (attached_by form x)
attached_by_named form s.Meta = tt
attached_by_named form s.NoSanitize = mark_named form
attached_by_named form x = tt

pub meta_blames : Blames meta
unfolding meta
meta_blames = judged (λ t. or_refused _ (Ok tt) t tt)

pub attachments_blame : (form : Form) → Blames (attachments form)
unfolding attachments
attachments_blame form = looped (λ u t. attached_by_named form t.symbol) (λ u t. meta_blames)

kind_by_named : (form : Form) (x : Symbol) (t : Lexeme) → IsNamed (kind_by form x t)
kind_by_named form s.Meta t = tt
kind_by_named form s.NoSanitize t = mark_named form
kind_by_named form x t = refusal_is t

pub kind_named : (form : Form) (t : Lexeme) → IsNamed (kind_of form t)
kind_named form t = kind_by_named form t.symbol t

attached_rest_blames : (form : Form) (marked marks : Bool) (x : Symbol) → Blames (attached_rest form marked marks x)
attached_rest_blames form marked marks s.Bang = after_token (λ u. after_word _ (λ v. chained (balanced_blames form s.CloseBrace) (λ w. given)))
attached_rest_blames form marked marks x = chained meta_blames (λ u. chained (in_parens_blames form) (λ v. given))

attached_blames : (form : Form) (marked : Bool) → Blames (attached form marked)
unfolding attached
attached_blames form marked = chained (judged (kind_named form)) (λ marks. by_symbol (attached_rest_blames form marked marks))

suffix_by_blames : (form : Form) (marked : Bool) (x : Symbol) → Blames (suffix_by form marked x)
suffix_by_blames form marked s.Align = after_token (λ u. after_word _ (λ v. given))
suffix_by_blames form marked x = attached_blames form marked

suffix_blames : (form : Form) (marked : Bool) → Blames (suffix form marked)
unfolding suffix
suffix_blames form marked = by_symbol (suffix_by_blames form marked)

suffixes_blame : (form : Form) (marked : Bool) → Blames (suffixes form marked)
unfolding suffixes
suffixes_blame form marked = looped (λ m t. tt) (λ m t. suffix_blames form m)

pub all_suffixes_blame : (form : Form) (begun : Bool) → Blames (suffixes_from form begun)
unfolding suffixes_from
all_suffixes_blame form begun = chained (either begun (suffix_blames form false) given) (λ marked. suffixes_blame form marked)
