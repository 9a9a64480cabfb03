-- Types that are read are no deeper than they may be, and have small names.
use Rattle.std.proofs.Common.{◌≡◌, ℕ, zero, suc, ◌≤◌, max, Bool, true, false, ◌&&◌, List, [], ◌∷◌, Option, Some, None, Ok, refl, subst, ap, ◌∙◌, arith}
use Rattle.std.specs.Prelude.{nat_le}
use Rattle.std.specs.List.{list_all}
use Rattle.std.proofs.lemmas.Bool.{leb-true, le-leb, and_parts, and_from}
use Rattle.ms_ir.specs.declared.syntax.Name.{Name}
use Rattle.ms_ir.specs.declared.syntax.Ty.{Ty, Int, Ptr, Array, Struct, Named, Row_of-Ty, end_of-Ty, more_of-Ty, items-the_row-Ty, items_hidden-the_row-Ty-1}
use Rattle.ms_ir.specs.declared.syntax.Ty.TheBlock.{hidden-the_row-Ty-0, hidden-the_row-Ty-1, shape-the_row-Ty-0}
use Rattle.ms_ir.specs.Written.{type_mentions}
use Rattle.ms_ir.specs.declared.forms.Form.{Form}
use Rattle.ms_text_grammar.specs.declared.refusals.Limit.TheVariants as limit
use Rattle.ms_text_grammar.specs.declared.refusals.Cause.TheVariants as r
use Rattle.ms_text_grammar.specs.declared.symbols.Symbol.{Symbol}
use Rattle.ms_text_grammar.specs.declared.symbols.Symbol.TheVariants as s
use Rattle.ms_text_grammar.specs.Lexemes.{Lexeme, width_in}
use Rattle.ms_text_grammar.specs.Steps.{Rule}
use Rattle.ms_text_grammar.specs.Types.{value_type_by, value_type_of, value_type, result_type_by, result_type, flat, array_rest, struct_rest, packed_rest, nested, opens, type_to, struct_by, struct_type}
use Rattle.ms_check_valid.specs.ReadLimits.{type_depth, row_depth, mentioned}
use Rattle.ms_check_valid.proofs.TypeShapes.{type_mentions-array, type_mentions-struct}
use Rattle.ms_text_laws.proofs.Sound.{no_value, same_value}
use Rattle.ms_text_laws.proofs.Brings.{Brings, given, judged, chained, after, either, refused, stopped, items_bring}
use Rattle.ms_text_laws.proofs.SmallNames.{is_small_name, small_mentions, all_joined, all_among, local_read}

-- so many arrays and structs of a type at most are open at once, and the names in it are small
abbrev pub is_small_type : Form → ℕ → Ty → Bool
is_small_type form depth t = nat_le (type_depth t) depth && small_mentions form (type_mentions t)

-- ---- depths

-- the deepest of some types
abbrev deepest : List Ty → ℕ
deepest [] = 0
deepest (t ∷ ts) = max (type_depth t) (deepest ts)

row_depth-items : (n : _) (row : Row_of-Ty n) → row_depth row ≡ deepest (items-the_row-Ty n row)
row_depth-items n end_of-Ty = refl
row_depth-items n (more_of-Ty t ts) = ap (λ d. max (type_depth t) d) (row_depth-items _ ts)

type_depth-array : (n : ℕ) (t : Ty) → type_depth (Array n t) ≡ suc (max (type_depth t) 0)
unfolding hidden-the_row-Ty-0 shape-the_row-Ty-0 denote.Hole.Carrier.hidden
type_depth-array n t = refl

type_depth-struct : (packed : Bool) (ts : List Ty) → type_depth (Struct packed ts) ≡ suc (deepest ts)
type_depth-struct packed ts = ap suc (row_depth-items _ (hidden-the_row-Ty-1 ts) ∙ ap deepest (items_hidden-the_row-Ty-1 ts))

all_shallow : (form : Form) (depth : ℕ) (ts : List Ty) → list_all (is_small_type form depth) ts ≡ true → deepest ts ≤ depth
all_shallow form depth [] h = omega arith
all_shallow form depth (t ∷ ts) h =
    let parts = and_parts (is_small_type form depth t) (list_all (is_small_type form depth) ts) h in
    let first = leb-true (type_depth t) depth (and_parts (nat_le (type_depth t) depth) (small_mentions form (type_mentions t)) parts.0).0 in
    let rest = all_shallow form depth ts parts.1 in
    omega (arith, first, rest)

-- ---- types by their parts

pub small_parts : (form : Form) (depth : ℕ) (t : Ty) → is_small_type form depth t ≡ true → (nat_le (type_depth t) depth ≡ true) × (small_mentions form (type_mentions t) ≡ true)
small_parts form depth t h = and_parts (nat_le (type_depth t) depth) (small_mentions form (type_mentions t)) h

small_from : (form : Form) (depth : ℕ) (t : Ty) → type_depth t ≤ depth → small_mentions form (type_mentions t) ≡ true → is_small_type form depth t ≡ true
small_from form depth t h k = and_from (nat_le (type_depth t) depth) (small_mentions form (type_mentions t)) (le-leb (type_depth t) depth h) k

pub int_small : (form : Form) (depth width : ℕ) → is_small_type form depth (Int width) ≡ true
int_small form depth width = small_from form depth (Int width) (omega arith) refl

pub ptr_small : (form : Form) (depth : ℕ) → is_small_type form depth Ptr ≡ true
ptr_small form depth = small_from form depth Ptr (omega arith) refl

named_small : (form : Form) (depth : ℕ) (n : Name) → is_small_name form n ≡ true → is_small_type form depth (Named n) ≡ true
named_small form depth n h = small_from form depth (Named n) (omega arith) (and_from (is_small_name form n) true h refl)

array_small : (form : Form) (depth n : ℕ) (t : Ty) → is_small_type form depth t ≡ true → is_small_type form (suc depth) (Array n t) ≡ true
array_small form depth n t h =
    let parts = small_parts form depth t h in
    let deep = leb-true (type_depth t) depth parts.0 in
    let same = type_depth-array n t in
    small_from form (suc depth) (Array n t) (omega (arith, deep, same))
    (ap (small_mentions form) (type_mentions-array n t) ∙ all_joined (λ x. is_small_name form (mentioned x)) (type_mentions t) [] parts.1 refl)

struct_small : (form : Form) (depth : ℕ) (packed : Bool) (ts : List Ty) → list_all (is_small_type form depth) ts ≡ true → is_small_type form (suc depth) (Struct packed ts) ≡ true
struct_small form depth packed ts h =
    let deep = all_shallow form depth ts h in
    let same = type_depth-struct packed ts in
    small_from form (suc depth) (Struct packed ts) (omega (arith, deep, same))
    (ap (small_mentions form) (type_mentions-struct packed ts)
    ∙ all_among (is_small_type form depth) (λ x. is_small_name form (mentioned x)) type_mentions (λ t k. (small_parts form depth t k).1) ts h)

-- ---- the types of values

value_type_by_small : (form : Form) (depth : ℕ) (x : Symbol) (t : Lexeme) (v : Ty) → value_type_by x t ≡ Ok v → is_small_type form depth v ≡ true
value_type_by_small form depth s.PtrType t v h = subst (λ u. is_small_type form depth u ≡ true) (same_value Ptr v h) (ptr_small form depth)
value_type_by_small form depth s.IntType t v h = subst (λ u. is_small_type form depth u ≡ true) (same_value (Int (width_in t)) v h) (int_small form depth (width_in t))
value_type_by_small form depth x t v h = no_value _ v h

pub value_type_of_small : (form : Form) (depth : ℕ) (t : Lexeme) (v : Ty) → value_type_of t ≡ Ok v → is_small_type form depth v ≡ true
value_type_of_small form depth t v h = value_type_by_small form depth t.symbol t v h

pub value_type_read : (form : Form) (depth : ℕ) → Brings value_type (λ t. is_small_type form depth t ≡ true)
unfolding value_type
value_type_read form depth = judged (λ t v h. value_type_of_small form depth t v h)

-- a result's type, if there is one
abbrev pub is_small_result : Form → Option Ty → Bool
is_small_result form None = true
is_small_result form (Some t) = is_small_type form 32 t

result_type_by_read : (form : Form) (x : Symbol) → Brings (result_type_by x) (λ t. is_small_result form t ≡ true)
result_type_by_read form s.Void = after (λ taken. given refl)
result_type_by_read form x = chained (value_type_read form 32) (λ t h. given h)

pub result_type_read : (form : Form) → Brings result_type (λ t. is_small_result form t ≡ true)
unfolding result_type
result_type_read form = after (λ x. result_type_by_read form x)

-- ---- all types

abbrev BringsType : Form → ℕ → Rule Ty → Type 0
BringsType form depth rule = Brings rule (λ t. is_small_type form depth t ≡ true)

flat_read : (form : Form) (depth : ℕ) (x : Symbol) → BringsType form depth (flat form x)
flat_read form depth s.PtrType = value_type_read form depth
flat_read form depth s.IntType = value_type_read form depth
flat_read form depth s.Local = chained (local_read form) (λ n h. given (named_small form depth n h))
flat_read form depth s.NumberedLocal = chained (local_read form) (λ n h. given (named_small form depth n h))
flat_read form depth x = refused

module _ (form : Form) (depth : ℕ) (part : Rule Ty) (each : BringsType form depth part) where
  array_read : BringsType form (suc depth) (array_rest part)
  unfolding array_rest
  array_read = after (λ n. after (λ word. chained each (λ t h. after (λ close. given (array_small form depth n t h)))))

  struct_rest_read : BringsType form (suc depth) (struct_rest part)
  unfolding struct_rest
  struct_rest_read = chained (items_bring s.CloseBrace part (is_small_type form depth) each) (λ ts h. given (struct_small form depth false ts h))

  packed_rest_read : BringsType form (suc depth) (packed_rest part)
  unfolding packed_rest
  packed_rest_read = after (λ brace. chained (items_bring s.CloseBrace part (is_small_type form depth) each) (λ ts h. after (λ greater. given (struct_small form depth true ts h))))

  nested_read : (x : Symbol) → BringsType form (suc depth) (nested form part x)
  nested_read s.OpenBracket = after (λ taken. array_read)
  nested_read s.OpenBrace = after (λ taken. struct_rest_read)
  nested_read s.Less = after (λ taken. packed_rest_read)
  nested_read x = flat_read form (suc depth) x

pub type_read : (form : Form) (depth : ℕ) → BringsType form depth (type_to form depth)
unfolding type_to
type_read form zero = after (λ x. either (opens x) (stopped (r.Limit limit.Types)) (flat_read form zero x))
type_read form (suc depth) = after (λ x. nested_read form depth (type_to form depth) (type_read form depth) x)

struct_by_read : (form : Form) (x : Symbol) → BringsType form 32 (struct_by form x)
struct_by_read form s.OpenBrace = after (λ taken. struct_rest_read form 31 (type_to form 31) (type_read form 31))
struct_by_read form s.Less = after (λ taken. packed_rest_read form 31 (type_to form 31) (type_read form 31))
struct_by_read form x = refused

pub struct_read : (form : Form) → BringsType form 32 (struct_type form)
unfolding struct_type
struct_read form = after (λ x. struct_by_read form x)
