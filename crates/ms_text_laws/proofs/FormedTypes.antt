-- Types that are read are types as they may stand.
use Rattle.std.proofs.Common.{◌≡◌, ℕ, zero, suc, ◌^◌, Bool, true, false, ◌&&◌, cond, List, Option, Ok, ℤ, pos, negsuc, refl, sym, ap, ◌∙◌, subst}
use Rattle.std.specs.Prelude.{nat_lt}
use Rattle.std.specs.List.{list_all}
use Rattle.std.proofs.lemmas.Bool.{and_from}
use Rattle.ms_lex.specs.Grammar.{head}
use Rattle.ms_ir.specs.declared.syntax.Ty.{Ty, Int, Ptr, Array, Array', Struct', Named}
use Rattle.ms_ir.specs.declared.forms.Form.{Form}
use Rattle.ms_text_grammar.specs.declared.refusals.Limit.TheVariants as limit
use Rattle.ms_text_grammar.specs.declared.refusals.Cause.TheVariants as r
use Rattle.ms_text_grammar.specs.declared.symbols.Symbol.{Symbol}
use Rattle.ms_text_grammar.specs.declared.symbols.Symbol.TheVariants as s
use Rattle.ms_text_grammar.specs.Lexemes.{Lexeme, end_of_text, is, same_symbol, number_in, width_in}
use Rattle.ms_text_grammar.specs.Steps.{Rule, next_symbol, skip, stop, word, items}
use Rattle.ms_text_grammar.specs.Types.{int_type_of, int_type, value_type_by, value_type_of, value_type, result_type_by, result_type, count_by, count, flat, packed_brace, array_rest, struct_rest, packed_rest, nested, opens, type_to, struct_by, struct_type}
use Rattle.ms_text_grammar.specs.Texts.{ReadsUpTo}
use Rattle.ms_check_valid.specs.FormedCode.{is_width, is_value_type, type_formed, result_formed}
use Rattle.ms_check_valid.specs.Formed.{is_struct}
use Rattle.ms_check_valid.proofs.TypeShapes.{type_formed-array, type_formed-struct}
use Rattle.ms_text_laws.proofs.Sound.{IsSound, AllSound, sound_head, sound_rest, items_pass, no_value, same_value, if_good}
use Rattle.ms_text_laws.proofs.Names.{local_formed}

abbrev ReadsFormed : Rule Ty → Type 0
ReadsFormed rule = (ts : List Lexeme) (v : Ty) (rest : List Lexeme) → AllSound ts → ReadsUpTo rule ts v rest → type_formed v ≡ true

-- ---- the types of values

pub int_type_of_formed : (t : Lexeme) (v : ℕ) → IsSound t → int_type_of t ≡ Ok v → is_width v ≡ true
int_type_of_formed t v sound h =
    let good = if_good (is s.IntType t) _ _ v h in
    subst (λ n. is_width n ≡ true) (same_value (width_in t) v good.1) (sound.width good.0)

pub int_type_formed : (ts : List Lexeme) (v : ℕ) (rest : List Lexeme) → AllSound ts → ReadsUpTo int_type ts v rest → is_width v ≡ true
unfolding int_type
int_type_formed ts v rest all h = int_type_of_formed (head end_of_text ts) v (sound_head ts all) h.0

int_is_int : same_symbol s.IntType s.IntType ≡ true
unfolding same_symbol
int_is_int = refl

value_type_by_formed : (x : Symbol) (t : Lexeme) (v : Ty) → IsSound t → t.symbol ≡ x → value_type_by x t ≡ Ok v → is_value_type v ≡ true
value_type_by_formed s.PtrType t v sound e h = subst (λ u. is_value_type u ≡ true) (same_value Ptr v h) refl
value_type_by_formed s.IntType t v sound e h =
    subst (λ u. is_value_type u ≡ true) (same_value (Int (width_in t)) v h) (sound.width (ap (λ y. same_symbol y s.IntType) e ∙ int_is_int))
value_type_by_formed x t v sound e h = no_value _ v h

pub value_type_of_formed : (t : Lexeme) (v : Ty) → IsSound t → value_type_of t ≡ Ok v → is_value_type v ≡ true
value_type_of_formed t v sound h = value_type_by_formed t.symbol t v sound refl h

pub value_type_formed : (ts : List Lexeme) (v : Ty) (rest : List Lexeme) → AllSound ts → ReadsUpTo value_type ts v rest → is_value_type v ≡ true
unfolding value_type
value_type_formed ts v rest all h = value_type_of_formed (head end_of_text ts) v (sound_head ts all) h.0

result_type_by_formed : (x : Symbol) (ts : List Lexeme) (v : Option Ty) (rest : List Lexeme) → AllSound ts → ReadsUpTo (result_type_by x) ts v rest → result_formed v ≡ true
result_type_by_formed s.Void ts v rest all h = subst (λ t. result_formed t ≡ true) (sym h.3.0) refl
result_type_by_formed x ts v rest all h = subst (λ t. result_formed t ≡ true) (sym h.3.0) (value_type_formed ts h.0 h.1 all h.2)

pub result_type_formed : (ts : List Lexeme) (v : Option Ty) (rest : List Lexeme) → AllSound ts → ReadsUpTo result_type ts v rest → result_formed v ≡ true
unfolding result_type
result_type_formed ts v rest all h = result_type_by_formed h.0 h.1 v rest (sound_rest next_symbol ts h.0 h.1 all h.2) h.3

-- ---- all types

pub value_is_type : (t : Ty) → is_value_type t ≡ true → type_formed t ≡ true
value_is_type Ptr h = refl
value_is_type (Int n) h = h
value_is_type (Array' n shape item) h = absurd cc
value_is_type (Struct' packed shape fields) h = absurd cc
value_is_type (Named x) h = absurd cc

count_by_formed : (z : ℤ) (t : Lexeme) (v : ℕ) → count_by z t ≡ Ok v → nat_lt v (2 ^ 64) ≡ true
count_by_formed (pos n) t v h =
    let good = if_good (nat_lt n (2 ^ 64)) _ _ v h in
    subst (λ k. nat_lt k (2 ^ 64) ≡ true) (same_value n v good.1) good.0
count_by_formed (negsuc n) t v h = no_value _ v h

count_formed : (ts : List Lexeme) (v : ℕ) (rest : List Lexeme) → ReadsUpTo count ts v rest → nat_lt v (2 ^ 64) ≡ true
unfolding count
count_formed ts v rest h =
    let t = head end_of_text ts in
    count_by_formed (number_in t) t v (if_good (is s.Number t) _ _ v h.0).1

formed_as : (u v : Ty) → v ≡ u → type_formed u ≡ true → type_formed v ≡ true
formed_as u v e h = subst (λ t. type_formed t ≡ true) (sym e) h

of_value_type : ReadsFormed value_type
of_value_type ts v rest all h = value_is_type v (value_type_formed ts v rest all h)

flat_formed : (form : Form) (x : Symbol) → ReadsFormed (flat form x)
flat_formed form s.PtrType ts v rest all h = of_value_type ts v rest all h
flat_formed form s.IntType ts v rest all h = of_value_type ts v rest all h
flat_formed form s.Local ts v rest all h = formed_as (Named h.0) v h.3.0 (local_formed form ts h.0 h.1 all h.2)
flat_formed form s.NumberedLocal ts v rest all h = formed_as (Named h.0) v h.3.0 (local_formed form ts h.0 h.1 all h.2)
flat_formed form x ts v rest all h = no_value _ v h.0

module _ (part : Rule Ty) (each : ReadsFormed part) where
  array_formed : ReadsFormed (array_rest part)
  unfolding array_rest
  array_formed ts v rest all h =
      let after_count = sound_rest count ts h.0 h.1 all h.2 in
      let after_x = sound_rest (word s.X) h.1 h.3.0 h.3.1 after_count h.3.2 in
      let item = each h.3.1 h.3.3.0 h.3.3.1 after_x h.3.3.2 in
      formed_as (Array h.0 h.3.3.0) v h.3.3.3.3.0
      (type_formed-array h.0 h.3.3.0 ∙ and_from (nat_lt h.0 (2 ^ 64)) (type_formed h.3.3.0 && true) (count_formed ts h.0 h.1 h.2) (and_from (type_formed h.3.3.0) true item refl))

  fields_formed : (ts : List Lexeme) (v : List Ty) (rest : List Lexeme) → AllSound ts → ReadsUpTo (items s.CloseBrace part) ts v rest → list_all type_formed v ≡ true
  fields_formed ts v rest all h = items_pass s.CloseBrace part type_formed each ts v rest all h

  -- what is read is a struct too
  struct_rest_formed : (ts : List Lexeme) (v : Ty) (rest : List Lexeme) → AllSound ts → ReadsUpTo (struct_rest part) ts v rest → (is_struct v && type_formed v) ≡ true
  unfolding struct_rest
  struct_rest_formed ts v rest all h =
      subst (λ t. (is_struct t && type_formed t) ≡ true) (sym h.3.0) (type_formed-struct false h.0 ∙ fields_formed ts h.0 h.1 all h.2)

  packed_rest_formed : (ts : List Lexeme) (v : Ty) (rest : List Lexeme) → AllSound ts → ReadsUpTo (packed_rest part) ts v rest → (is_struct v && type_formed v) ≡ true
  unfolding packed_rest
  packed_rest_formed ts v rest all h =
      let after_brace = sound_rest packed_brace ts h.0 h.1 all h.2 in
      subst (λ t. (is_struct t && type_formed t) ≡ true) (sym h.3.3.3.0) (type_formed-struct true h.3.0 ∙ fields_formed h.1 h.3.0 h.3.1 after_brace h.3.2)

  second : (a b : Bool) → (a && b) ≡ true → b ≡ true
  second true b h = h
  second false b h = absurd cc

  nested_formed : (form : Form) (x : Symbol) → ReadsFormed (nested form part x)
  nested_formed form s.OpenBracket ts v rest all h = array_formed h.1 v rest (sound_rest skip ts h.0 h.1 all h.2) h.3
  nested_formed form s.OpenBrace ts v rest all h = second (is_struct v) (type_formed v) (struct_rest_formed h.1 v rest (sound_rest skip ts h.0 h.1 all h.2) h.3)
  nested_formed form s.Less ts v rest all h = second (is_struct v) (type_formed v) (packed_rest_formed h.1 v rest (sound_rest skip ts h.0 h.1 all h.2) h.3)
  nested_formed form x ts v rest all h = flat_formed form x ts v rest all h

deep_formed : (form : Form) (b : Bool) (x : Symbol) (ts : List Lexeme) (v : Ty) (rest : List Lexeme) → AllSound ts → ReadsUpTo (cond b (stop {A = Ty} (r.Limit limit.Types)) (flat form x)) ts v rest → type_formed v ≡ true
deep_formed form true x ts v rest all h = no_value _ v h.0
deep_formed form false x ts v rest all h = flat_formed form x ts v rest all h

pub type_formed_to : (form : Form) (depth : ℕ) (ts : List Lexeme) (v : Ty) (rest : List Lexeme) → AllSound ts → ReadsUpTo (type_to form depth) ts v rest → type_formed v ≡ true
unfolding type_to
type_formed_to form zero ts v rest all h = deep_formed form (opens h.0) h.0 h.1 v rest (sound_rest next_symbol ts h.0 h.1 all h.2) h.3
type_formed_to form (suc depth) ts v rest all h =
    nested_formed (type_to form depth) (type_formed_to form depth) form h.0 h.1 v rest (sound_rest next_symbol ts h.0 h.1 all h.2) h.3

-- ---- the definitions of named types

struct_by_formed : (form : Form) (x : Symbol) (ts : List Lexeme) (v : Ty) (rest : List Lexeme) → AllSound ts → ReadsUpTo (struct_by form x) ts v rest → (is_struct v && type_formed v) ≡ true
struct_by_formed form s.OpenBrace ts v rest all h =
    struct_rest_formed (type_to form 31) (type_formed_to form 31) h.1 v rest (sound_rest skip ts h.0 h.1 all h.2) h.3
struct_by_formed form s.Less ts v rest all h =
    packed_rest_formed (type_to form 31) (type_formed_to form 31) h.1 v rest (sound_rest skip ts h.0 h.1 all h.2) h.3
struct_by_formed form x ts v rest all h = no_value _ v h.0

pub struct_formed : (form : Form) (ts : List Lexeme) (v : Ty) (rest : List Lexeme) → AllSound ts → ReadsUpTo (struct_type form) ts v rest → (is_struct v && type_formed v) ≡ true
unfolding struct_type
struct_formed form ts v rest all h = struct_by_formed form h.0 h.1 v rest (sound_rest next_symbol ts h.0 h.1 all h.2) h.3
