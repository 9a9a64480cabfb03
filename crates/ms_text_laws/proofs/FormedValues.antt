-- Values and initialisers that are read are ones as they may stand after their type.
use Rattle.std.proofs.Common.{◌≡◌, ◌<◌, ℕ, zero, suc, ◌^◌, Bool, true, false, true≢false, ◌&&◌, cond, List, [], ◌∷◌, length, Option, Some, None, Ok, Err, ℤ, pos, negsuc, refl, sym, ◌∙◌, subst, arith}
use Rattle.std.specs.Prelude.{nat_lt, ◌==◌}
use Rattle.std.specs.List.{list_all}
use Rattle.std.proofs.Math.Nat.{mod-lt}
use Rattle.std.proofs.lemmas.Nat.{pow_pos}
use Rattle.std.proofs.lemmas.Bool.{and_parts, and_from, lt-ltb, eqb-true}
use Rattle.ms_bits.specs.Signed.{wrap}
use Rattle.ms_lex.specs.Grammar.{head, one, ◌>>◌}
use Rattle.ms_ir.specs.declared.syntax.Ty.{Ty, Int, Ptr}
use Rattle.ms_ir.specs.declared.syntax.Operand.{Operand}
use Rattle.ms_ir.specs.declared.syntax.Operand.TheVariants as operand
use Rattle.ms_ir.specs.declared.syntax.Init.{Init}
use Rattle.ms_ir.specs.declared.syntax.Init as initial
use Rattle.ms_ir.specs.declared.forms.Form.{Form}
use Rattle.ms_text_grammar.specs.declared.refusals.Limit.TheVariants as limit
use Rattle.ms_text_grammar.specs.declared.refusals.Cause.{Cause}
use Rattle.ms_text_grammar.specs.declared.refusals.Cause.TheVariants as r
use Rattle.ms_text_grammar.specs.declared.symbols.Symbol.{Symbol}
use Rattle.ms_text_grammar.specs.declared.symbols.Symbol.TheVariants as s
use Rattle.ms_text_grammar.specs.Lexemes.{Lexeme, end_of_text, is, name_in, number_in}
use Rattle.ms_text_grammar.specs.Steps.{Rule, judge_map, next_symbol, skip, stop, word, comma_begins}
use Rattle.ms_text_grammar.specs.Names.{local_by, global_by}
use Rattle.ms_text_grammar.specs.Types.{int_width, is_ptr, int_type_of, packed_brace, opens, type_to}
use Rattle.ms_text_grammar.specs.Values.{fits, number_by, number, gep_words, max_indices, index_type_of, constant_index, constant_indices, Address, gep_from, base_by, base_to, max_within, offset, int_value, truth_value, null_value, local_value, simple_by, simple_value, value_by, value_within, flat_init, typed, array_init, struct_init, packed_init, nested_init, init_to}
use Rattle.ms_text_grammar.specs.Texts.{ReadsUpTo}
use Rattle.ms_check_valid.specs.FormedNames.{is_global_name}
use Rattle.ms_check_valid.specs.FormedCode.{is_width, type_formed, number_formed, step_formed, steps_formed, operand_formed, is_constant, init_formed}
use Rattle.ms_check_valid.proofs.TypeShapes.{init_formed-array, init_formed-struct}
use Rattle.ms_text_laws.proofs.Sound.{IsSound, AllSound, sound_head, sound_rest, loop_keeps, all_pushed, items_pass, no_value, same_value, if_good, if_mapped, if_within}
use Rattle.ms_text_laws.proofs.Names.{local_by_formed, global_by_formed, global_formed}
use Rattle.ms_text_laws.proofs.FormedTypes.{int_type_of_formed, type_formed_to}

-- ---- numbers

-- what is kept of a number is below 2 to the power of the width
wrap_below : (width : ℕ) (z : ℤ) → wrap width z < 2 ^ width
unfolding wrap
wrap_below width (pos n) = mod-lt n (pow_pos width)
wrap_below width (negsuc n) = let some = pow_pos width in omega (arith, some)

number_by_below : (width : ℕ) (t : Lexeme) (v : ℕ) → number_by width t ≡ Ok v → nat_lt v (2 ^ width) ≡ true
number_by_below width t v h =
    let good = if_good (fits width (number_in t)) _ _ v h in
    subst (λ k. nat_lt k (2 ^ width) ≡ true) (same_value (wrap width (number_in t)) v good.1) (lt-ltb (wrap width (number_in t)) (2 ^ width) (wrap_below width (number_in t)))

pub number_formed_of : (width : ℕ) (ts : List Lexeme) (v : ℕ) (rest : List Lexeme) → AllSound ts → ReadsUpTo (number width) ts v rest → is_width width ≡ true → number_formed (Int width) v ≡ true
unfolding number
number_formed_of width ts v rest all h fits =
    let t = head end_of_text ts in
    and_from (is_width width) (nat_lt v (2 ^ width)) fits (number_by_below width t v (if_good (is s.Number t) _ _ v h.0).1)

-- ---- a constant 'getelementptr'

abbrev all_numbers : List (Ty × ℕ) → Bool
all_numbers indices = list_all (λ i. number_formed i.0 i.1) indices

index_type_formed : (before : ℕ) (t : Lexeme) (v : ℕ) → IsSound t → index_type_of before t ≡ Ok v → is_width v ≡ true
index_type_formed before t v sound h = int_type_of_formed t v sound (if_within (nat_lt before max_indices) limit.Indices (int_type_of t) v h).1

index_formed : (found : List (Ty × ℕ)) (ts : List Lexeme) (v : List (Ty × ℕ)) (rest : List Lexeme) → AllSound ts → ReadsUpTo (constant_index found) ts v rest → all_numbers found ≡ true → all_numbers v ≡ true
unfolding constant_index
index_formed found ts v rest all h before =
    let width = index_type_formed (length found) (head end_of_text ts) h.0 (sound_head ts all) h.2.0 in
    let after_type = sound_rest (one (index_type_of (length found))) ts h.0 h.1 all h.2 in
    subst (λ xs. all_numbers xs ≡ true) (sym h.3.3.0)
    (all_pushed (λ i. number_formed i.0 i.1) found (Int h.0, h.3.0) before (number_formed_of h.0 h.1 h.3.0 h.3.1 after_type h.3.2 width))

indices_formed : (ts : List Lexeme) (v : List (Ty × ℕ)) (rest : List Lexeme) → AllSound ts → ReadsUpTo constant_indices ts v rest → all_numbers v ≡ true
unfolding constant_indices
indices_formed ts v rest all h =
    loop_keeps (comma_begins (λ found. true)) (λ found comma. constant_index found) (λ found. all_numbers found ≡ true)
    (λ found t us w others begun sound good r p. index_formed found us w others good r p) [] ts v rest all h refl

-- the name of a global, and steps as they may stand
abbrev address_formed : Address → Bool
address_formed a = is_global_name a.0 && list_all step_formed a.1

-- of which there is one or more
abbrev stepped_formed : Address → Bool
stepped_formed a = is_global_name a.0 && steps_formed a.1

abbrev ReadsAddress : Rule Address → Type 0
ReadsAddress rule = (ts : List Lexeme) (v : Address) (rest : List Lexeme) → AllSound ts → ReadsUpTo rule ts v rest → address_formed v ≡ true

gep_from_formed : (form : Form) (depth : ℕ) (base : Rule Address) → ReadsAddress base
    → (ts : List Lexeme) (v : Address) (rest : List Lexeme) → AllSound ts → ReadsUpTo (gep_from form depth base) ts v rest → stepped_formed v ≡ true
unfolding gep_from
gep_from_formed form depth base each ts v rest all h =
    let words = sound_rest gep_words ts h.0 h.1 all h.2 in
    let bracket = h.3 in
    let after_open = sound_rest (word s.OpenParen) h.1 bracket.0 bracket.1 words bracket.2 in
    let target = bracket.3 in
    let after_target = sound_rest (type_to form depth) bracket.1 target.0 target.1 after_open target.2 in
    let comma = target.3 in
    let after_comma = sound_rest (word s.Comma) target.1 comma.0 comma.1 after_target comma.2 in
    let pointer = comma.3 in
    let after_pointer = sound_rest (word s.PtrType) comma.1 pointer.0 pointer.1 after_comma pointer.2 in
    let from = pointer.3 in
    let after_base = sound_rest base pointer.1 from.0 from.1 after_pointer from.2 in
    let indices = from.3 in
    let inner = and_parts (is_global_name from.0.0) (list_all step_formed from.0.1) (each pointer.1 from.0 from.1 after_pointer from.2) in
    let own = and_from (type_formed target.0) (all_numbers indices.0) (type_formed_to form depth bracket.1 target.0 target.1 after_open target.2)
    (indices_formed from.1 indices.0 indices.1 after_base indices.2) in
    subst (λ a. stepped_formed a ≡ true) (sym indices.3.3.0)
    (and_from (is_global_name from.0.0) (step_formed (target.0, indices.0) && list_all step_formed from.0.1) inner.0
    (and_from (step_formed (target.0, indices.0)) (list_all step_formed from.0.1) own inner.1))

-- with a step or without one
stepped_address : (a : Address) → stepped_formed a ≡ true → address_formed a ≡ true
stepped_address (x, []) h = absurd (true≢false (sym (and_parts (is_global_name x) false h).1))
stepped_address (x, step ∷ inner) h = h

base_by_formed : (form : Form) (inner : Rule Address) → ReadsAddress inner → (x : Symbol) → ReadsAddress (base_by form inner x)
base_by_formed form inner each s.GetElementPtr ts v rest all h = each ts v rest all h
base_by_formed form inner each x ts v rest all h =
    subst (λ a. address_formed a ≡ true) (sym h.3.0) (and_from (is_global_name h.0) true (global_formed form ts h.0 h.1 all h.2) refl)

-- another `getelementptr` as a base
inner_formed : (form : Form) (depth : ℕ) (base : Rule Address) → ReadsAddress base → ReadsAddress (skip >> gep_from form depth base)
inner_formed form depth base each ts v rest all h =
    stepped_address v (gep_from_formed form depth base each h.1 v rest (sound_rest skip ts h.0 h.1 all h.2) h.3)

base_formed : (form : Form) (depth within : ℕ) → ReadsAddress (base_to form depth within)
unfolding base_to
base_formed form depth zero ts v rest all h =
    base_by_formed form (stop (r.Limit limit.Indices)) (λ us w others sound k. no_value _ w k.0) h.0 h.1 v rest (sound_rest next_symbol ts h.0 h.1 all h.2) h.3
base_formed form depth (suc within) ts v rest all h =
    base_by_formed form (skip >> gep_from form depth (base_to form depth within)) (inner_formed form depth (base_to form depth within) (base_formed form depth within))
    h.0 h.1 v rest (sound_rest next_symbol ts h.0 h.1 all h.2) h.3

offset_formed : (form : Form) (depth : ℕ) (type : Ty) (ts : List Lexeme) (v : Operand) (rest : List Lexeme) → AllSound ts → ReadsUpTo (offset form depth) ts v rest → operand_formed type v ≡ true
unfolding offset
offset_formed form depth type ts v rest all h =
    subst (λ a. operand_formed type a ≡ true) (sym h.3.0)
    (gep_from_formed form depth (base_to form depth max_within) (base_formed form depth max_within) ts h.0 h.1 all h.2)

-- ---- values of one token

int_value_formed : (type : Ty) (t : Lexeme) (v : Operand) → type_formed type ≡ true → int_value (int_width type) t ≡ Ok v → operand_formed type v ≡ true
int_value_formed (Int width) t v formed h =
    let n = if_mapped operand.Int (number_by width t) v (if_good (is_width width) _ _ v h).1 in
    subst (λ a. operand_formed (Int width) a ≡ true) n.2 (and_from (is_width width) (nat_lt n.0 (2 ^ width)) formed (number_by_below width t n.0 n.1))
int_value_formed type t v formed h = no_value _ v h

truth_value_formed : (type : Ty) (n : ℕ) (t : Lexeme) (v : Operand) → n < 2 → type_formed type ≡ true → truth_value type n t ≡ Ok v → operand_formed type v ≡ true
truth_value_formed (Int width) n t v small formed h =
    let good = if_good (width == 1) _ _ v h in
    let one = eqb-true width 1 good.0 in
    subst (λ a. operand_formed (Int width) a ≡ true) (same_value (operand.Int n) v good.1)
    (and_from (is_width width) (nat_lt n (2 ^ width)) formed (subst (λ w. nat_lt n (2 ^ w) ≡ true) (sym one) (lt-ltb n 2 small)))
truth_value_formed type n t v small formed h = no_value _ v h

null_value_formed : (type : Ty) (t : Lexeme) (v : Operand) → null_value type t ≡ Ok v → operand_formed type v ≡ true
null_value_formed Ptr t v h = subst (λ a. operand_formed Ptr a ≡ true) (same_value operand.Null v h) refl
null_value_formed type t v h = no_value _ v h

local_value_formed : (form : Form) (locals : Bool) (type : Ty) (t : Lexeme) (v : Operand) → IsSound t → local_value form locals t ≡ Ok v → operand_formed type v ≡ true
local_value_formed form true type t v sound h =
    let x = if_mapped operand.Local (local_by form t.symbol t) v h in
    subst (λ a. operand_formed type a ≡ true) x.2 (local_by_formed form t.symbol t x.0 sound x.1)
local_value_formed form false type t v sound h = no_value _ v h

global_value_formed : (form : Form) (type : Ty) (t : Lexeme) (v : Operand) → IsSound t → judge_map operand.Global (global_by form t.symbol t) ≡ Ok v → operand_formed type v ≡ true
global_value_formed form type t v sound h =
    let x = if_mapped operand.Global (global_by form t.symbol t) v h in
    subst (λ a. operand_formed type a ≡ true) x.2 (global_by_formed form t.symbol t x.0 sound x.1)

simple_by_formed : (form : Form) (locals : Bool) (type : Ty) (x : Symbol) (t : Lexeme) (v : Operand) → IsSound t → type_formed type ≡ true → simple_by form locals type x t ≡ Ok v → operand_formed type v ≡ true
simple_by_formed form locals type s.Number t v sound formed h = int_value_formed type t v formed h
simple_by_formed form locals type s.True t v sound formed h = truth_value_formed type 1 t v (omega arith) formed h
simple_by_formed form locals type s.False t v sound formed h = truth_value_formed type 0 t v (omega arith) formed h
simple_by_formed form locals type s.Null t v sound formed h = null_value_formed type t v h
simple_by_formed form locals type s.Undef t v sound formed h = subst (λ a. operand_formed type a ≡ true) (same_value operand.Undef v h) refl
simple_by_formed form locals type s.Poison t v sound formed h = subst (λ a. operand_formed type a ≡ true) (same_value operand.Poison v h) refl
simple_by_formed form locals type s.Local t v sound formed h = local_value_formed form locals type t v sound h
simple_by_formed form locals type s.NumberedLocal t v sound formed h = local_value_formed form locals type t v sound h
simple_by_formed form locals type s.Global t v sound formed h = global_value_formed form type t v sound h
simple_by_formed form locals type x t v sound formed h = no_value _ v h

simple_formed : (form : Form) (locals : Bool) (type : Ty) (ts : List Lexeme) (v : Operand) (rest : List Lexeme) → AllSound ts → ReadsUpTo (simple_value form locals type) ts v rest → type_formed type ≡ true → operand_formed type v ≡ true
unfolding simple_value
simple_formed form locals type ts v rest all h formed = simple_by_formed form locals type (head end_of_text ts).symbol (head end_of_text ts) v (sound_head ts all) formed h.0

-- ---- values

value_by_formed : (form : Form) (depth : ℕ) (locals : Bool) (type : Ty) (x : Symbol) (ts : List Lexeme) (v : Operand) (rest : List Lexeme)
    → AllSound ts → ReadsUpTo (value_by form depth locals type x) ts v rest → type_formed type ≡ true → operand_formed type v ≡ true
value_by_formed form depth locals type s.GetElementPtr ts v rest all h formed = offset_formed form depth type h.1 v rest (sound_rest skip ts h.0 h.1 all h.2) h.3
value_by_formed form depth locals type x ts v rest all h formed = simple_formed form locals type ts v rest all h formed

pub value_formed : (form : Form) (depth : ℕ) (locals : Bool) (type : Ty) (ts : List Lexeme) (v : Operand) (rest : List Lexeme)
    → AllSound ts → ReadsUpTo (value_within form depth locals type) ts v rest → type_formed type ≡ true → operand_formed type v ≡ true
unfolding value_within
value_formed form depth locals type ts v rest all h formed =
    value_by_formed form depth locals type h.0 h.1 v rest (sound_rest next_symbol ts h.0 h.1 all h.2) h.3 formed

-- ---- constants

int_constant : (width : Option ℕ) (t : Lexeme) (v : Operand) → int_value width t ≡ Ok v → is_constant v ≡ true
int_constant None t v h = no_value _ v h
int_constant (Some width) t v h = subst (λ a. is_constant a ≡ true) (if_mapped operand.Int (number_by width t) v (if_good (is_width width) _ _ v h).1).2 refl

tested_constant : (b : Bool) (a v : Operand) (e : Cause) → is_constant a ≡ true → cond b (Ok a) (Err e) ≡ Ok v → is_constant v ≡ true
tested_constant b a v e c h = subst (λ a. is_constant a ≡ true) (same_value a v (if_good b (Ok a) e v h).1) c

simple_by_constant : (form : Form) (type : Ty) (x : Symbol) (t : Lexeme) (v : Operand) → simple_by form false type x t ≡ Ok v → is_constant v ≡ true
simple_by_constant form type s.Number t v h = int_constant (int_width type) t v h
simple_by_constant form type s.True t v h = tested_constant _ (operand.Int 1) v _ refl h
simple_by_constant form type s.False t v h = tested_constant _ (operand.Int 0) v _ refl h
simple_by_constant form type s.Null t v h = tested_constant (is_ptr type) operand.Null v _ refl h
simple_by_constant form type s.Undef t v h = subst (λ a. is_constant a ≡ true) (same_value operand.Undef v h) refl
simple_by_constant form type s.Poison t v h = subst (λ a. is_constant a ≡ true) (same_value operand.Poison v h) refl
simple_by_constant form type s.Local t v h = no_value _ v h
simple_by_constant form type s.NumberedLocal t v h = no_value _ v h
simple_by_constant form type s.Global t v h = subst (λ a. is_constant a ≡ true) (if_mapped operand.Global (global_by form t.symbol t) v h).2 refl
simple_by_constant form type x t v h = no_value _ v h

simple_constant : (form : Form) (type : Ty) (ts : List Lexeme) (v : Operand) (rest : List Lexeme) → ReadsUpTo (simple_value form false type) ts v rest → is_constant v ≡ true
unfolding simple_value
simple_constant form type ts v rest h = simple_by_constant form type (head end_of_text ts).symbol (head end_of_text ts) v h.0

offset_constant : (form : Form) (depth : ℕ) (ts : List Lexeme) (v : Operand) (rest : List Lexeme) → ReadsUpTo (offset form depth) ts v rest → is_constant v ≡ true
unfolding offset
offset_constant form depth ts v rest h = subst (λ a. is_constant a ≡ true) (sym h.3.0) refl

value_by_constant : (form : Form) (depth : ℕ) (type : Ty) (x : Symbol) (ts : List Lexeme) (v : Operand) (rest : List Lexeme) → ReadsUpTo (value_by form depth false type x) ts v rest → is_constant v ≡ true
value_by_constant form depth type s.GetElementPtr ts v rest h = offset_constant form depth h.1 v rest h.3
value_by_constant form depth type x ts v rest h = simple_constant form type ts v rest h

pub constant_read : (form : Form) (depth : ℕ) (type : Ty) (ts : List Lexeme) (v : Operand) (rest : List Lexeme) → AllSound ts → ReadsUpTo (value_within form depth false type) ts v rest → is_constant v ≡ true
unfolding value_within
constant_read form depth type ts v rest all h = value_by_constant form depth type h.0 h.1 v rest h.3

-- ---- initialisers

formed_init : (type : Ty) (i v : Init) → v ≡ i → init_formed type i ≡ true → init_formed type v ≡ true
formed_init type i v e h = subst (λ j. init_formed type j ≡ true) (sym e) h

flat_init_formed : (form : Form) (depth : ℕ) (type : Ty) (x : Symbol) (ts : List Lexeme) (v : Init) (rest : List Lexeme)
    → AllSound ts → ReadsUpTo (flat_init form depth type x) ts v rest → type_formed type ≡ true → init_formed type v ≡ true
flat_init_formed form depth type s.ZeroInitializer ts v rest all h formed = formed_init type initial.Zero v h.3.0 refl
flat_init_formed form depth type s.CText ts v rest all h formed =
    subst (λ i. init_formed type i ≡ true) (same_value (initial.Text (name_in (head end_of_text ts))) v h.0) (sound_head ts all).bytes
flat_init_formed form depth type x ts v rest all h formed =
    formed_init type (initial.Value h.0) v h.3.0
    (and_from (is_constant h.0) (operand_formed type h.0) (constant_read form depth type ts h.0 h.1 all h.2) (value_formed form depth false type ts h.0 h.1 all h.2 formed))

abbrev item_formed : Ty × Init → Bool
item_formed i = type_formed i.0 && init_formed i.0 i.1

abbrev ReadsItem : Rule (Ty × Init) → Type 0
ReadsItem rule = (ts : List Lexeme) (v : Ty × Init) (rest : List Lexeme) → AllSound ts → ReadsUpTo rule ts v rest → item_formed v ≡ true

module _ (part : Rule (Ty × Init)) (each : ReadsItem part) (type : Ty) where
  array_init_formed : (ts : List Lexeme) (v : Init) (rest : List Lexeme) → AllSound ts → ReadsUpTo (array_init part) ts v rest → init_formed type v ≡ true
  unfolding array_init
  array_init_formed ts v rest all h =
      formed_init type (initial.Array h.0) v h.3.0 (init_formed-array type h.0 ∙ items_pass s.CloseBracket part item_formed each ts h.0 h.1 all h.2)

  struct_init_formed : (ts : List Lexeme) (v : Init) (rest : List Lexeme) → AllSound ts → ReadsUpTo (struct_init part) ts v rest → init_formed type v ≡ true
  unfolding struct_init
  struct_init_formed ts v rest all h =
      formed_init type (initial.Struct false h.0) v h.3.0 (init_formed-struct type false h.0 ∙ items_pass s.CloseBrace part item_formed each ts h.0 h.1 all h.2)

  packed_init_formed : (ts : List Lexeme) (v : Init) (rest : List Lexeme) → AllSound ts → ReadsUpTo (packed_init part) ts v rest → init_formed type v ≡ true
  unfolding packed_init
  packed_init_formed ts v rest all h =
      let after_brace = sound_rest packed_brace ts h.0 h.1 all h.2 in
      formed_init type (initial.Struct true h.3.0) v h.3.3.3.0
      (init_formed-struct type true h.3.0 ∙ items_pass s.CloseBrace part item_formed each h.1 h.3.0 h.3.1 after_brace h.3.2)

  nested_init_formed : (form : Form) (depth : ℕ) (x y : Symbol) (ts : List Lexeme) (v : Init) (rest : List Lexeme)
      → AllSound ts → ReadsUpTo (nested_init part (flat_init form depth type y) x) ts v rest → type_formed type ≡ true → init_formed type v ≡ true
  nested_init_formed form depth s.OpenBracket y ts v rest all h formed = array_init_formed h.1 v rest (sound_rest skip ts h.0 h.1 all h.2) h.3
  nested_init_formed form depth s.OpenBrace y ts v rest all h formed = struct_init_formed h.1 v rest (sound_rest skip ts h.0 h.1 all h.2) h.3
  nested_init_formed form depth s.Less y ts v rest all h formed = packed_init_formed h.1 v rest (sound_rest skip ts h.0 h.1 all h.2) h.3
  nested_init_formed form depth x y ts v rest all h formed = flat_init_formed form depth type y ts v rest all h formed

deep_init_formed : (form : Form) (b : Bool) (type : Ty) (x : Symbol) (ts : List Lexeme) (v : Init) (rest : List Lexeme)
    → AllSound ts → ReadsUpTo (cond b (stop {A = Init} (r.Limit limit.Types)) (flat_init form 0 type x)) ts v rest → type_formed type ≡ true → init_formed type v ≡ true
deep_init_formed form true type x ts v rest all h formed = no_value _ v h.0
deep_init_formed form false type x ts v rest all h formed = flat_init_formed form 0 type x ts v rest all h formed

-- a type, and the initialiser after it
typed_formed : (form : Form) (depth : ℕ)
    → ((type : Ty) (ts : List Lexeme) (v : Init) (rest : List Lexeme) → AllSound ts → ReadsUpTo (init_to form depth type) ts v rest → type_formed type ≡ true → init_formed type v ≡ true)
    → ReadsItem (typed (type_to form depth) (init_to form depth))
typed_formed form depth inner ts v rest all h =
    let type = type_formed_to form depth ts h.0 h.1 all h.2 in
    let after_type = sound_rest (type_to form depth) ts h.0 h.1 all h.2 in
    subst (λ i. item_formed i ≡ true) (sym h.3.3.0)
    (and_from (type_formed h.0) (init_formed h.0 h.3.0) type (inner h.0 h.1 h.3.0 h.3.1 after_type h.3.2 type))

pub init_formed_to : (form : Form) (depth : ℕ) (type : Ty) (ts : List Lexeme) (v : Init) (rest : List Lexeme)
    → AllSound ts → ReadsUpTo (init_to form depth type) ts v rest → type_formed type ≡ true → init_formed type v ≡ true
unfolding init_to
init_formed_to form zero type ts v rest all h formed =
    deep_init_formed form (opens h.0) type h.0 h.1 v rest (sound_rest next_symbol ts h.0 h.1 all h.2) h.3 formed
init_formed_to form (suc depth) type ts v rest all h formed =
    nested_init_formed (typed (type_to form depth) (init_to form depth)) (typed_formed form depth (init_formed_to form depth)) type
    form (suc depth) h.0 h.0 h.1 v rest (sound_rest next_symbol ts h.0 h.1 all h.2) h.3 formed
