-- Operations on memory are read as ones that give a value, or have an effect.
use Rattle.std.proofs.Common.{◌≡◌, true, List, [], ◌∷◌, ◌++◌, length, refl}
use Rattle.std.specs.Prelude.{nat_lt}
use Rattle.std.specs.List.{list_all}
use Rattle.std.proofs.lemmas.Bool.{and_parts, and_from}
use Rattle.ms_ir.specs.declared.syntax.Ty.{Ty, Int, Ptr}
use Rattle.ms_ir.specs.declared.syntax.Operand.{Operand}
use Rattle.ms_ir.specs.declared.syntax.Operand.TheVariants as operand
use Rattle.ms_ir.specs.declared.syntax.Op.{Op}
use Rattle.ms_ir.specs.declared.syntax.Op.TheVariants as op
use Rattle.ms_ir.specs.declared.forms.Form.{Form}
use Rattle.ms_text_grammar.specs.declared.symbols.Symbol.{Symbol}
use Rattle.ms_text_grammar.specs.declared.symbols.Symbol.TheVariants as s
use Rattle.ms_text_grammar.specs.Lexemes.{Lexeme}
use Rattle.ms_text_grammar.specs.Types.{int_type_of}
use Rattle.ms_text_grammar.specs.Values.{max_indices}
use Rattle.ms_text_grammar.specs.Insts.{Marked, address, load_rule, store_rule, index_by, index_turn, gep_rule, alloca_of, alloca_rule}
use Rattle.ms_text_grammar.specs.Texts.{ReadsUpTo}
use Rattle.ms_check_valid.specs.FormedCode.{is_width, is_int_type, type_formed, operand_formed}
use Rattle.ms_text_laws.proofs.Sound.{AllSound, all_pushed, if_within}
use Rattle.ms_text_laws.proofs.FormedTypes.{int_type_of_formed, value_is_type}
use Rattle.ms_text_laws.proofs.Yields.{Yields, given, judged, chained, after, looped}
use Rattle.ms_text_laws.proofs.Parts.{GivesValue, HasEffect, AllOperands, op_is, operand_more, one_operand, two_operands, value_type_read, type_read, value_read}

-- ---- an address

address_read : (form : Form) → Yields (address form) (λ a. operand_formed Ptr a ≡ true)
unfolding address
address_read form = after (λ comma. after (λ word. value_read form Ptr refl))

load_yields : (form : Form) → Yields (load_rule form) GivesValue
unfolding load_rule
load_yields form = chained value_type_read (λ t w. chained (address_read form) (λ a p. given (op_is (op.Load t a) w (one_operand Ptr a p) refl, refl, refl, refl)))

pub load_read : (form : Form) (ts : List Lexeme) (v : Op) (rest : List Lexeme) → AllSound ts → ReadsUpTo (load_rule form) ts v rest → GivesValue v
load_read form = (load_yields form).each

store_yields : (form : Form) → Yields (store_rule form) HasEffect
unfolding store_rule
store_yields form =
    chained value_type_read (λ t w. chained (value_read form t (value_is_type t w)) (λ v p. chained (address_read form) (λ a q.
    given (op_is (op.Store t v a) w (two_operands t Ptr v a p q) refl, refl, refl, refl))))

pub store_read : (form : Form) (ts : List Lexeme) (v : Op) (rest : List Lexeme) → AllSound ts → ReadsUpTo (store_rule form) ts v rest → HasEffect v
store_read form = (store_yields form).each

-- ---- indices, or a count

-- integers with their types
abbrev AreIntegers : List (Ty × Operand) → Type 0
AreIntegers found = (list_all (λ i. is_int_type i.0) found ≡ true) × AllOperands found

index_more : (found : List (Ty × Operand)) (t : Ty) (a : Operand) → AreIntegers found → is_int_type t ≡ true → operand_formed t a ≡ true → AreIntegers (found ++ (t, a) ∷ [])
index_more found t a h w p = (all_pushed (λ i. is_int_type i.0) found (t, a) h.0 w, all_pushed (λ i. operand_formed i.0 i.1) found (t, a) h.1 p)

module _ (form : Form) (found : List (Ty × Operand)) (h : AreIntegers found) where
  index_by_yields : (x : Symbol) → Yields (index_by form found x) (λ i. AreIntegers i.found)
  index_by_yields s.IntType =
      chained {P = λ w. is_width w ≡ true} (judged (λ t w sound e. int_type_of_formed t w sound (if_within (nat_lt (length found) max_indices) _ (int_type_of t) w e).1))
      (λ width w. chained (value_read form (Int width) w) (λ a p. given (index_more found (Int width) a h w p)))
  index_by_yields x = given h

  index_yields : Yields (index_turn form found) (λ i. AreIntegers i.found)
  unfolding index_turn
  index_yields = after (λ x. index_by_yields x)

gep_yields : (form : Form) → Yields (gep_rule form) (λ m. GivesValue m.0)
unfolding gep_rule
gep_yields form =
    after (λ words. chained (type_read form) (λ t w. chained (address_read form) (λ base p.
    chained {P = λ i. AreIntegers i.found} (looped (refl, refl) (λ indices comma sound h e. index_yields form indices.found h)) (λ indices h. after (λ marked.
    given (op_is (op.Gep t base indices.found) (and_from (type_formed t) (list_all (λ i. is_int_type i.0) indices.found) w h.0) (operand_more Ptr base indices.found p h.1) refl, refl, refl, refl))))))

pub gep_read : (form : Form) (ts : List Lexeme) (v : Marked) (rest : List Lexeme) → AllSound ts → ReadsUpTo (gep_rule form) ts v rest → GivesValue v.0
gep_read form = (gep_yields form).each

alloca_is : (t : Ty) (found : List (Ty × Operand)) → type_formed t ≡ true → AreIntegers found → GivesValue (alloca_of t found)
alloca_is t [] w h = (op_is (op.Alloca t (Int 32) (operand.Int 1)) (and_from (type_formed t) true w refl) refl refl, refl, refl, refl)
alloca_is t (count ∷ rest) w h =
    let int = and_parts (is_int_type count.0) (list_all (λ i. is_int_type i.0) rest) h.0 in
    let good = and_parts (operand_formed count.0 count.1) (list_all (λ i. operand_formed i.0 i.1) rest) h.1 in
    (op_is (op.Alloca t count.0 count.1) (and_from (type_formed t) (is_int_type count.0) w int.0) (one_operand count.0 count.1 good.0) refl, refl, refl, refl)

alloca_yields : (form : Form) → Yields (alloca_rule form) (λ m. GivesValue m.0)
unfolding alloca_rule
alloca_yields form =
    chained (type_read form) (λ t w. chained {P = λ i. AreIntegers i.found} (looped (refl, refl) (λ indices comma sound h e. index_yields form indices.found h))
    (λ count h. after (λ marked. given (alloca_is t count.found w h))))

pub alloca_read : (form : Form) (ts : List Lexeme) (v : Marked) (rest : List Lexeme) → AllSound ts → ReadsUpTo (alloca_rule form) ts v rest → GivesValue v.0
alloca_read form = (alloca_yields form).each
