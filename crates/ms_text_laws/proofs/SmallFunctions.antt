-- Functions and declarations that are read keep the limits.
use Rattle.std.proofs.Common.{◌≡◌, ℕ, Bool, true, false, not, ◌&&◌, ◌==◌, List, map, length, refl, subst, ap, ◌∙◌}
use Rattle.std.specs.Prelude.{nat_le, nat_lt}
use Rattle.std.specs.List.{list_all}
use Rattle.std.proofs.lemmas.Bool.{and_parts, and_from}
use Rattle.std.proofs.lemmas.List.{length-map}
use Rattle.ms_lex.specs.Numbers.{decimal}
use Rattle.ms_ir.specs.declared.syntax.Name.{Name}
use Rattle.ms_ir.specs.declared.syntax.Name.TheVariants as name
use Rattle.ms_ir.specs.declared.syntax.Ty.{Ty}
use Rattle.ms_ir.specs.declared.syntax.Func.{Func}
use Rattle.ms_ir.specs.declared.syntax.Decl.{Decl}
use Rattle.ms_ir.specs.declared.forms.Form.{Form}
use Rattle.ms_text_grammar.specs.declared.refusals.Limit.TheVariants as limit
use Rattle.ms_text_grammar.specs.declared.states.Parameters.{Parameters}
use Rattle.ms_text_grammar.specs.declared.symbols.Symbol.{Symbol}
use Rattle.ms_text_grammar.specs.declared.symbols.Symbol.TheVariants as s
use Rattle.ms_text_grammar.specs.Lexemes.{name_in}
use Rattle.ms_text_grammar.specs.Types.{value_type_of}
use Rattle.ms_text_grammar.specs.Insts.{max_parameters, names_printf}
use Rattle.ms_text_grammar.specs.Functions.{no_parameters, has_room, parameter_name_by, parameter_name, typed_parameter, parameter, parameters, declaration, body_after, function}
use Rattle.ms_text_laws.proofs.Sound.{all_pushed, same_value, if_good, if_within}
use Rattle.ms_text_laws.proofs.Brings.{Brings, given, judged, chained, after, either, listed_brings}
use Rattle.ms_text_laws.proofs.SmallNames.{is_small_name, number_small, local_name_small, global_read}
use Rattle.ms_text_laws.proofs.SmallValues.{few_pushed}
use Rattle.ms_text_laws.proofs.SmallBodies.{is_small_block, blocks_read}

-- at most 100 parameters, with small names
record AreFew (form : Form) (ps : Parameters) : Type 0 where
  named : list_all (λ p. is_small_name form p.1) ps.found ≡ true
  few : nat_le (length ps.found) 100 ≡ true

module _ (form : Form) where
  name_by_read : (number : ℕ) (x : Symbol) → Brings (parameter_name_by form number x) (λ n. is_small_name form n ≡ true)
  name_by_read number s.Local = judged (λ t n h. local_name_small form (name_in t) n h)
  name_by_read number s.NumberedLocal =
      judged (λ t n h. subst (λ m. is_small_name form m ≡ true) (same_value (name.Number number) n (if_good (decimal (name_in t) == number) _ _ n h).1) (number_small form number))
  name_by_read number x = given (number_small form number)

  name_read : (number : ℕ) → Brings (parameter_name form number) (λ n. is_small_name form n ≡ true)
  unfolding parameter_name
  name_read number = after (λ x. name_by_read number x)

  typed_read : (ps : Parameters) → AreFew form ps → Brings (typed_parameter form ps) (AreFew form)
  unfolding typed_parameter
  typed_read ps k =
      chained {P = λ t. nat_lt (length ps.found) 100 ≡ true}
      (judged (λ t v e. (and_parts (nat_lt (length ps.found) max_parameters) (nat_lt ps.next max_parameters) (if_within (has_room ps) limit.Parameters (value_type_of t) v e).0).0))
      (λ t room. after (λ over. chained (name_read ps.next) (λ n h.
      given (record { named = all_pushed (λ p. is_small_name form p.1) ps.found (t, n) k.named h; few = few_pushed 100 ps.found (t, n) room }))))

  parameter_read : (dotted : Bool) (ps : Parameters) → AreFew form ps → Brings (parameter form dotted ps) (AreFew form)
  unfolding parameter
  parameter_read dotted ps k = after (λ dots. either dots (after (λ taken. given (record { named = k.named; few = k.few }))) (typed_read ps k))

  parameters_read : (dotted : Bool) → Brings (parameters form dotted) (AreFew form)
  unfolding parameters
  parameters_read dotted =
      listed_brings (AreFew form) s.CloseParen (λ ps. not ps.dots) (parameter form dotted) no_parameters (record { named = refl; few = refl }) (λ ps k. parameter_read dotted ps k)

-- ---- declarations and functions

-- a small name, and at most 100 parameters
abbrev pub is_small_decl : Form → Decl → Bool
is_small_decl form d = is_small_name form d.name && nat_le (length d.params) 100

-- and small names and blocks in it
abbrev pub is_small_func : Form → Func → Bool
is_small_func form f = is_small_name form f.name && nat_le (length f.params) 100 && list_all (λ p. is_small_name form p.1) f.params && list_all (is_small_block form) f.blocks

few_mapped : (found : List (Ty × Name)) → nat_le (length found) 100 ≡ true → nat_le (length (map (λ p. p.0) found)) 100 ≡ true
few_mapped found h = ap (λ n. nat_le n 100) (length-map found (λ (p : Ty × Name). p.0)) ∙ h

pub declaration_read : (form : Form) → Brings (declaration form) (λ d. is_small_decl form d ≡ true)
unfolding declaration
declaration_read form =
    after (λ attached. after (λ words. after (λ result. chained (global_read form) (λ n g. after (λ paren. chained (parameters_read form (names_printf n)) (λ ps k. after (λ over.
    given (and_from (is_small_name form n) (nat_le (length (map (λ p. p.0) ps.found)) 100) g (few_mapped ps.found k.few)))))))))

pub function_read : (form : Form) (before : ℕ) → Brings (function form before) (λ f. is_small_func form f ≡ true)
unfolding function
function_read form before =
    after (λ words. after (λ result. chained (global_read form) (λ n g. after (λ paren. chained (parameters_read form false) (λ ps k. after (λ over. after (λ brace.
    chained (blocks_read form (body_after ps before) refl refl refl) (λ bs h.
    let counted = and_from (is_small_name form n) (nat_le (length ps.found) 100) g k.few in
    let params = list_all (λ p. is_small_name form p.1) ps.found in
    given (and_from (is_small_name form n && nat_le (length ps.found) 100 && params) (list_all (is_small_block form) bs)
    (and_from (is_small_name form n && nat_le (length ps.found) 100) params counted k.named) h)))))))))
