-- Phis and terminators are read with names of blocks.
use Rattle.std.proofs.Common.{◌≡◌, ℕ, suc, true, List, [], ◌∷◌, ◌++◌, map, length, Option, Some, None, refl, arith}
use Rattle.std.specs.Prelude.{nat_lt}
use Rattle.std.specs.List.{list_all}
use Rattle.std.proofs.lemmas.Bool.{and_from, lt-ltb}
use Rattle.ms_ir.specs.declared.syntax.Name.{Name}
use Rattle.ms_ir.specs.declared.syntax.Ty.{Ty, Int}
use Rattle.ms_ir.specs.declared.syntax.Operand.{Operand}
use Rattle.ms_ir.specs.declared.syntax.Op.{Op}
use Rattle.ms_ir.specs.declared.syntax.Op.TheVariants as op
use Rattle.ms_ir.specs.declared.forms.Form.{Form}
use Rattle.ms_text_grammar.specs.declared.symbols.Symbol.{Symbol}
use Rattle.ms_text_grammar.specs.declared.symbols.Symbol.TheVariants as s
use Rattle.ms_text_grammar.specs.Lexemes.{Lexeme}
use Rattle.ms_text_grammar.specs.Insts.{Marked, edge, edge_by, edge_turn, phi_rule, target, branch_on, branch_rule, case_rest, switch_rule, ret_value, ret_rule}
use Rattle.ms_text_grammar.specs.Texts.{ReadsUpTo}
use Rattle.ms_check_valid.specs.FormedNames.{is_local_name}
use Rattle.ms_check_valid.specs.FormedCode.{is_width, is_value_type, result_formed, number_formed, operand_formed}
use Rattle.ms_text_laws.proofs.Sound.{AllSound, all_pushed}
use Rattle.ms_text_laws.proofs.FormedTypes.{value_is_type}
use Rattle.ms_text_laws.proofs.Yields.{Yields, given, chained, after, either, looped, mapped_more}
use Rattle.ms_text_laws.proofs.Parts.{IsPhi, Ends, AllOperands, op_is, one_operand, local_read, int_type_read, value_type_read, result_type_read, number_read, value_read}

-- ---- phis

-- one edge or more, each of a value of this type from a block
abbrev AreEdges : Ty → List (Operand × Name) → Type 0
AreEdges t found = (nat_lt 0 (length found) ≡ true) × AllOperands (map (λ e. (t, e.0)) found) × (list_all is_local_name (map (λ e. e.1) found) ≡ true)

some_more : {A : Type 0} (xs : List A) (x : A) → nat_lt 0 (length (xs ++ x ∷ [])) ≡ true
some_more [] x = refl
some_more (y ∷ ys) x = lt-ltb 0 (suc (length (ys ++ x ∷ []))) (omega arith)

module _ (form : Form) (t : Ty) (w : is_value_type t ≡ true) where
  edge_read : Yields (edge form t) (λ e. (operand_formed t e.0 ≡ true) × (is_local_name e.1 ≡ true))
  unfolding edge
  edge_read = chained (value_read form t (value_is_type t w)) (λ v p. after (λ comma. chained (local_read form) (λ from q. after (λ bracket. given (p, q)))))

  first_edge : (e : Operand × Name) → operand_formed t e.0 ≡ true → is_local_name e.1 ≡ true → AreEdges t (e ∷ [])
  first_edge e p q = (refl, and_from (operand_formed t e.0) true p refl, and_from (is_local_name e.1) true q refl)

  edge_more : (found : List (Operand × Name)) (e : Operand × Name) → AreEdges t found → operand_formed t e.0 ≡ true → is_local_name e.1 ≡ true → AreEdges t (found ++ e ∷ [])
  edge_more found e h p q = (
    some_more found e,
    mapped_more (λ a. operand_formed a.0 a.1) (λ x. (t, x.0)) found e h.1 p,
    mapped_more is_local_name (λ x. x.1) found e h.2 q,
  )

  edge_by_yields : (found : List (Operand × Name)) (x : Symbol) → AreEdges t found → Yields (edge_by form t found x) (λ edges. AreEdges t edges.found)
  edge_by_yields found s.OpenBracket h = after (λ bracket. chained edge_read (λ e p. given (edge_more found e h p.0 p.1)))
  edge_by_yields found x h = given h

  edge_turn_yields : (found : List (Operand × Name)) → AreEdges t found → Yields (edge_turn form t found) (λ edges. AreEdges t edges.found)
  unfolding edge_turn
  edge_turn_yields found h = after (λ x. edge_by_yields found x h)

phi_is : (t : Ty) (edges : List (Operand × Name)) → is_value_type t ≡ true → AreEdges t edges → IsPhi (op.Phi t edges)
phi_is t edges w h = (op_is (op.Phi t edges) (and_from (is_value_type t) (nat_lt 0 (length edges)) w h.0) h.1 h.2, refl, refl)

phi_yields : (form : Form) → Yields (phi_rule form) (λ m. IsPhi m.0)
unfolding phi_rule
phi_yields form =
    chained value_type_read (λ t w. after (λ bracket. chained (edge_read form t w) (λ first p.
    chained {P = λ edges. AreEdges t edges.found} (looped (first_edge form t w first p.0 p.1) (λ edges comma sound h e. edge_turn_yields form t w edges.found h))
    (λ edges h. after (λ marked. given (phi_is t edges.found w h))))))

pub phi_read : (form : Form) (ts : List Lexeme) (v : Marked) (rest : List Lexeme) → AllSound ts → ReadsUpTo (phi_rule form) ts v rest → IsPhi v.0
phi_read form = (phi_yields form).each

-- ---- branches

target_read : (form : Form) → Yields (target form) (λ n. is_local_name n ≡ true)
unfolding target
target_read form = after (λ word. local_read form)

branch_on_yields : (form : Form) → Yields (branch_on form) Ends
unfolding branch_on
branch_on_yields form =
    after (λ bit. chained (value_read form (Int 1) refl) (λ c r. after (λ comma. chained (target_read form) (λ to p. after (λ again. chained (target_read form) (λ other q.
    given (op_is (op.CondBr c to other) refl (one_operand (Int 1) c r) (and_from (is_local_name to) _ p (and_from (is_local_name other) true q refl)), refl, refl)))))))

branch_yields : (form : Form) → Yields (branch_rule form) Ends
unfolding branch_rule
branch_yields form =
    after (λ plain. either plain (chained (target_read form) (λ to p. given (op_is (op.Br to) refl refl (and_from (is_local_name to) true p refl), refl, refl))) (branch_on_yields form))

pub branch_read : (form : Form) (ts : List Lexeme) (v : Op) (rest : List Lexeme) → AllSound ts → ReadsUpTo (branch_rule form) ts v rest → Ends v
branch_read form = (branch_yields form).each

-- ---- switches

-- numbers of this type, each with a block
abbrev AreCases : ℕ → List (ℕ × Name) → Type 0
AreCases width found = (list_all (λ c. number_formed (Int width) c.0) found ≡ true) × (list_all is_local_name (map (λ c. c.1) found) ≡ true)

case_more : (width : ℕ) (found : List (ℕ × Name)) (n : ℕ) (to : Name) → AreCases width found → number_formed (Int width) n ≡ true → is_local_name to ≡ true → AreCases width (found ++ (n, to) ∷ [])
case_more width found n to h p q =
    (all_pushed (λ c. number_formed (Int width) c.0) found (n, to) h.0 p, mapped_more is_local_name (λ c. c.1) found (n, to) h.1 q)

case_yields : (form : Form) (width : ℕ) (found : List (ℕ × Name)) → is_width width ≡ true → AreCases width found → Yields (case_rest form width found) (AreCases width)
unfolding case_rest
case_yields form width found w h =
    chained (number_read width w) (λ n p. after (λ comma. chained (target_read form) (λ to q. given (case_more width found n to h p q))))

switch_is : (width : ℕ) (v : Operand) (other : Name) (cases : List (ℕ × Name)) → is_width width ≡ true → operand_formed (Int width) v ≡ true → is_local_name other ≡ true → AreCases width cases
    → Ends (op.Switch (Int width) v other cases)
switch_is width v other cases w p q h =
    let shape = and_from (is_width width) (list_all (λ c. number_formed (Int width) c.0) cases) w h.0 in
    (op_is (op.Switch (Int width) v other cases) shape (one_operand (Int width) v p) (and_from (is_local_name other) (list_all is_local_name (map (λ c. c.1) cases)) q h.1), refl, refl)

switch_yields : (form : Form) → Yields (switch_rule form) Ends
unfolding switch_rule
switch_yields form =
    chained int_type_read (λ width w. chained (value_read form (Int width) w) (λ v p. after (λ comma. chained (target_read form) (λ other q. after (λ bracket.
    chained {P = AreCases width} (looped (refl, refl) (λ found t sound h e. case_yields form width found w h)) (λ cases h. after (λ end. given (switch_is width v other cases w p q h))))))))

pub switch_read : (form : Form) (ts : List Lexeme) (v : Op) (rest : List Lexeme) → AllSound ts → ReadsUpTo (switch_rule form) ts v rest → Ends v
switch_read form = (switch_yields form).each

-- ---- returns

ret_value_yields : (form : Form) (t : Option Ty) → result_formed t ≡ true → Yields (ret_value form t) Ends
ret_value_yields form None w = given (refl, refl, refl)
ret_value_yields form (Some t) w = chained (value_read form t (value_is_type t w)) (λ v p. given (op_is (op.Ret (Some (t, v))) w (one_operand t v p) refl, refl, refl))

ret_yields : (form : Form) → Yields (ret_rule form) Ends
unfolding ret_rule
ret_yields form = chained result_type_read (λ t w. ret_value_yields form t w)

pub ret_read : (form : Form) (ts : List Lexeme) (v : Op) (rest : List Lexeme) → AllSound ts → ReadsUpTo (ret_rule form) ts v rest → Ends v
ret_read form = (ret_yields form).each
