-- Each operand of an operation has a token of its own, but for one at most.
use Rattle.std.proofs.Common.{◌≡◌, ◌≤◌, ℕ, ◌+◌, Bool, true, false, List, [], ◌∷◌, length, Option, Some, None, refl, ap, arith}
use Rattle.std.proofs.lemmas.List.{length-map}
use Rattle.ms_bits.specs.declared.operations.BinOp.{BinOp}
use Rattle.ms_bits.specs.declared.operations.CastOp.{CastOp}
use Rattle.ms_lex.specs.Grammar.{give, loop, ◌>>=◌}
use Rattle.ms_ir.specs.Instructions.{operands}
use Rattle.ms_ir.specs.declared.syntax.Inst.{Inst}
use Rattle.ms_ir.specs.declared.syntax.Name.{Name}
use Rattle.ms_ir.specs.declared.syntax.Op.{Op}
use Rattle.ms_ir.specs.declared.syntax.Op.TheVariants as op
use Rattle.ms_ir.specs.declared.syntax.Operand.{Operand}
use Rattle.ms_ir.specs.declared.syntax.Ty.{Ty}
use Rattle.ms_ir.specs.declared.syntax.Ty.TheVariants as ty
use Rattle.ms_ir.specs.declared.forms.Form.{Form}
use Rattle.ms_text_grammar.specs.declared.states.PhiEdges.{PhiEdges}
use Rattle.ms_text_grammar.specs.declared.states.Indices.{Indices}
use Rattle.ms_text_grammar.specs.declared.symbols.Symbol.{Symbol}
use Rattle.ms_text_grammar.specs.declared.symbols.Symbol.TheVariants as s
use Rattle.ms_text_grammar.specs.Lexemes.{Lexeme, end_of_text, same_symbol}
use Rattle.ms_text_grammar.specs.Steps.{Rule, Verdict, refusal, word}
use Rattle.ms_text_grammar.specs.Types.{int_type, value_type, type_to, max_depth}
use Rattle.ms_text_grammar.specs.Values.{gep_words}
use Rattle.ms_text_grammar.specs.Skipped.{attributes, suffixes_from}
use Rattle.ms_text_grammar.specs.Insts.{Marked, with_suffixes, binary_rule, compare_rule, cast_rule, bit_type, select_rule, freeze_rule, address, load_rule, store_rule, no_indices, index_by, index_turn, index_begins, gep_rule, alloca_of, alloca_rule, call_type, callee_type, callee, names_printf, argument, arguments, call_word, call_end, call_rule, edge, edge_by, edge_turn, edge_begins, phi_rule, branch_on, branch_rule, switch_rule, ret_value, ret_rule}
use Rattle.ms_text_grammar.specs.Texts.{ReadsUpTo}
use Rattle.ms_text_grammar.proofs.Bounds.{length_more}
use Rattle.ms_text_laws.proofs.CountedTurns.{left, loop_counts, listed_counts, Owes, TakesOne, takes_one, settled, passed, paid, either_owes}

abbrev pub arity : Op → ℕ
arity o = length (operands o)

-- the operands of an instruction
abbrev pub count_operands : Inst → ℕ
count_operands inst = length (operands inst.op)

-- ---- the types of values take a token

int_taken : TakesOne int_type
unfolding int_type same_symbol
int_taken = takes_one (refusal end_of_text) refl

value_type_taken : TakesOne value_type
unfolding value_type
value_type_taken = takes_one (refusal end_of_text) refl

bit_taken : TakesOne bit_type
unfolding bit_type same_symbol
bit_taken = takes_one (refusal end_of_text) refl

-- ---- operations with few operands

abbrev pub Few : Rule Op → Type 0
Few rule = Owes arity 1 rule

pub binary_few : (form : Form) (o : BinOp) → Few (binary_rule form o)
unfolding binary_rule
binary_few form o = passed (λ flags. paid int_taken (λ width. passed (λ a. passed (λ comma. passed (λ b. settled (omega arith))))))

pub compare_few : (form : Form) → Few (compare_rule form)
unfolding compare_rule
compare_few form = passed (λ flags. passed (λ predicate. paid value_type_taken (λ t. passed (λ a. passed (λ comma. passed (λ b. settled (omega arith)))))))

pub cast_few : (form : Form) (o : CastOp) → Few (cast_rule form o)
unfolding cast_rule
cast_few form o = passed (λ flags. passed (λ t. passed (λ a. passed (λ word. passed (λ u. settled (omega arith))))))

pub select_few : (form : Form) → Few (select_rule form)
unfolding select_rule
select_few form =
    paid bit_taken (λ bit. passed (λ c. passed (λ comma. paid value_type_taken (λ t. passed (λ a. passed (λ again. passed (λ same. passed (λ b. settled (omega arith)))))))))

pub freeze_few : (form : Form) → Few (freeze_rule form)
unfolding freeze_rule
freeze_few form = passed (λ t. passed (λ a. settled (omega arith)))

pub load_few : (form : Form) → Few (load_rule form)
unfolding load_rule
load_few form = passed (λ t. passed (λ a. settled (omega arith)))

pub store_few : (form : Form) → Few (store_rule form)
unfolding store_rule
store_few form = paid value_type_taken (λ t. passed (λ v. passed (λ a. settled (omega arith))))

branch_on_few : (form : Form) → Few (branch_on form)
unfolding branch_on
branch_on_few form = passed (λ bit. passed (λ c. passed (λ comma. passed (λ to. passed (λ again. passed (λ other. settled (omega arith)))))))

pub branch_few : (form : Form) → Few (branch_rule form)
unfolding branch_rule
branch_few form = passed (λ plain. either_owes plain (passed (λ to. settled (omega arith))) (branch_on_few form))

pub switch_few : (form : Form) → Few (switch_rule form)
unfolding switch_rule
switch_few form = passed (λ width. passed (λ v. passed (λ comma. passed (λ other. passed (λ bracket. passed (λ cases. passed (λ end. settled (omega arith))))))))

ret_value_few : (form : Form) (type : Option Ty) → Few (ret_value form type)
ret_value_few form None = settled (omega arith)
ret_value_few form (Some type) = passed (λ v. settled (omega arith))

pub ret_few : (form : Form) → Few (ret_rule form)
unfolding ret_rule
ret_few form = passed (λ t. ret_value_few form t)

pub unreachable_few : Few (give op.Unreachable)
unreachable_few = settled (omega arith)

-- ---- operations with their suffixes

abbrev pub Counted : Rule Marked → Type 0
Counted rule = (ts : List Lexeme) (m : Marked) (rest : List Lexeme) → ReadsUpTo rule ts m rest → arity m.0 + length rest ≤ 1 + length ts

pub suffixed : (form : Form) (rule : Rule Op) → Few rule → Counted (with_suffixes form rule)
unfolding with_suffixes
suffixed form rule few ts m rest h =
    let small = few.each ts h.0 h.1 h.2 in
    let same : arity m.0 ≡ arity h.0 = ap (λ n. arity n.0) h.3.3.0 in
    let fewer = left (suffixes_from form false >>= λ marked. give (h.0, marked)) h.1 m rest h.3 in
    omega (arith, small, same, fewer)

-- ---- indices

module _ (form : Form) where
  index_more_by : (found : List (Ty × Operand)) (x : Symbol) (ts : List Lexeme) (v : Indices) (rest : List Lexeme) → ReadsUpTo (index_by form found x) ts v rest → length v.found ≤ length found + 1
  index_more_by found s.IntType ts v rest h =
      let same = ap (λ i. length i.found) h.3.3.0 in
      let more = length_more found (ty.Int h.0, h.3.0) in
      omega (arith, same, more)
  index_more_by found x ts v rest h = let same = ap (λ i. length i.found) h.0 in omega (arith, same)

  index_more : (found : List (Ty × Operand)) (ts : List Lexeme) (v : Indices) (rest : List Lexeme) → ReadsUpTo (index_turn form found) ts v rest → length v.found ≤ length found + 1
  unfolding index_turn
  index_more found ts v rest h = index_more_by found h.0 h.1 v rest h.3

  indices_count : (begins : Indices → Lexeme → Verdict Bool) (start : Indices) (ts : List Lexeme) (v : Indices) (rest : List Lexeme)
      → ReadsUpTo (loop begins (λ indices comma. index_turn form indices.found) start) ts v rest → length v.found + length rest ≤ length start.found + length ts
  indices_count begins = loop_counts begins (λ indices comma. index_turn form indices.found) (λ i. length i.found) (λ a t. index_more a.found)

  pub gep_counted : Counted (gep_rule form)
  unfolding gep_rule
  gep_counted ts m rest h =
      let typed = h.3 in
      let based = typed.3 in
      let stepped = based.3 in
      let words = left gep_words ts h.0 h.1 h.2 in
      let type = left (type_to form max_depth) h.1 typed.0 typed.1 typed.2 in
      let base = left (address form) typed.1 based.0 based.1 based.2 in
      let indices = indices_count index_begins no_indices based.1 stepped.0 stepped.1 stepped.2 in
      let suffixes = left (suffixes_from form stepped.0.ended >>= λ marked. give (op.Gep typed.0 based.0 stepped.0.found, marked)) stepped.1 m rest stepped.3 in
      let same : arity m.0 ≡ arity (op.Gep typed.0 based.0 stepped.0.found) = ap (λ n. arity n.0) stepped.3.3.0 in
      omega (arith, words, type, base, indices, suffixes, same)

  alloca_arity : (type : Ty) (found : List (Ty × Operand)) → arity (alloca_of type found) ≡ 1
  alloca_arity type [] = refl
  alloca_arity type (count ∷ rest) = refl

  pub alloca_counted : Counted (alloca_rule form)
  unfolding alloca_rule
  alloca_counted ts m rest h =
      let same : arity m.0 ≡ arity (alloca_of h.0 h.3.0.found) = ap (λ n. arity n.0) h.3.3.3.0 in
      let single = alloca_arity h.0 h.3.0.found in
      let fewer = left (alloca_rule form) ts m rest h in
      omega (arith, same, single, fewer)

  -- ---- arguments

  argument_more : (counted : Bool) (found : List (Ty × Operand)) (ts : List Lexeme) (v : List (Ty × Operand)) (rest : List Lexeme)
      → ReadsUpTo (argument form counted found) ts v rest → length v ≤ length found + 1
  unfolding argument
  argument_more counted found ts v rest h =
      let same = ap length h.3.3.3.0 in
      let more = length_more found (h.0, h.3.3.0) in
      omega (arith, same, more)

  arguments_count : (counted : Bool) (ts : List Lexeme) (v : List (Ty × Operand)) (rest : List Lexeme) → ReadsUpTo (arguments form counted) ts v rest → length v + length rest ≤ 1 + length ts
  unfolding arguments
  arguments_count counted ts v rest h =
      let all = listed_counts s.CloseParen (λ found. true) (argument form counted) length (argument_more counted) [] ts v rest h in
      omega (arith, all)

  pub call_counted : (named : Bool) (first : Symbol) → Counted (call_rule form named first)
  unfolding call_rule
  call_counted named first ts m rest h =
      let attributed = h.3 in
      let resulting = attributed.3 in
      let dotted = resulting.3 in
      let named_function = dotted.3 in
      let opened = named_function.3 in
      let given = opened.3 in
      let word_left = left (call_word first) ts h.0 h.1 h.2 in
      let attributes_left = left (attributes form) h.1 attributed.0 attributed.1 attributed.2 in
      let result_left = left (call_type named) attributed.1 resulting.0 resulting.1 resulting.2 in
      let type_left = left (callee_type resulting.0) resulting.1 dotted.0 dotted.1 dotted.2 in
      let name_left = left (callee form dotted.0) dotted.1 named_function.0 named_function.1 named_function.2 in
      let paren_left = left (word s.OpenParen) named_function.1 opened.0 opened.1 opened.2 in
      let count = arguments_count (names_printf named_function.0) opened.1 given.0 given.1 given.2 in
      let end_left = left (call_end form >>= λ marked. give (op.Call resulting.0 named_function.0 given.0, marked)) given.1 m rest given.3 in
      let same : arity m.0 ≡ length given.0 = ap (λ n. arity n.0) given.3.3.0 in
      omega (arith, word_left, attributes_left, result_left, type_left, name_left, paren_left, count, end_left, same)

  -- ---- edges

  edge_more_by : (type : Ty) (found : List (Operand × Name)) (x : Symbol) (ts : List Lexeme) (v : PhiEdges) (rest : List Lexeme) → ReadsUpTo (edge_by form type found x) ts v rest → length v.found ≤ length found + 1
  edge_more_by type found s.OpenBracket ts v rest h =
      let same = ap (λ e. length e.found) h.3.3.0 in
      let more = length_more found h.3.0 in
      omega (arith, same, more)
  edge_more_by type found x ts v rest h = let same = ap (λ e. length e.found) h.0 in omega (arith, same)

  edge_more : (type : Ty) (found : List (Operand × Name)) (ts : List Lexeme) (v : PhiEdges) (rest : List Lexeme) → ReadsUpTo (edge_turn form type found) ts v rest → length v.found ≤ length found + 1
  unfolding edge_turn
  edge_more type found ts v rest h = edge_more_by type found h.0 h.1 v rest h.3

  edges_count : (type : Ty) (start : PhiEdges) (ts : List Lexeme) (v : PhiEdges) (rest : List Lexeme)
      → ReadsUpTo (loop edge_begins (λ edges comma. edge_turn form type edges.found) start) ts v rest → length v.found + length rest ≤ length start.found + length ts
  edges_count type = loop_counts edge_begins (λ edges comma. edge_turn form type edges.found) (λ e. length e.found) (λ a t. edge_more type a.found)

  phi_arity : (type : Ty) (edges : List (Operand × Name)) → arity (op.Phi type edges) ≡ length edges
  phi_arity type edges = length-map edges (λ e. (type, e.0))

  pub phi_counted : Counted (phi_rule form)
  unfolding phi_rule
  phi_counted ts m rest h =
      let opened = h.3 in
      let begun = opened.3 in
      let joined = begun.3 in
      let type_left = left value_type ts h.0 h.1 h.2 in
      let bracket_left = left (word s.OpenBracket) h.1 opened.0 opened.1 opened.2 in
      let first_left = left (edge form h.0) opened.1 begun.0 begun.1 begun.2 in
      let count = edges_count h.0 (record { found = begun.0 ∷ []; ended = false }) begun.1 joined.0 joined.1 joined.2 in
      let suffixes = left (suffixes_from form joined.0.ended >>= λ marked. give (op.Phi h.0 joined.0.found, marked)) joined.1 m rest joined.3 in
      let same : arity m.0 ≡ arity (op.Phi h.0 joined.0.found) = ap (λ n. arity n.0) joined.3.3.0 in
      let all = phi_arity h.0 joined.0.found in
      omega (arith, type_left, bracket_left, first_left, count, suffixes, same, all)
