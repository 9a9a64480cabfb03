-- The rests of operations, after the parts that were read.
use Rattle.std.specs.Prelude.{ℕ, List, [], ◌∷◌, ◌++◌, Option}
use Rattle.ms_bits.specs.declared.operations.CastOp.{CastOp}
use Rattle.ms_bits.specs.declared.operations.Flags.{Flags}
use Rattle.ms_lex.specs.Grammar.{give, loop, ◌>>=◌, ◌>>◌}
use Rattle.ms_ir.specs.declared.syntax.Name.{Name}
use Rattle.ms_ir.specs.declared.syntax.Ty.{Ty}
use Rattle.ms_ir.specs.declared.syntax.Ty.TheVariants as ty
use Rattle.ms_ir.specs.declared.syntax.Operand.{Operand}
use Rattle.ms_ir.specs.declared.syntax.Op.{Op}
use Rattle.ms_ir.specs.declared.syntax.Op.TheVariants as op
use Rattle.ms_ir.specs.declared.forms.Form.{Form}
use Rattle.ms_text_grammar.specs.declared.symbols.Symbol.TheVariants as s
use Rattle.ms_text_grammar.specs.declared.states.PhiEdges.{PhiEdges}
use Rattle.ms_text_grammar.specs.declared.states.Indices.{Indices}
use Rattle.ms_text_grammar.specs.Steps.{Rule, word}
use Rattle.ms_text_grammar.specs.Names.{local}
use Rattle.ms_text_grammar.specs.Types.{value_type}
use Rattle.ms_text_grammar.specs.Values.{value}
use Rattle.ms_text_grammar.specs.Skipped.{attributes, suffixes_from}
use Rattle.ms_text_grammar.specs.Insts.{Marked, same_type, no_indices, index_turn, index_begins, count_begins, alloca_of, callee_type, callee, arguments, names_printf, call_end, edge_begins, edge_turn, target, case_begins, case_rest}
use Rattle.ms_read_insts.specs.declared.computations.OnTwo.{OnTwo}
use Rattle.ms_read_insts.specs.declared.computations.OnTwo.TheVariants.{Binary, Compare}

-- an operation on two operands of a type
abbrev pub on_two : OnTwo → Ty → Operand → Operand → Op
on_two (Binary o flags) t a b = op.Binary o flags t a b
on_two (Compare p flags) t a b = op.Icmp p flags t a b

-- value ',' value
abbrev pub two_operands : Form → OnTwo → Ty → Rule Op
two_operands form operation t = do
  a ← value form t
  word s.Comma
  b ← value form t
  give (on_two operation t a b)

-- ',' value
abbrev pub second_operand : Form → OnTwo → Ty → Operand → Rule Op
second_operand form operation t a = do
  word s.Comma
  b ← value form t
  give (on_two operation t a b)

-- 'to' value-type
abbrev pub cast_end : CastOp → Flags → Ty → Operand → Rule Op
cast_end o flags from a = do
  word s.To
  to ← value_type
  give (op.Cast o flags from a to)

-- value 'to' value-type
abbrev pub cast_rest : Form → CastOp → Flags → Ty → Rule Op
cast_rest form o flags from = do
  a ← value form from
  word s.To
  to ← value_type
  give (op.Cast o flags from a to)

-- value-type value ',' the same type value
abbrev pub select_rest : Form → Operand → Rule Op
select_rest form condition = do
  t ← value_type
  a ← value form t
  word s.Comma
  same_type t
  b ← value form t
  give (op.Select condition t a b)

-- ',' the same type value
abbrev pub select_end : Form → Operand → Ty → Operand → Rule Op
select_end form condition t a = do
  word s.Comma
  same_type t
  b ← value form t
  give (op.Select condition t a b)

-- the last value
abbrev pub select_last : Form → Operand → Ty → Operand → Rule Op
select_last form condition t a = do
  b ← value form t
  give (op.Select condition t a b)

-- suffixes
abbrev pub step_end : Form → Ty → Operand → Indices → Rule Marked
step_end form t base indices = do
  marked ← suffixes_from form indices.ended
  give (op.Gep t base indices.found, marked)

-- a count where one comes, and suffixes
abbrev pub alloca_rest : Form → Ty → Rule Marked
alloca_rest form t = do
  count ← loop count_begins (λ indices comma. index_turn form indices.found) no_indices
  marked ← suffixes_from form count.ended
  give (alloca_of t count.found, marked)

-- suffixes
abbrev pub alloca_end : Form → Ty → Indices → Rule Marked
alloca_end form t count = do
  marked ← suffixes_from form count.ended
  give (alloca_of t count.found, marked)

-- (',' iN value) as many as come, and suffixes
abbrev pub step_rest : Form → Ty → Operand → Rule Marked
step_rest form t base = do
  indices ← loop index_begins (λ indices comma. index_turn form indices.found) no_indices
  marked ← suffixes_from form indices.ended
  give (op.Gep t base indices.found, marked)

-- local ']'
abbrev pub edge_end : Form → Operand → Rule (Operand × Name)
edge_end form v = do
  from ← local form
  word s.CloseBracket
  give (v, from)

-- more edges after commas, and suffixes
abbrev pub phi_rest : Form → Ty → PhiEdges → Rule Marked
phi_rest form t first = do
  edges ← loop edge_begins (λ edges comma. edge_turn form t edges.found) first
  marked ← suffixes_from form edges.ended
  give (op.Phi t edges.found, marked)

-- ',' 'label' local ',' 'label' local
abbrev pub branch_rest : Form → Operand → Rule Op
branch_rest form condition = do
  word s.Comma
  one_way ← target form
  word s.Comma
  other_way ← target form
  give (op.CondBr condition one_way other_way)

-- ',' 'label' local
abbrev pub branch_end : Form → Operand → Name → Rule Op
branch_end form condition one_way = do
  word s.Comma
  other_way ← target form
  give (op.CondBr condition one_way other_way)

-- 'label' local '[' cases ']'
abbrev pub switch_rest : Form → ℕ → Operand → Rule Op
switch_rest form width v = do
  other ← target form
  word s.OpenBracket
  cases ← loop (case_begins width) (λ found t. case_rest form width found) []
  word s.CloseBracket
  give (op.Switch (ty.Int width) v other cases)

-- cases ']'
abbrev pub switch_end : Form → ℕ → Operand → Name → Rule Op
switch_end form width v other = do
  cases ← loop (case_begins width) (λ found t. case_rest form width found) []
  word s.CloseBracket
  give (op.Switch (ty.Int width) v other cases)

-- ']'
abbrev pub switch_last : ℕ → Operand → Name → List (ℕ × Name) → Rule Op
switch_last width v other cases = do
  word s.CloseBracket
  give (op.Switch (ty.Int width) v other cases)

-- ',' 'label' local
abbrev pub case_end : Form → ℕ → List (ℕ × Name) → Rule (List (ℕ × Name))
case_end form n found = do
  word s.Comma
  to ← target form
  give (found ++ (n, to) ∷ [])

-- attributes value
abbrev pub argument_rest : Form → Ty → List (Ty × Operand) → Rule (List (Ty × Operand))
argument_rest form t found = do
  attributes form
  v ← value form t
  give (found ++ (t, v) ∷ [])

-- what stands after the arguments
abbrev pub call_marked : Form → Option Ty → Name → List (Ty × Operand) → Rule Marked
call_marked form result function args = do
  marked ← call_end form
  give (op.Call result function args, marked)

-- the callee's type where it is written, the callee, and the rest
abbrev pub call_callee : Form → Option Ty → Rule Marked
call_callee form result = do
  dotted ← callee_type result
  function ← callee form dotted
  word s.OpenParen
  args ← arguments form (names_printf function)
  marked ← call_end form
  give (op.Call result function args, marked)

-- arguments, and what stands after them
abbrev pub call_rest : Form → Option Ty → Name → Rule Marked
call_rest form result function = do
  args ← arguments form (names_printf function)
  marked ← call_end form
  give (op.Call result function args, marked)
