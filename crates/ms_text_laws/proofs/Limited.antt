-- The grammar with limits of one's own choice: as it stands for instrumented texts, but that each limit is a number that is given.
use Rattle.std.specs.Prelude.{ℕ, ◌^◌, ◌-◌, if◌then◌else◌, Bool, not, ◌&&◌, ◌||◌, nat_lt, codes, length, Ok, Err, zero, suc, true, false, cond, Option, Some, None, List, [], ◌∷◌, ◌++◌, ◌+◌, map}
use Rattle.std.specs.Str.{bytes_eq}
use Rattle.ms_lex.specs.Tokens.{Text}
use Rattle.ms_lex.specs.Numbers.{decimal}
use Rattle.ms_lex.specs.Grammar.{one, give, ◌>>=◌, ◌>>◌, loop, look}
use Rattle.ms_ir.specs.declared.syntax.Name.{Name}
use Rattle.ms_ir.specs.declared.forms.Form.TheVariants.{Instrumented}
use Rattle.ms_text_grammar.specs.declared.symbols.Symbol.{Symbol}
use Rattle.ms_text_grammar.specs.Lexemes.{Lexeme, name_in}
use Rattle.ms_text_grammar.specs.Steps.{Rule, Verdict, refusal, next_symbol, refuse, stop, skip, word, within, judge_map, comma_begins, sees, listed, binary_op, cast_op}
use Rattle.ms_ir.specs.declared.syntax.Ty.{Ty}
use Rattle.ms_text_grammar.specs.Names.{reserved_local, reserved_global, number_name}
use Rattle.ms_ir.specs.declared.syntax.Operand.{Operand}
use Rattle.ms_ir.specs.declared.syntax.Init.{Init}
use Rattle.ms_text_grammar.specs.Types.{int_width, int_type_of, opens, int_type, value_type_of, value_type, result_type, count, array_rest, struct_rest, packed_rest}
use Rattle.ms_bits.specs.declared.operations.BinOp.{BinOp}
use Rattle.ms_bits.specs.declared.operations.CastOp.{CastOp}
use Rattle.ms_ir.specs.declared.syntax.Op.{Op}
use Rattle.ms_text_grammar.specs.declared.states.PhiEdges.{PhiEdges}
use Rattle.ms_text_grammar.specs.declared.states.Indices.{Indices}
use Rattle.ms_text_grammar.specs.Values.{Address, number, gep_words, int_value, truth_value, null_value, no_value, bytes_init, typed, nested_init}
use Rattle.ms_text_grammar.specs.Skipped.{attributes, suffixes_from, attachments}
use Rattle.ms_text_grammar.specs.declared.states.BodySoFar.{BodySoFar}
use Rattle.ms_text_grammar.specs.Insts.{Marked, names_printf, binary_carries, cast_carries, compare_carries, flags_of, predicate_word, bit_type, same_type, no_indices, index_begins, count_begins, alloca_of, call_type, callee_type, is_printf, call_end, call_word, edge_begins, case_begins}
use Rattle.ms_ir.specs.declared.syntax.Block.{Block}
use Rattle.ms_text_grammar.specs.Bodies.{is_open, opened, opened_as, begins_instruction, with_value, with_call, numbered, unreserved}
use Rattle.ms_ir.specs.declared.syntax.Func.{Func}
use Rattle.ms_ir.specs.declared.syntax.Decl.{Decl}
use Rattle.ms_text_grammar.specs.declared.states.Parameters.{Parameters}
use Rattle.ms_text_grammar.specs.Lines.{value_line, marked_line, effect_line, end_line, value_word_of, record_line, is_whole}
use Rattle.ms_ir.specs.declared.syntax.GlobalVar.{GlobalVar}
use Rattle.ms_ir.specs.declared.syntax.Module.{Module}
use Rattle.ms_text_grammar.specs.declared.states.ModuleSoFar.{ModuleSoFar}
use Rattle.ms_text_grammar.specs.Functions.{no_parameters, numbered_name, with_parameter, dots_come, linkage, function_tail, body_after}
use Rattle.ms_text_grammar.specs.Modules.{source_filename, target_entity, attribute_group, metadata_entity, linkage_word_begins, global_kind_of, global_suffix, with_type, with_global, with_declaration, with_function, no_parts, end_of}
use Rattle.ms_ir.specs.declared.syntax.Name.TheVariants as name
use Rattle.ms_text_grammar.specs.declared.symbols.Symbol.TheVariants as s
use Rattle.ms_text_grammar.specs.declared.refusals.Cause.TheVariants as r
use Rattle.ms_text_grammar.specs.declared.refusals.Limit.TheVariants as limit
use Rattle.ms_ir.specs.declared.syntax.Ty.TheVariants as ty
use Rattle.ms_text_grammar.specs.declared.refusals.Outside.TheVariants as outside
use Rattle.ms_ir.specs.declared.syntax.Operand.TheVariants as operand
use Rattle.ms_ir.specs.declared.syntax.Init.TheVariants as init
use Rattle.ms_ir.specs.declared.syntax.Op.TheVariants as op

-- the limits
pub record Limits : Type 0 where
  -- names are shorter
  pub names : ℕ
  -- so many arrays and structs may be open within another
  pub depth : ℕ
  pub indices : ℕ
  pub parameters : ℕ
  pub instructions : ℕ
  pub functions : ℕ
  pub globals : ℕ
  -- numbers are less
  pub numbers : ℕ

-- those of an instrumented text
abbrev pub standard : Limits
standard = record { names = 1025; depth = 31; indices = 64; parameters = 100; instructions = 2 ^ 22; functions = 16384; globals = 16384; numbers = 2 ^ 32 - 2 }

-- ---- names

abbrev pub text_name : Limits → Bool → Text → Verdict Name
text_name limits reserved text = if reserved then Err r.Reserved else if nat_lt (length text) limits.names then Ok (name.Text text) else Err (r.Limit limit.Name)

abbrev pub global_name : Limits → Text → Verdict Name
global_name limits text = text_name limits (reserved_global Instrumented text) text

abbrev pub local_name : Limits → Text → Verdict Name
local_name limits text = text_name limits (reserved_local Instrumented text) text

abbrev pub local_by : Limits → Symbol → Lexeme → Verdict Name
local_by limits s.Local t = local_name limits (name_in t)
local_by limits s.NumberedLocal t = number_name (decimal (name_in t))
local_by limits symbol t = Err (refusal t)

unfoldable pub local : Limits → Rule Name
local limits = one (λ t. local_by limits t.symbol t)

abbrev pub global_by : Limits → Symbol → Lexeme → Verdict Name
global_by limits s.Global t = global_name limits (name_in t)
global_by limits symbol t = Err (refusal t)

unfoldable pub global : Limits → Rule Name
global limits = one (λ t. global_by limits t.symbol t)

-- ---- types

abbrev pub flat : Limits → Symbol → Rule Ty
flat limits s.PtrType = value_type
flat limits s.IntType = value_type
flat limits s.Local = local limits >>= λ n. give (ty.Named n)
flat limits s.NumberedLocal = local limits >>= λ n. give (ty.Named n)
flat limits symbol = refuse

abbrev pub nested : Limits → Rule Ty → Symbol → Rule Ty
nested limits part s.OpenBracket = skip >> array_rest part
nested limits part s.OpenBrace = skip >> struct_rest part
nested limits part s.Less = skip >> packed_rest part
nested limits part symbol = flat limits symbol

abbrev pub too_deep : Limits → Symbol → Rule Ty
too_deep limits symbol = cond (opens symbol) (stop (r.Limit limit.Types)) (flat limits symbol)

unfoldable pub type_to : Limits → ℕ → Rule Ty
type_to limits zero = next_symbol >>= too_deep limits
type_to limits (suc depth) = next_symbol >>= nested limits (type_to limits depth)

abbrev pub struct_by : Limits → Symbol → Rule Ty
struct_by limits s.OpenBrace = skip >> struct_rest (type_to limits limits.depth)
struct_by limits s.Less = skip >> packed_rest (type_to limits limits.depth)
struct_by limits symbol = refuse

unfoldable pub struct_type : Limits → Rule Ty
struct_type limits = next_symbol >>= struct_by limits

-- ---- values

abbrev pub index_type_of : Limits → ℕ → Lexeme → Verdict ℕ
index_type_of limits before t = within (nat_lt before limits.indices) limit.Indices (int_type_of t)

unfoldable pub constant_index : Limits → List (Ty × ℕ) → Rule (List (Ty × ℕ))
constant_index limits found = do
  width ← one (index_type_of limits (length found))
  n ← number width
  give (found ++ (ty.Int width, n) ∷ [])

unfoldable pub constant_indices : Limits → Rule (List (Ty × ℕ))
constant_indices limits = loop (comma_begins (λ found. true)) (λ found comma. constant_index limits found) []

unfoldable pub gep_from : Limits → ℕ → Rule Address → Rule Address
gep_from limits depth base = do
  gep_words
  word s.OpenParen
  t ← type_to limits depth
  word s.Comma
  word s.PtrType
  from ← base
  indices ← constant_indices limits
  word s.CloseParen
  give (from.0, (t, indices) ∷ from.1)

abbrev pub base_by : Limits → Rule Address → Symbol → Rule Address
base_by limits inner s.GetElementPtr = inner
base_by limits inner symbol = global limits >>= λ x. give (x, [])

unfoldable pub base_to : Limits → ℕ → ℕ → Rule Address
base_to limits depth zero = next_symbol >>= base_by limits (stop (r.Limit limit.Indices))
base_to limits depth (suc within) = next_symbol >>= base_by limits (skip >> gep_from limits depth (base_to limits depth within))

unfoldable pub offset : Limits → ℕ → Rule Operand
offset limits depth = gep_from limits depth (base_to limits depth (limits.indices - 1)) >>= λ a. give (operand.Offset a.0 a.1)

abbrev pub local_value : Limits → Bool → Lexeme → Verdict Operand
local_value limits true t = judge_map operand.Local (local_by limits t.symbol t)
local_value limits false t = Err (refusal t)

abbrev pub simple_by : Limits → Bool → Ty → Symbol → Lexeme → Verdict Operand
simple_by limits locals type s.Number t = int_value (int_width type) t
simple_by limits locals type s.True t = truth_value type 1 t
simple_by limits locals type s.False t = truth_value type 0 t
simple_by limits locals type s.Null t = null_value type t
simple_by limits locals type s.Undef t = Ok operand.Undef
simple_by limits locals type s.Poison t = Ok operand.Poison
simple_by limits locals type s.Local t = local_value limits locals t
simple_by limits locals type s.NumberedLocal t = local_value limits locals t
simple_by limits locals type s.Global t = judge_map operand.Global (global_by limits t.symbol t)
simple_by limits locals type symbol t = Err (no_value symbol t)

abbrev pub simple_of : Limits → Bool → Ty → Lexeme → Verdict Operand
simple_of limits locals type t = simple_by limits locals type t.symbol t

unfoldable pub simple_value : Limits → Bool → Ty → Rule Operand
simple_value limits locals type = one (simple_of limits locals type)

abbrev pub value_by : Limits → ℕ → Bool → Ty → Symbol → Rule Operand
value_by limits depth locals type s.GetElementPtr = skip >> offset limits depth
value_by limits depth locals type symbol = simple_value limits locals type

unfoldable pub value_within : Limits → ℕ → Bool → Ty → Rule Operand
value_within limits depth locals type = next_symbol >>= value_by limits depth locals type

abbrev pub value : Limits → Ty → Rule Operand
value limits = value_within limits (suc limits.depth) true

abbrev pub flat_init : Limits → ℕ → Ty → Symbol → Rule Init
flat_init limits depth type s.ZeroInitializer = skip >> give init.Zero
flat_init limits depth type s.CText = one bytes_init
flat_init limits depth type symbol = value_within limits depth false type >>= λ v. give (init.Value v)

abbrev pub deep_init : Limits → Ty → Symbol → Rule Init
deep_init limits type symbol = cond (opens symbol) (stop (r.Limit limit.Types)) (flat_init limits 0 type symbol)

unfoldable pub init_to : Limits → ℕ → Ty → Rule Init
init_to limits zero type = next_symbol >>= deep_init limits type
init_to limits (suc depth) type =
    next_symbol >>= λ symbol. nested_init (typed (type_to limits depth) (init_to limits depth)) (flat_init limits (suc depth) type symbol) symbol

-- ---- insts

unfoldable pub binary_rule : Limits → BinOp → Rule Op
binary_rule limits o = do
  flags ← flags_of (binary_carries o)
  width ← int_type
  a ← value limits (ty.Int width)
  word s.Comma
  b ← value limits (ty.Int width)
  give (op.Binary o flags (ty.Int width) a b)

unfoldable pub compare_rule : Limits → Rule Op
compare_rule limits = do
  flags ← flags_of compare_carries
  p ← predicate_word
  t ← value_type
  a ← value limits t
  word s.Comma
  b ← value limits t
  give (op.Icmp p flags t a b)

unfoldable pub cast_rule : Limits → CastOp → Rule Op
cast_rule limits o = do
  flags ← flags_of (cast_carries o)
  from ← value_type
  a ← value limits from
  word s.To
  to ← value_type
  give (op.Cast o flags from a to)

unfoldable pub select_rule : Limits → Rule Op
select_rule limits = do
  bit_type
  condition ← value limits (ty.Int 1)
  word s.Comma
  t ← value_type
  a ← value limits t
  word s.Comma
  same_type t
  b ← value limits t
  give (op.Select condition t a b)

unfoldable pub freeze_rule : Limits → Rule Op
freeze_rule limits = do
  t ← value_type
  a ← value limits t
  give (op.Freeze t a)

unfoldable pub address : Limits → Rule Operand
address limits = word s.Comma >> (word s.PtrType >> value limits ty.Ptr)

unfoldable pub load_rule : Limits → Rule Op
load_rule limits = do
  t ← value_type
  a ← address limits
  give (op.Load t a)

unfoldable pub store_rule : Limits → Rule Op
store_rule limits = do
  t ← value_type
  v ← value limits t
  a ← address limits
  give (op.Store t v a)

abbrev pub index_by : Limits → List (Ty × Operand) → Symbol → Rule Indices
index_by limits found s.IntType = do
  width ← one (index_type_of limits (length found))
  v ← value limits (ty.Int width)
  give (record { found = found ++ (ty.Int width, v) ∷ []; ended = false })
index_by limits found symbol = give (record { found = found; ended = true })

unfoldable pub index_turn : Limits → List (Ty × Operand) → Rule Indices
index_turn limits found = next_symbol >>= index_by limits found

unfoldable pub gep_rule : Limits → Rule Marked
gep_rule limits = do
  gep_words
  t ← type_to limits (suc limits.depth)
  base ← address limits
  indices ← loop index_begins (λ indices comma. index_turn limits indices.found) no_indices
  marked ← suffixes_from Instrumented indices.ended
  give (op.Gep t base indices.found, marked)

unfoldable pub alloca_rule : Limits → Rule Marked
alloca_rule limits = do
  t ← type_to limits (suc limits.depth)
  count ← loop count_begins (λ indices comma. index_turn limits indices.found) no_indices
  marked ← suffixes_from Instrumented count.ended
  give (alloca_of t count.found, marked)

abbrev pub callee_name : Limits → Bool → Text → Verdict Name
callee_name limits dotted text =
    if bytes_eq text (codes "main") then Err (r.Outside outside.CallOfMain)
    else if dotted && not (is_printf text) then Err (r.Outside outside.FunctionType)
    else global_name limits text

abbrev pub callee_by : Limits → Bool → Symbol → Lexeme → Verdict Name
callee_by limits dotted s.Global t = callee_name limits dotted (name_in t)
callee_by limits dotted s.Local t = Err (r.Outside outside.IndirectCall)
callee_by limits dotted s.NumberedLocal t = Err (r.Outside outside.IndirectCall)
callee_by limits dotted symbol t = Err (refusal t)

unfoldable pub callee : Limits → Bool → Rule Name
callee limits dotted = one (λ t. callee_by limits dotted t.symbol t)

abbrev pub argument_type_of : Limits → Bool → ℕ → Lexeme → Verdict Ty
argument_type_of limits counted before t = within (not counted || nat_lt before limits.parameters) limit.Parameters (value_type_of t)

unfoldable pub argument : Limits → Bool → List (Ty × Operand) → Rule (List (Ty × Operand))
argument limits counted found = do
  t ← one (argument_type_of limits counted (length found))
  attributes Instrumented
  v ← value limits t
  give (found ++ (t, v) ∷ [])

unfoldable pub arguments : Limits → Bool → Rule (List (Ty × Operand))
arguments limits counted = listed s.CloseParen (λ found. true) (argument limits counted) []

unfoldable pub call_rule : Limits → Bool → Symbol → Rule Marked
call_rule limits named first = do
  call_word first
  attributes Instrumented
  result ← call_type named
  dotted ← callee_type result
  function ← callee limits dotted
  word s.OpenParen
  args ← arguments limits (names_printf function)
  marked ← call_end Instrumented
  give (op.Call result function args, marked)

unfoldable pub edge : Limits → Ty → Rule (Operand × Name)
edge limits type = do
  v ← value limits type
  word s.Comma
  from ← local limits
  word s.CloseBracket
  give (v, from)

abbrev pub edge_by : Limits → Ty → List (Operand × Name) → Symbol → Rule PhiEdges
edge_by limits type found s.OpenBracket = do
  skip
  e ← edge limits type
  give (record { found = found ++ e ∷ []; ended = false })
edge_by limits type found symbol = give (record { found = found; ended = true })

unfoldable pub edge_turn : Limits → Ty → List (Operand × Name) → Rule PhiEdges
edge_turn limits type found = next_symbol >>= edge_by limits type found

unfoldable pub phi_rule : Limits → Rule Marked
phi_rule limits = do
  t ← value_type
  word s.OpenBracket
  first ← edge limits t
  edges ← loop edge_begins (λ edges comma. edge_turn limits t edges.found) (record { found = first ∷ []; ended = false })
  marked ← suffixes_from Instrumented edges.ended
  give (op.Phi t edges.found, marked)

unfoldable pub target : Limits → Rule Name
target limits = word s.LabelWord >> local limits

unfoldable pub branch_on : Limits → Rule Op
branch_on limits = do
  bit_type
  condition ← value limits (ty.Int 1)
  word s.Comma
  one_way ← target limits
  word s.Comma
  other_way ← target limits
  give (op.CondBr condition one_way other_way)

unfoldable pub branch_rule : Limits → Rule Op
branch_rule limits = do
  plain ← sees s.LabelWord
  cond plain (target limits >>= λ to. give (op.Br to)) (branch_on limits)

unfoldable pub case_rest : Limits → ℕ → List (ℕ × Name) → Rule (List (ℕ × Name))
case_rest limits width found = do
  n ← number width
  word s.Comma
  to ← target limits
  give (found ++ (n, to) ∷ [])

unfoldable pub switch_rule : Limits → Rule Op
switch_rule limits = do
  width ← int_type
  v ← value limits (ty.Int width)
  word s.Comma
  other ← target limits
  word s.OpenBracket
  cases ← loop (case_begins width) (λ found t. case_rest limits width found) []
  word s.CloseBracket
  give (op.Switch (ty.Int width) v other cases)

abbrev pub ret_value : Limits → Option Ty → Rule Op
ret_value limits None = give (op.Ret None)
ret_value limits (Some type) = value limits type >>= λ v. give (op.Ret (Some (type, v)))

unfoldable pub ret_rule : Limits → Rule Op
ret_rule limits = result_type >>= ret_value limits

-- ---- bodies

abbrev pub counted : Limits → BodySoFar → Verdict Bool → Verdict Bool
counted limits body verdict = if nat_lt body.count limits.instructions then verdict else Err (r.Limit limit.Instructions)

abbrev pub short : Limits → Text → Verdict Bool
short limits text = if nat_lt (length text) limits.names then Ok true else Err (r.Limit limit.Name)

abbrev pub word_begins : Limits → BodySoFar → Symbol → Verdict Bool
word_begins limits body symbol = if begins_instruction symbol then counted limits body (Ok true) else Ok false

abbrev pub line_begins_by : Limits → BodySoFar → Symbol → Lexeme → Verdict Bool
line_begins_by limits body s.Label t = if is_open body.name then Ok false else unreserved Instrumented (name_in t) (short limits (name_in t))
line_begins_by limits body s.NumberedLabel t = if is_open body.name then Ok false else numbered body.next (name_in t) (Ok true)
line_begins_by limits body s.DebugGroup t = Ok true
line_begins_by limits body s.Local t = unreserved Instrumented (name_in t) (counted limits body (short limits (name_in t)))
line_begins_by limits body s.NumberedLocal t = numbered (opened body).next (name_in t) (counted limits body (Ok true))
line_begins_by limits body s.Phi t = if (opened body).phis then counted limits body (Ok true) else Ok false
line_begins_by limits body symbol t = word_begins limits body symbol

abbrev pub numbers_left : Limits → ℕ → Bool
numbers_left limits next = nat_lt next limits.numbers

unfoldable pub line_begins : Limits → BodySoFar → Lexeme → Verdict Bool
line_begins limits body t = if numbers_left limits body.next then line_begins_by limits body t.symbol t else Err r.Numbering

-- ---- lines

unfoldable pub phi_line : Limits → BodySoFar → Option Name → Rule BodySoFar
phi_line limits body result = phi_rule limits >>= λ m. give (with_value body result true m)

unfoldable pub call_line : Limits → BodySoFar → Option Name → Symbol → Rule BodySoFar
call_line limits body result first = call_rule limits (is_open result) first >>= λ m. give (with_call body result m)

abbrev pub instruction_by : Limits → BodySoFar → Option Name → Symbol → Rule BodySoFar
instruction_by limits body result s.Phi = phi_line limits body result
instruction_by limits body result s.Icmp = value_line Instrumented body result (compare_rule limits)
instruction_by limits body result s.Select = value_line Instrumented body result (select_rule limits)
instruction_by limits body result s.Freeze = value_line Instrumented body result (freeze_rule limits)
instruction_by limits body result s.Alloca = marked_line body result (alloca_rule limits)
instruction_by limits body result s.Load = value_line Instrumented body result (load_rule limits)
instruction_by limits body result s.Store = effect_line Instrumented body (store_rule limits)
instruction_by limits body result s.GetElementPtr = marked_line body result (gep_rule limits)
instruction_by limits body result s.Tail = call_line limits body result s.Tail
instruction_by limits body result s.MustTail = call_line limits body result s.MustTail
instruction_by limits body result s.NoTail = call_line limits body result s.NoTail
instruction_by limits body result s.Call = call_line limits body result s.Call
instruction_by limits body result s.Br = end_line Instrumented body (branch_rule limits)
instruction_by limits body result s.Switch = end_line Instrumented body (switch_rule limits)
instruction_by limits body result s.Ret = end_line Instrumented body (ret_rule limits)
instruction_by limits body result s.Unreachable = end_line Instrumented body (give op.Unreachable)
instruction_by limits body result symbol = refuse

abbrev pub operation_by : Limits → BodySoFar → Option Name → Symbol → Option BinOp → Option CastOp → Rule BodySoFar
operation_by limits body result symbol (Some o) c = value_line Instrumented body result (binary_rule limits o)
operation_by limits body result symbol None (Some o) = value_line Instrumented body result (cast_rule limits o)
operation_by limits body result symbol None None = instruction_by limits body result symbol

unfoldable pub instruction : Limits → BodySoFar → Option Name → Symbol → Rule BodySoFar
instruction limits body result symbol = operation_by limits body result symbol (binary_op symbol) (cast_op symbol)

unfoldable pub named_line : Limits → BodySoFar → Name → Rule BodySoFar
named_line limits body result = do
  word s.Equals
  symbol ← one (value_word_of body.phis)
  instruction limits body (Some result) symbol

abbrev pub line_by : Limits → BodySoFar → Symbol → Lexeme → Rule BodySoFar
line_by limits body s.Label t = give (opened_as body (name.Text (name_in t)) 0)
line_by limits body s.NumberedLabel t = give (opened_as body (name.Number body.next) 1)
line_by limits body s.DebugGroup t = record_line Instrumented (opened body)
line_by limits body s.Local t = named_line limits (opened body) (name.Text (name_in t))
line_by limits body s.NumberedLocal t = named_line limits (opened body) (name.Number (opened body).next)
line_by limits body symbol t = instruction limits (opened body) None symbol

unfoldable pub line : Limits → BodySoFar → Lexeme → Rule BodySoFar
line limits body t = line_by limits body t.symbol t

unfoldable pub blocks : Limits → BodySoFar → Rule (List Block)
blocks limits start = do
  body ← loop (line_begins limits) (line limits) start
  cond (is_whole body) (word s.CloseBrace >> give body.blocks) refuse

-- ---- functions

abbrev pub has_room : Limits → Parameters → Bool
has_room limits ps = nat_lt (length ps.found) limits.parameters && nat_lt ps.next limits.parameters

abbrev pub parameter_type_of : Limits → Parameters → Lexeme → Verdict Ty
parameter_type_of limits ps t = within (has_room limits ps) limit.Parameters (value_type_of t)

abbrev pub parameter_name_by : Limits → ℕ → Symbol → Rule Name
parameter_name_by limits number s.Local = one (λ t. local_name limits (name_in t))
parameter_name_by limits number s.NumberedLocal = one (numbered_name number)
parameter_name_by limits number symbol = give (name.Number number)

unfoldable pub parameter_name : Limits → ℕ → Rule Name
parameter_name limits number = next_symbol >>= parameter_name_by limits number

unfoldable pub typed_parameter : Limits → Parameters → Rule Parameters
typed_parameter limits ps = do
  t ← one (parameter_type_of limits ps)
  attributes Instrumented
  n ← parameter_name limits ps.next
  give (with_parameter ps t n)

unfoldable pub parameter : Limits → Bool → Parameters → Rule Parameters
parameter limits dotted ps = do
  dots ← look (dots_come dotted ps)
  cond dots (skip >> give (record ps { dots = true })) (typed_parameter limits ps)

unfoldable pub parameters : Limits → Bool → Rule Parameters
parameters limits dotted = listed s.CloseParen (λ ps. not ps.dots) (parameter limits dotted) no_parameters

unfoldable pub declaration : Limits → Rule Decl
declaration limits = do
  attachments Instrumented
  linkage Instrumented
  result ← result_type
  function ← global limits
  word s.OpenParen
  ps ← parameters limits (names_printf function)
  attributes Instrumented
  give (record { name = function; ret = result; params = map (λ p. p.0) ps.found })

unfoldable pub function : Limits → ℕ → Rule Func
function limits before = do
  linkage Instrumented
  result ← result_type
  n ← global limits
  word s.OpenParen
  ps ← parameters limits false
  function_tail Instrumented
  word s.OpenBrace
  all ← blocks limits (body_after ps before)
  give (record { name = n; ret = result; params = ps.found; blocks = all })

-- ---- modules

unfoldable pub named_type : Limits → Name → Rule (Name × Ty)
named_type limits n = do
  word s.Equals
  word s.TypeWord
  t ← struct_type limits
  give (n, t)

unfoldable pub global_variable : Limits → Name → Rule GlobalVar
global_variable limits n = do
  word s.Equals
  loop linkage_word_begins (λ u t. give tt) tt
  constant ← one global_kind_of
  t ← type_to limits (suc limits.depth)
  i ← init_to limits (suc limits.depth) t
  loop (comma_begins (λ u. true)) (λ u comma. global_suffix Instrumented) tt
  give (record { name = n; constant = constant; ty = t; init = i })

abbrev pub room_for_function : Limits → Module → Verdict Bool
room_for_function limits m = if nat_lt (length m.funcs + length m.decls) limits.functions then Ok true else Err (r.Limit limit.Functions)

abbrev pub global_begins : Limits → Module → Lexeme → Verdict Bool
global_begins limits m t =
    if reserved_global Instrumented (name_in t) then Err r.Reserved
    else if nat_lt (length m.globals) limits.globals then (if nat_lt (length (name_in t)) limits.names then Ok true else Err (r.Limit limit.Name))
    else Err (r.Limit limit.Globals)

abbrev pub entity_begins_by : Limits → Module → Symbol → Lexeme → Verdict Bool
entity_begins_by limits m s.SourceFilename t = Ok true
entity_begins_by limits m s.Target t = Ok true
entity_begins_by limits m s.Attributes t = Ok true
entity_begins_by limits m s.Meta t = Ok true
entity_begins_by limits m s.NoSanitize t = Ok true
entity_begins_by limits m s.Local t = judge_map (λ n. true) (local_by limits s.Local t)
entity_begins_by limits m s.NumberedLocal t = judge_map (λ n. true) (local_by limits s.NumberedLocal t)
entity_begins_by limits m s.Global t = global_begins limits m t
entity_begins_by limits m s.Declare t = room_for_function limits m
entity_begins_by limits m s.Define t = room_for_function limits m
entity_begins_by limits m symbol t = Ok false

unfoldable pub entity_begins : Limits → ModuleSoFar → Lexeme → Verdict Bool
entity_begins limits parts t = entity_begins_by limits parts.«module» t.symbol t

abbrev pub entity_by : Limits → ModuleSoFar → Symbol → Lexeme → Rule ModuleSoFar
entity_by limits parts s.SourceFilename t = source_filename >> give parts
entity_by limits parts s.Target t = target_entity >> give parts
entity_by limits parts s.Attributes t = attribute_group Instrumented >> give parts
entity_by limits parts s.Local t = named_type limits (name.Text (name_in t)) >>= λ x. give (with_type parts x)
entity_by limits parts s.NumberedLocal t = named_type limits (name.Number (decimal (name_in t))) >>= λ x. give (with_type parts x)
entity_by limits parts s.Global t = global_variable limits (name.Text (name_in t)) >>= λ g. give (with_global parts g)
entity_by limits parts s.Declare t = declaration limits >>= λ d. give (with_declaration parts d)
entity_by limits parts s.Define t = function limits parts.count >>= λ f. give (with_function parts f)
entity_by limits parts symbol t = metadata_entity Instrumented >> give parts

unfoldable pub entity : Limits → ModuleSoFar → Lexeme → Rule ModuleSoFar
entity limits parts t = entity_by limits parts t.symbol t

unfoldable pub module_rule : Limits → Rule Module
module_rule limits = do
  parts ← loop (entity_begins limits) (entity limits) no_parts
  look end_of
  give parts.«module»
