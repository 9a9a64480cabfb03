-- Instructions after their result's name, with what is attached to them, and whether that is the mark
-- (LLVM Language Reference, "Instruction Reference").
use Rattle.std.specs.Prelude.{ℕ, Bool, true, false, not, ◌&&◌, ◌||◌, ◌==◌, cond, nat_lt, if◌then◌else◌, List, [], ◌∷◌, ◌++◌, length, codes, Option, Some, None, Ok, Err}
use Rattle.std.specs.Str.{bytes_eq}
use Rattle.ms_bits.specs.declared.operations.BinOp.{BinOp}
use Rattle.ms_bits.specs.declared.operations.BinOp.TheVariants as binary
use Rattle.ms_bits.specs.declared.operations.CastOp.{CastOp}
use Rattle.ms_bits.specs.declared.operations.CastOp.TheVariants as cast
use Rattle.ms_bits.specs.declared.operations.Pred.{Pred}
use Rattle.ms_bits.specs.declared.operations.Pred.TheVariants as predicate
use Rattle.ms_bits.specs.declared.operations.Flags.{Flags}
use Rattle.ms_lex.specs.Tokens.{Text}
use Rattle.ms_lex.specs.Grammar.{give, one, look, loop, ◌>>=◌, ◌>>◌}
use Rattle.ms_ir.specs.declared.syntax.Name.{Name}
use Rattle.ms_ir.specs.declared.syntax.Name.TheVariants as name
use Rattle.ms_ir.specs.declared.syntax.Ty.{Ty, Int, Ptr}
use Rattle.ms_ir.specs.declared.syntax.Ty.TheVariants as ty
use Rattle.ms_ir.specs.declared.syntax.Operand.{Operand}
use Rattle.ms_ir.specs.declared.syntax.Operand.TheVariants as operand
use Rattle.ms_ir.specs.declared.syntax.Op.{Op}
use Rattle.ms_ir.specs.declared.syntax.Op.TheVariants as op
use Rattle.ms_bits.specs.NoFlags.{no_flags}
use Rattle.ms_ir.specs.declared.forms.Form.{Form}
use Rattle.ms_text_grammar.specs.declared.symbols.Symbol.{Symbol}
use Rattle.ms_text_grammar.specs.declared.symbols.Symbol.TheVariants as s
use Rattle.ms_text_grammar.specs.declared.refusals.Cause.TheVariants as r
use Rattle.ms_text_grammar.specs.declared.refusals.Limit.TheVariants as limit
use Rattle.ms_text_grammar.specs.declared.refusals.Outside.TheVariants as outside
use Rattle.ms_text_grammar.specs.declared.states.PhiEdges.{PhiEdges}
use Rattle.ms_text_grammar.specs.declared.states.Indices.{Indices}
use Rattle.ms_text_grammar.specs.Lexemes.{Lexeme, is, name_in, width_in, same_symbol}
use Rattle.ms_text_grammar.specs.Steps.{Rule, Verdict, refusal, within, next_symbol, stop, skip, sees, word, listed}
use Rattle.ms_text_grammar.specs.Names.{local, global_name}
use Rattle.ms_text_grammar.specs.Types.{int_width, is_width, int_type, value_type_of, value_type, result_type, type_to, max_depth}
use Rattle.ms_text_grammar.specs.Values.{number, gep_words, index_type_of, value}
use Rattle.ms_text_grammar.specs.Skipped.{balanced, is_attribute, attribute_rest, attributes, suffixes_from}

-- what an instruction does, and whether it is marked
abbrev pub Marked : Type 0
Marked = Op × Bool

-- an operation, and then its suffixes
unfoldable pub with_suffixes : Form → Rule Op → Rule Marked
with_suffixes form rule = do
  o ← rule
  marked ← suffixes_from form false
  give (o, marked)

-- ---- flags, each at most once, in any order

-- whether a flag was read
abbrev pub is_set : Flags → Symbol → Bool
is_set flags s.Nuw = flags.nuw
is_set flags s.Nsw = flags.nsw
is_set flags s.Exact = flags.exact
is_set flags s.Disjoint = flags.disjoint
is_set flags s.Nneg = flags.nneg
is_set flags s.SameSign = flags.samesign
is_set flags _ = false

-- one flag more
abbrev pub with_flag : Flags → Symbol → Flags
with_flag flags s.Nuw = record flags { nuw = true }
with_flag flags s.Nsw = record flags { nsw = true }
with_flag flags s.Exact = record flags { exact = true }
with_flag flags s.Disjoint = record flags { disjoint = true }
with_flag flags s.Nneg = record flags { nneg = true }
with_flag flags s.SameSign = record flags { samesign = true }
with_flag flags _ = flags

-- a flag of neither wrapping
abbrev pub is_wrap_flag : Symbol → Bool
is_wrap_flag s.Nuw = true
is_wrap_flag s.Nsw = true
is_wrap_flag _ = false

-- the flags that a binary operation may carry
unfoldable pub binary_carries : BinOp → Symbol → Bool
binary_carries binary.Add symbol = is_wrap_flag symbol
binary_carries binary.Sub symbol = is_wrap_flag symbol
binary_carries binary.Mul symbol = is_wrap_flag symbol
binary_carries binary.Shl symbol = is_wrap_flag symbol
binary_carries binary.Udiv symbol = same_symbol symbol s.Exact
binary_carries binary.Sdiv symbol = same_symbol symbol s.Exact
binary_carries binary.Lshr symbol = same_symbol symbol s.Exact
binary_carries binary.Ashr symbol = same_symbol symbol s.Exact
binary_carries binary.Or symbol = same_symbol symbol s.Disjoint
binary_carries binary.Urem symbol = false
binary_carries binary.Srem symbol = false
binary_carries binary.And symbol = false
binary_carries binary.Xor symbol = false

-- the flags that a cast may carry
unfoldable pub cast_carries : CastOp → Symbol → Bool
cast_carries cast.Trunc symbol = is_wrap_flag symbol
cast_carries cast.Zext symbol = same_symbol symbol s.Nneg
cast_carries cast.Sext symbol = false
cast_carries cast.PtrToInt symbol = false
cast_carries cast.IntToPtr symbol = false
cast_carries cast.Bitcast symbol = false

-- the flag that a comparison may carry
abbrev pub compare_carries : Symbol → Bool
compare_carries symbol = same_symbol symbol s.SameSign

-- a flag that the operation may carry and that wasn't read
abbrev pub flag_begins : (Symbol → Bool) → Flags → Lexeme → Verdict Bool
flag_begins carries flags t = Ok (carries t.symbol && not (is_set flags t.symbol))

-- the flags after an operation that carries these
unfoldable pub flags_of : (Symbol → Bool) → Rule Flags
flags_of carries = loop (flag_begins carries) (λ flags t. give (with_flag flags t.symbol)) no_flags

-- ---- words

-- flags iN value ',' value
unfoldable pub binary_rule : Form → BinOp → Rule Op
binary_rule form o = do
  flags ← flags_of (binary_carries o)
  width ← int_type
  a ← value form (ty.Int width)
  word s.Comma
  b ← value form (ty.Int width)
  give (op.Binary o flags (ty.Int width) a b)

-- the predicate that a word names
unfoldable pub predicate_by : Symbol → Option Pred
predicate_by s.Eq = Some predicate.Eq
predicate_by s.Ne = Some predicate.Ne
predicate_by s.Ugt = Some predicate.Ugt
predicate_by s.Uge = Some predicate.Uge
predicate_by s.Ult = Some predicate.Ult
predicate_by s.Ule = Some predicate.Ule
predicate_by s.Sgt = Some predicate.Sgt
predicate_by s.Sge = Some predicate.Sge
predicate_by s.Slt = Some predicate.Slt
predicate_by s.Sle = Some predicate.Sle
predicate_by _ = None

-- what a word stands for, or else it is refused
abbrev pub known : {A : Type 0} → Option A → Lexeme → Verdict A
known None t = Err (refusal t)
known (Some a) t = Ok a

-- a predicate
unfoldable pub predicate_word : Rule Pred
predicate_word = one (λ t. known (predicate_by t.symbol) t)

-- 'samesign'? predicate value-type value ',' value
unfoldable pub compare_rule : Form → Rule Op
compare_rule form = do
  flags ← flags_of compare_carries
  p ← predicate_word
  t ← value_type
  a ← value form t
  word s.Comma
  b ← value form t
  give (op.Icmp p flags t a b)

-- flags value-type value 'to' value-type
unfoldable pub cast_rule : Form → CastOp → Rule Op
cast_rule form o = do
  flags ← flags_of (cast_carries o)
  from ← value_type
  a ← value form from
  word s.To
  to ← value_type
  give (op.Cast o flags from a to)

-- the type `i1`
abbrev pub bit_type_of : Lexeme → Verdict (Unit {0})
bit_type_of t = if is s.IntType t && width_in t == 1 then Ok tt else Err (refusal t)

-- 'i1'
unfoldable pub bit_type : Rule (Unit {0})
bit_type = one bit_type_of

-- whether a token spells this type
abbrev pub spells : Ty → Lexeme → Bool
spells (Int width) t = is s.IntType t && width_in t == width
spells Ptr t = is s.PtrType t
spells _ t = false

-- another type of a value is refused as a word that can't stand there
abbrev pub other_type : Verdict Ty → Lexeme → Verdict (Unit {0})
other_type (Ok t) token = Err (refusal token)
other_type (Err e) token = Err e

-- this type of a value, and no other
abbrev pub same_type_of : Ty → Lexeme → Verdict (Unit {0})
same_type_of type t = if spells type t then Ok tt else other_type (value_type_of t) t

-- the same type of a value again
unfoldable pub same_type : Ty → Rule (Unit {0})
same_type type = one (same_type_of type)

-- 'i1' value ',' value-type value ',' the same type value
unfoldable pub select_rule : Form → Rule Op
select_rule form = do
  bit_type
  condition ← value form (ty.Int 1)
  word s.Comma
  t ← value_type
  a ← value form t
  word s.Comma
  same_type t
  b ← value form t
  give (op.Select condition t a b)

-- value-type value
unfoldable pub freeze_rule : Form → Rule Op
freeze_rule form = do
  t ← value_type
  a ← value form t
  give (op.Freeze t a)

-- ---- memory

-- `ptr` and an address after a comma
unfoldable pub address : Form → Rule Operand
address form = word s.Comma >> (word s.PtrType >> value form ty.Ptr)

-- value-type ',' 'ptr' value
unfoldable pub load_rule : Form → Rule Op
load_rule form = do
  t ← value_type
  a ← address form
  give (op.Load t a)

-- value-type value ',' 'ptr' value
unfoldable pub store_rule : Form → Rule Op
store_rule form = do
  t ← value_type
  v ← value form t
  a ← address form
  give (op.Store t v a)

-- before the first index
abbrev pub no_indices : Indices
no_indices = record { found = []; ended = false }

-- an index after its comma, or else what is attached begins
abbrev pub index_by : Form → List (Ty × Operand) → Symbol → Rule Indices
index_by form found s.IntType = do
  width ← one (index_type_of (length found))
  v ← value form (ty.Int width)
  give (record { found = found ++ (ty.Int width, v) ∷ []; ended = false })
index_by form found symbol = give (record { found = found; ended = true })

-- after a comma
unfoldable pub index_turn : Form → List (Ty × Operand) → Rule Indices
index_turn form found = next_symbol >>= index_by form found

-- a comma, unless what is attached began after the one before
abbrev pub index_begins : Indices → Lexeme → Verdict Bool
index_begins indices t = Ok (not indices.ended && is s.Comma t)

-- words of steps, type ',' 'ptr' value, and (',' iN value) as many as come
unfoldable pub gep_rule : Form → Rule Marked
gep_rule form = do
  gep_words
  t ← type_to form max_depth
  base ← address form
  indices ← loop index_begins (λ indices comma. index_turn form indices.found) no_indices
  marked ← suffixes_from form indices.ended
  give (op.Gep t base indices.found, marked)

-- at most one count
abbrev pub count_begins : Indices → Lexeme → Verdict Bool
count_begins indices t = Ok (not indices.ended && length indices.found == 0 && is s.Comma t)

-- an `alloca` without a count has the count `i32 1`
abbrev pub alloca_of : Ty → List (Ty × Operand) → Op
alloca_of type [] = op.Alloca type (ty.Int 32) (operand.Int 1)
alloca_of type (count ∷ rest) = op.Alloca type count.0 count.1

-- type (',' iN value)?
unfoldable pub alloca_rule : Form → Rule Marked
alloca_rule form = do
  t ← type_to form max_depth
  count ← loop count_begins (λ indices comma. index_turn form indices.found) no_indices
  marked ← suffixes_from form count.ended
  give (alloca_of t count.found, marked)

-- ---- calls

-- the result of a call that has a name isn't `void`
abbrev pub call_type : Bool → Rule (Option Ty)
call_type true = value_type >>= λ t. give (Some t)
call_type false = result_type

-- the result type `i32`
abbrev pub is_i32 : Option Ty → Bool
is_i32 None = false
is_i32 (Some type) = is_width 32 (int_width type)

-- `(ptr, ...)`
unfoldable pub variadic_type : Rule Bool
variadic_type = do
  word s.OpenParen
  word s.PtrType
  word s.Comma
  word s.Dots
  word s.CloseParen
  give true

-- Whether a call is written with the type of its callee. That of `printf` alone may stand.
unfoldable pub callee_type : Option Ty → Rule Bool
callee_type result = do
  has ← sees s.OpenParen
  cond has (cond (is_i32 result) variadic_type (stop (r.Outside outside.FunctionType))) (give false)

-- the name `printf`
abbrev pub is_printf : Text → Bool
is_printf text = bytes_eq text (codes "printf")

-- the callee, which is `printf` where its type stood in front
abbrev pub callee_name : Form → Bool → Text → Verdict Name
callee_name form dotted text =
    if bytes_eq text (codes "main") then Err (r.Outside outside.CallOfMain)
    else if dotted && not (is_printf text) then Err (r.Outside outside.FunctionType)
    else global_name form text

-- a global; a local would be an indirect call
abbrev pub callee_by : Form → Bool → Symbol → Lexeme → Verdict Name
callee_by form dotted s.Global t = callee_name form dotted (name_in t)
callee_by form dotted s.Local t = Err (r.Outside outside.IndirectCall)
callee_by form dotted s.NumberedLocal t = Err (r.Outside outside.IndirectCall)
callee_by form dotted symbol t = Err (refusal t)

-- the callee
unfoldable pub callee : Form → Bool → Rule Name
callee form dotted = one (λ t. callee_by form dotted t.symbol t)

-- a name that is the text `printf`
abbrev pub names_printf : Name → Bool
names_printf (name.Number n) = false
names_printf (name.Text text) = is_printf text

-- at most 100 parameters
abbrev pub max_parameters : ℕ
max_parameters = 100

-- only of `printf` are the arguments counted here
abbrev pub argument_type_of : Bool → ℕ → Lexeme → Verdict Ty
argument_type_of counted before t = within (not counted || nat_lt before max_parameters) limit.Parameters (value_type_of t)

-- value-type attributes value
unfoldable pub argument : Form → Bool → List (Ty × Operand) → Rule (List (Ty × Operand))
argument form counted found = do
  t ← one (argument_type_of counted (length found))
  attributes form
  v ← value form t
  give (found ++ (t, v) ∷ [])

-- arguments with commas between, up to and with ')'
unfoldable pub arguments : Form → Bool → Rule (List (Ty × Operand))
arguments form counted = listed s.CloseParen (λ found. true) (argument form counted) []

-- Attributes after a call, up to a debug record. The state is whether a record was read.
abbrev pub call_attribute_begins : Bool → Lexeme → Verdict Bool
call_attribute_begins ended t = Ok (not ended && is_attribute t.symbol)

-- a debug group is a record where `(` is after it, and else an attribute
unfoldable pub debug_rest : Form → Rule Bool
debug_rest form = do
  has ← sees s.OpenParen
  cond has (skip >> (balanced form s.CloseParen >> give true)) (give false)

-- after the first token of an attribute or a record
abbrev pub call_attribute : Form → Symbol → Rule Bool
call_attribute form s.DebugGroup = debug_rest form
call_attribute form symbol = attribute_rest form symbol >> give false

-- a bundle of operands is left out
abbrev pub no_bundle_of : Lexeme → Verdict (Unit {0})
no_bundle_of t = if is s.OpenBracket t then Err (r.Outside outside.OperandBundle) else Ok tt

-- what stands after a call's arguments; a record ends the call
unfoldable pub call_end : Form → Rule Bool
call_end form = do
  ended ← loop call_attribute_begins (λ ended t. call_attribute form t.symbol) false
  cond ended (give false) (look no_bundle_of >> suffixes_from form false)

-- `call` after `tail`, `musttail` or `notail`
abbrev pub call_word : Symbol → Rule (Unit {0})
call_word s.Call = give tt
call_word symbol = word s.Call

-- after its first word; `named` where it has a result's name
unfoldable pub call_rule : Form → Bool → Symbol → Rule Marked
call_rule form named first = do
  call_word first
  attributes form
  result ← call_type named
  dotted ← callee_type result
  function ← callee form dotted
  word s.OpenParen
  args ← arguments form (names_printf function)
  marked ← call_end form
  give (op.Call result function args, marked)

-- ---- phis

-- before the first edge
abbrev pub no_edges : PhiEdges
no_edges = record { found = []; ended = false }

-- after `[`
unfoldable pub edge : Form → Ty → Rule (Operand × Name)
edge form type = do
  v ← value form type
  word s.Comma
  from ← local form
  word s.CloseBracket
  give (v, from)

-- an edge after its comma, or else what is attached begins
abbrev pub edge_by : Form → Ty → List (Operand × Name) → Symbol → Rule PhiEdges
edge_by form type found s.OpenBracket = do
  skip
  e ← edge form type
  give (record { found = found ++ e ∷ []; ended = false })
edge_by form type found symbol = give (record { found = found; ended = true })

-- after a comma
unfoldable pub edge_turn : Form → Ty → List (Operand × Name) → Rule PhiEdges
edge_turn form type found = next_symbol >>= edge_by form type found

-- a comma, unless what is attached began after the one before
abbrev pub edge_begins : PhiEdges → Lexeme → Verdict Bool
edge_begins edges t = Ok (not edges.ended && is s.Comma t)

-- value-type '[' value ',' local ']', and more of them after commas
unfoldable pub phi_rule : Form → Rule Marked
phi_rule form = do
  t ← value_type
  word s.OpenBracket
  first ← edge form t
  edges ← loop edge_begins (λ edges comma. edge_turn form t edges.found) (record { found = first ∷ []; ended = false })
  marked ← suffixes_from form edges.ended
  give (op.Phi t edges.found, marked)

-- ---- terminators

-- `label` and the name of a block
unfoldable pub target : Form → Rule Name
target form = word s.LabelWord >> local form

-- 'i1' value ',' 'label' local ',' 'label' local
unfoldable pub branch_on : Form → Rule Op
branch_on form = do
  bit_type
  condition ← value form (ty.Int 1)
  word s.Comma
  one_way ← target form
  word s.Comma
  other_way ← target form
  give (op.CondBr condition one_way other_way)

-- 'label' local, or a condition and two of them
unfoldable pub branch_rule : Form → Rule Op
branch_rule form = do
  plain ← sees s.LabelWord
  cond plain (target form >>= λ to. give (op.Br to)) (branch_on form)

-- a case begins with the type of the value, and no other
abbrev pub case_begins : ℕ → List (ℕ × Name) → Lexeme → Verdict Bool
case_begins width found t = Ok (is s.IntType t && width_in t == width)

-- after its type
unfoldable pub case_rest : Form → ℕ → List (ℕ × Name) → Rule (List (ℕ × Name))
case_rest form width found = do
  n ← number width
  word s.Comma
  to ← target form
  give (found ++ (n, to) ∷ [])

-- iN value ',' 'label' local '[' (iN number ',' 'label' local) as many as come ']'
unfoldable pub switch_rule : Form → Rule Op
switch_rule form = do
  width ← int_type
  v ← value form (ty.Int width)
  word s.Comma
  other ← target form
  word s.OpenBracket
  cases ← loop (case_begins width) (λ found t. case_rest form width found) []
  word s.CloseBracket
  give (op.Switch (ty.Int width) v other cases)

-- the value after its type
abbrev pub ret_value : Form → Option Ty → Rule Op
ret_value form None = give (op.Ret None)
ret_value form (Some type) = value form type >>= λ v. give (op.Ret (Some (type, v)))

-- 'void', or value-type value
unfoldable pub ret_rule : Form → Rule Op
ret_rule form = result_type >>= ret_value form
