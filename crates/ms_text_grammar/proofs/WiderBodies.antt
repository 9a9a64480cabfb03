-- What a piece of the plain form reads, that of the instrumented form reads as the same: instructions, bodies and whole texts.
use Rattle.std.proofs.Common.{◌≡◌, ◌≤◌, ℕ, ◌==◌, Bool, true, false, true≢false, cond, ltb, not, ◌&&◌, List, [], length, Option, Some, None, Result, Ok, Err, refl, sym, arith}
use Rattle.std.proofs.lemmas.Bool.{ltb-true, lt-ltb, ltb-false, le-ltb}
use Rattle.std.specs.Str.{bytes_eq}
use Rattle.std.specs.Prelude.{codes}
use Rattle.ms_bits.specs.declared.operations.BinOp.{BinOp}
use Rattle.ms_bits.specs.declared.operations.CastOp.{CastOp}
use Rattle.ms_lex.specs.declared.kinds.Token.{Token}
use Rattle.ms_lex.specs.Tokens.{Text, tokens_of}
use Rattle.ms_lex.specs.Numbers.{decimal}
use Rattle.ms_ir.specs.declared.syntax.Module.{Module}
use Rattle.ms_ir.specs.declared.syntax.Name.{Name}
use Rattle.ms_ir.specs.declared.syntax.Op.{Op}
use Rattle.ms_ir.specs.declared.syntax.Operand.{Operand}
use Rattle.ms_ir.specs.declared.syntax.Ty.{Ty}
use Rattle.ms_ir.specs.declared.forms.Form.TheVariants.{Plain, Instrumented}
use Rattle.ms_text_grammar.specs.declared.refusals.Cause.{Cause}
use Rattle.ms_text_grammar.specs.declared.refusals.Cause.TheVariants as r
use Rattle.ms_text_grammar.specs.declared.refusals.Outside.TheVariants as outside
use Rattle.ms_text_grammar.specs.declared.states.BodySoFar.{BodySoFar}
use Rattle.ms_text_grammar.specs.declared.states.Parameters.{Parameters}
use Rattle.ms_text_grammar.specs.declared.states.ModuleSoFar.{ModuleSoFar}
use Rattle.ms_text_grammar.specs.declared.symbols.Symbol.{Symbol}
use Rattle.ms_text_grammar.specs.declared.symbols.Symbol.TheVariants as s
use Rattle.ms_text_grammar.specs.Lexemes.{Lexeme, name_in, lexemes_of}
use Rattle.ms_text_grammar.specs.Steps.{Rule, Verdict, binary_op, cast_op}
use Rattle.ms_text_grammar.specs.Names.{reserved_local, reserved_global, local_by, local_name, global_name}
use Rattle.ms_text_grammar.specs.Types.{max_depth}
use Rattle.ms_text_grammar.specs.Values.{value}
use Rattle.ms_text_grammar.specs.Skipped.{is_closer, is_awaited, may_skip, balanced, in_parens, attribute_rest, attributes, is_attribute, attached_by, attachments, kind_by, kind_of, attached_rest, attached, suffix_by, suffix, suffixes, suffixes_from}
use Rattle.ms_text_grammar.specs.Insts.{Marked, with_suffixes, binary_rule, compare_rule, cast_rule, select_rule, freeze_rule, address, load_rule, store_rule, index_by, index_turn, gep_rule, alloca_rule, is_printf, callee_by, callee, argument, arguments, debug_rest, call_attribute, call_end, call_rule, edge, edge_by, edge_turn, phi_rule, target, branch_on, branch_rule, case_rest, switch_rule, ret_value, ret_rule}
use Rattle.ms_text_grammar.specs.Bodies.{is_open, opened, max_instructions, counted, short, begins_instruction, line_begins_by, line_begins, numbers_left}
use Rattle.ms_text_grammar.specs.Lines.{value_line, marked_line, phi_line, call_line, effect_line, end_line, instruction_by, operation_by, instruction, named_line, record_line, line_by, line, blocks}
use Rattle.ms_text_grammar.specs.Functions.{parameter_name_by, parameter_name, typed_parameter, parameter, parameters, linkage_rest, linkage, declaration, tail_rest, function_tail, function}
use Rattle.ms_text_grammar.specs.Modules.{attribute_group, node_by, metadata_entity, named_type, global_suffix_by, global_suffix, global_variable, entity_begins_by, entity_begins, entity_by, entity, module_rule}
use Rattle.ms_text_grammar.specs.Texts.{Reads, max_bytes, max_tokens}
use Rattle.ms_lex.specs.Grammar.{one}
use Rattle.ms_text_grammar.proofs.Wider.{Under, same, judged, next, repeated, turning, either, listed_under, unreserved_under, local_less, global_less, mapped_under, local_name_under, global_name_under, local_by_under, local_under, global_under, type_under, struct_type_under, value_under, init_under}

else_under : {A : Type 0} (b : Bool) (v : Verdict A) {w x : Verdict A} (a : A) → ((a : A) → w ≡ Ok a → x ≡ Ok a) → cond b v w ≡ Ok a → cond b v x ≡ Ok a
else_under true v a p h = h
else_under false v a p h = p a h

then_under : {A : Type 0} (b : Bool) {v w : Verdict A} (x : Verdict A) (a : A) → ((a : A) → v ≡ Ok a → w ≡ Ok a) → cond b v x ≡ Ok a → cond b w x ≡ Ok a
then_under true x a p h = p a h
then_under false x a p h = h

-- ---- what is read over

may_skip_under : (x : Symbol) (t : Lexeme) (a : Bool) → may_skip Plain x t ≡ Ok a → may_skip Instrumented x t ≡ Ok a
may_skip_under s.Global t a h = mapped_under _ (global_name Plain (name_in t)) _ a (global_name_under (name_in t)) h
may_skip_under s.Local t a h = mapped_under _ (local_name Plain (name_in t)) _ a (local_name_under (name_in t)) h
may_skip_under s.Label t a h = mapped_under _ (local_name Plain (name_in t)) _ a (local_name_under (name_in t)) h
may_skip_under x t a h = h

balanced_under : (closing : Symbol) → Under (balanced Plain closing) (balanced Instrumented closing)
unfolding balanced
balanced_under closing = next (repeated (λ awaited t d h. else_under (is_closer t.symbol) (Ok (is_awaited awaited t.symbol)) d (may_skip_under t.symbol t) h) (λ a t. same)) (λ awaited. same)

parens_under : Under (in_parens Plain) (in_parens Instrumented)
unfolding in_parens
parens_under = next same (λ has. either has (next same (λ u. balanced_under _)) same)

attribute_rest_under : (x : Symbol) → Under (attribute_rest Plain x) (attribute_rest Instrumented x)
attribute_rest_under s.Align = same
attribute_rest_under s.Group = same
attribute_rest_under s.DebugGroup = same
attribute_rest_under s.Str = same
attribute_rest_under x = parens_under

attributes_under : Under (attributes Plain) (attributes Instrumented)
unfolding attributes
attributes_under = turning (λ u t. attribute_rest_under t.symbol)

attached_by_under : (x : Symbol) (a : Bool) → attached_by Plain x ≡ Ok a → attached_by Instrumented x ≡ Ok a
attached_by_under s.NoSanitize a h = absurd cc
attached_by_under x a h = h

attachments_under : Under (attachments Plain) (attachments Instrumented)
unfolding attachments
attachments_under = repeated (λ u t d h. attached_by_under t.symbol d h) (λ u t. same)

kind_by_under : (x : Symbol) (t : Lexeme) (a : Bool) → kind_by Plain x t ≡ Ok a → kind_by Instrumented x t ≡ Ok a
kind_by_under s.NoSanitize t a h = absurd cc
kind_by_under x t a h = h

kind_under : Under (one (kind_of Plain)) (one (kind_of Instrumented))
kind_under = judged (λ t a h. kind_by_under t.symbol t a h)

attached_rest_under : (marked marks : Bool) (x : Symbol) → Under (attached_rest Plain marked marks x) (attached_rest Instrumented marked marks x)
attached_rest_under marked marks s.Bang = next same (λ u. next same (λ v. next (balanced_under _) (λ w. same)))
attached_rest_under marked marks x = next same (λ u. next parens_under (λ v. same))

attached_under : (marked : Bool) → Under (attached Plain marked) (attached Instrumented marked)
unfolding attached
attached_under marked = next kind_under (λ marks. next same (λ x. attached_rest_under marked marks x))

suffix_by_under : (marked : Bool) (x : Symbol) → Under (suffix_by Plain marked x) (suffix_by Instrumented marked x)
suffix_by_under marked s.Align = same
suffix_by_under marked x = attached_under marked

suffix_under : (marked : Bool) → Under (suffix Plain marked) (suffix Instrumented marked)
unfolding suffix
suffix_under marked = next same (λ x. suffix_by_under marked x)

suffixes_under : (marked : Bool) → Under (suffixes Plain marked) (suffixes Instrumented marked)
unfolding suffixes
suffixes_under marked = turning (λ m comma. suffix_under m)

suffixes_from_under : (begun : Bool) → Under (suffixes_from Plain begun) (suffixes_from Instrumented begun)
unfolding suffixes_from
suffixes_from_under begun = next (either begun (suffix_under false) same) (λ m. suffixes_under m)

-- ---- instructions

operand_under : (type : Ty) → Under (value Plain type) (value Instrumented type)
operand_under type = value_under max_depth true type

with_suffixes_under : {f g : Rule Op} → Under f g → Under (with_suffixes Plain f) (with_suffixes Instrumented g)
unfolding with_suffixes
with_suffixes_under p = next p (λ o. next (suffixes_from_under false) (λ m. same))

binary_under : (o : BinOp) → Under (binary_rule Plain o) (binary_rule Instrumented o)
unfolding binary_rule
binary_under o = next same (λ flags. next same (λ w. next (operand_under _) (λ a. next same (λ u. next (operand_under _) (λ b. same)))))

compare_under : Under (compare_rule Plain) (compare_rule Instrumented)
unfolding compare_rule
compare_under = next same (λ flags. next same (λ p. next same (λ t. next (operand_under t) (λ a. next same (λ u. next (operand_under t) (λ b. same))))))

cast_under : (o : CastOp) → Under (cast_rule Plain o) (cast_rule Instrumented o)
unfolding cast_rule
cast_under o = next same (λ flags. next same (λ from. next (operand_under from) (λ a. same)))

select_under : Under (select_rule Plain) (select_rule Instrumented)
unfolding select_rule
select_under =
    next same (λ u. next (operand_under _) (λ c. next same (λ w. next same (λ t. next (operand_under t) (λ a. next same (λ x. next same (λ y. next (operand_under t) (λ b. same))))))))

freeze_under : Under (freeze_rule Plain) (freeze_rule Instrumented)
unfolding freeze_rule
freeze_under = next same (λ t. next (operand_under t) (λ a. same))

address_under : Under (address Plain) (address Instrumented)
unfolding address
address_under = next same (λ u. next same (λ w. operand_under _))

load_under : Under (load_rule Plain) (load_rule Instrumented)
unfolding load_rule
load_under = next same (λ t. next address_under (λ a. same))

store_under : Under (store_rule Plain) (store_rule Instrumented)
unfolding store_rule
store_under = next same (λ t. next (operand_under t) (λ x. next address_under (λ a. same)))

index_by_under : (found : List (Ty × Operand)) (x : Symbol) → Under (index_by Plain found x) (index_by Instrumented found x)
index_by_under found s.IntType = next same (λ w. next (operand_under _) (λ a. same))
index_by_under found x = same

index_turn_under : (found : List (Ty × Operand)) → Under (index_turn Plain found) (index_turn Instrumented found)
unfolding index_turn
index_turn_under found = next same (λ x. index_by_under found x)

gep_under : Under (gep_rule Plain) (gep_rule Instrumented)
unfolding gep_rule
gep_under =
    next same (λ u. next (type_under _) (λ t. next address_under (λ base. next (turning (λ i comma. index_turn_under i.found)) (λ i. next (suffixes_from_under i.ended) (λ m. same)))))

alloca_under : Under (alloca_rule Plain) (alloca_rule Instrumented)
unfolding alloca_rule
alloca_under = next (type_under _) (λ t. next (turning (λ i comma. index_turn_under i.found)) (λ c. next (suffixes_from_under c.ended) (λ m. same)))

callee_by_under : (dotted : Bool) (x : Symbol) (t : Lexeme) (a : Name) → callee_by Plain dotted x t ≡ Ok a → callee_by Instrumented dotted x t ≡ Ok a
callee_by_under dotted s.Global t a h =
    else_under (bytes_eq (name_in t) (codes "main")) (Err (r.Outside outside.CallOfMain)) a (λ b g. else_under (dotted && not (is_printf (name_in t))) (Err (r.Outside outside.FunctionType)) b (global_name_under (name_in t)) g) h
callee_by_under dotted x t a h = h

callee_under : (dotted : Bool) → Under (callee Plain dotted) (callee Instrumented dotted)
unfolding callee
callee_under dotted = judged (λ t a h. callee_by_under dotted t.symbol t a h)

argument_under : (among : Bool) (found : List (Ty × Operand)) → Under (argument Plain among found) (argument Instrumented among found)
unfolding argument
argument_under among found = next same (λ t. next attributes_under (λ u. next (operand_under t) (λ x. same)))

arguments_under : (among : Bool) → Under (arguments Plain among) (arguments Instrumented among)
unfolding arguments
arguments_under among = listed_under _ _ _ (λ found. argument_under among found)

debug_rest_under : Under (debug_rest Plain) (debug_rest Instrumented)
unfolding debug_rest
debug_rest_under = next same (λ has. either has (next same (λ u. next (balanced_under _) (λ w. same))) same)

call_attribute_under : (x : Symbol) → Under (call_attribute Plain x) (call_attribute Instrumented x)
call_attribute_under s.DebugGroup = debug_rest_under
call_attribute_under x = next (attribute_rest_under x) (λ u. same)

call_end_under : Under (call_end Plain) (call_end Instrumented)
unfolding call_end
call_end_under = next (turning (λ ended t. call_attribute_under t.symbol)) (λ ended. either ended same (next same (λ u. suffixes_from_under false)))

call_under : (named : Bool) (first : Symbol) → Under (call_rule Plain named first) (call_rule Instrumented named first)
unfolding call_rule
call_under named first =
    next same (λ u. next attributes_under (λ w. next same (λ result. next same (λ dotted. next (callee_under dotted) (λ f. next same (λ x. next (arguments_under _) (λ args. next call_end_under (λ m. same))))))))

edge_under : (type : Ty) → Under (edge Plain type) (edge Instrumented type)
unfolding edge
edge_under type = next (operand_under type) (λ x. next same (λ u. next local_under (λ from. same)))

edge_by_under : (type : Ty) (found : List (Operand × Name)) (x : Symbol) → Under (edge_by Plain type found x) (edge_by Instrumented type found x)
edge_by_under type found s.OpenBracket = next same (λ u. next (edge_under type) (λ e. same))
edge_by_under type found x = same

edge_turn_under : (type : Ty) (found : List (Operand × Name)) → Under (edge_turn Plain type found) (edge_turn Instrumented type found)
unfolding edge_turn
edge_turn_under type found = next same (λ x. edge_by_under type found x)

phi_under : Under (phi_rule Plain) (phi_rule Instrumented)
unfolding phi_rule
phi_under =
    next same (λ t. next same (λ u. next (edge_under t) (λ first. next (turning (λ e comma. edge_turn_under t e.found)) (λ e. next (suffixes_from_under e.ended) (λ m. same)))))

target_under : Under (target Plain) (target Instrumented)
unfolding target
target_under = next same (λ u. local_under)

branch_on_under : Under (branch_on Plain) (branch_on Instrumented)
unfolding branch_on
branch_on_under = next same (λ u. next (operand_under _) (λ c. next same (λ w. next target_under (λ a. next same (λ x. next target_under (λ b. same))))))

branch_under : Under (branch_rule Plain) (branch_rule Instrumented)
unfolding branch_rule
branch_under = next same (λ plain. either plain (next target_under (λ to. same)) branch_on_under)

case_under : (width : ℕ) (found : List (ℕ × Name)) → Under (case_rest Plain width found) (case_rest Instrumented width found)
unfolding case_rest
case_under width found = next same (λ n. next same (λ u. next target_under (λ to. same)))

switch_under : Under (switch_rule Plain) (switch_rule Instrumented)
unfolding switch_rule
switch_under =
    next same (λ w. next (operand_under _) (λ x. next same (λ u. next target_under (λ other. next same (λ y. next (turning (λ found t. case_under w found)) (λ cases. same))))))

ret_value_under : (type : Option Ty) → Under (ret_value Plain type) (ret_value Instrumented type)
ret_value_under None = same
ret_value_under (Some type) = next (operand_under type) (λ x. same)

ret_under : Under (ret_rule Plain) (ret_rule Instrumented)
unfolding ret_rule
ret_under = next same (λ t. ret_value_under t)

-- ---- lines

module _ (b : BodySoFar) where
  value_line_under : (result : Option Name) {f g : Rule Op} → Under f g → Under (value_line Plain b result f) (value_line Instrumented b result g)
  unfolding value_line
  value_line_under result p = next (with_suffixes_under p) (λ m. same)

  effect_line_under : {f g : Rule Op} → Under f g → Under (effect_line Plain b f) (effect_line Instrumented b g)
  unfolding effect_line
  effect_line_under p = next (with_suffixes_under p) (λ m. same)

  end_line_under : {f g : Rule Op} → Under f g → Under (end_line Plain b f) (end_line Instrumented b g)
  unfolding end_line
  end_line_under p = next (with_suffixes_under p) (λ m. same)

  phi_line_under : (result : Option Name) → Under (phi_line Plain b result) (phi_line Instrumented b result)
  unfolding phi_line
  phi_line_under result = next phi_under (λ m. same)

  call_line_under : (result : Option Name) (first : Symbol) → Under (call_line Plain b result first) (call_line Instrumented b result first)
  unfolding call_line
  call_line_under result first = next (call_under _ first) (λ m. same)

  marked_line_under : (result : Option Name) {f g : Rule Marked} → Under f g → Under (marked_line b result f) (marked_line b result g)
  unfolding marked_line
  marked_line_under result p = next p (λ m. same)

  by_word_under : (result : Option Name) (x : Symbol) → Under (instruction_by Plain b result x) (instruction_by Instrumented b result x)
  by_word_under result s.Phi = phi_line_under result
  by_word_under result s.Icmp = value_line_under result compare_under
  by_word_under result s.Select = value_line_under result select_under
  by_word_under result s.Freeze = value_line_under result freeze_under
  by_word_under result s.Alloca = marked_line_under result alloca_under
  by_word_under result s.Load = value_line_under result load_under
  by_word_under result s.Store = effect_line_under store_under
  by_word_under result s.GetElementPtr = marked_line_under result gep_under
  by_word_under result s.Tail = call_line_under result _
  by_word_under result s.MustTail = call_line_under result _
  by_word_under result s.NoTail = call_line_under result _
  by_word_under result s.Call = call_line_under result _
  by_word_under result s.Br = end_line_under branch_under
  by_word_under result s.Switch = end_line_under switch_under
  by_word_under result s.Ret = end_line_under ret_under
  by_word_under result s.Unreachable = end_line_under same
  by_word_under result x = same

  operation_under : (result : Option Name) (x : Symbol) (o : Option BinOp) (c : Option CastOp) → Under (operation_by Plain b result x o c) (operation_by Instrumented b result x o c)
  operation_under result x (Some o) c = value_line_under result (binary_under o)
  operation_under result x None (Some o) = value_line_under result (cast_under o)
  operation_under result x None None = by_word_under result x

  instruction_under : (result : Option Name) (x : Symbol) → Under (instruction Plain b result x) (instruction Instrumented b result x)
  unfolding instruction
  instruction_under result x = operation_under result x (binary_op x) (cast_op x)

  named_line_under : (n : Name) → Under (named_line Plain b n) (named_line Instrumented b n)
  unfolding named_line
  named_line_under n = next same (λ u. next same (λ x. instruction_under (Some n) x))

  record_line_under : Under (record_line Plain b) (record_line Instrumented b)
  unfolding record_line
  record_line_under = next same (λ u. next (balanced_under _) (λ w. same))

line_by_under : (b : BodySoFar) (x : Symbol) (t : Lexeme) → Under (line_by Plain b x t) (line_by Instrumented b x t)
line_by_under b s.Label t = same
line_by_under b s.NumberedLabel t = same
line_by_under b s.DebugGroup t = record_line_under (opened b)
line_by_under b s.Local t = named_line_under (opened b) _
line_by_under b s.NumberedLocal t = named_line_under (opened b) _
line_by_under b x t = instruction_under (opened b) None x

line_under : (b : BodySoFar) (t : Lexeme) → Under (line Plain b t) (line Instrumented b t)
unfolding line
line_under b t = line_by_under b t.symbol t

more_room : (n : ℕ) → ltb n (max_instructions Plain) ≡ true → ltb n (max_instructions Instrumented) ≡ true
unfolding max_instructions
more_room n h = let less = ltb-true n _ h in lt-ltb n _ (omega (arith, less))

room_under : (p q : Bool) (v : Verdict Bool) (e : Cause) (a : Bool) → (p ≡ true → q ≡ true) → cond p v (Err e) ≡ Ok a → cond q v (Err e) ≡ Ok a
room_under true true v e a f h = h
room_under true false v e a f h = absurd (true≢false (sym (f refl)))
room_under false q v e a f h = absurd cc

counted_under : (b : BodySoFar) (v : Verdict Bool) (a : Bool) → counted Plain b v ≡ Ok a → counted Instrumented b v ≡ Ok a
counted_under b v a h = room_under (ltb b.count (max_instructions Plain)) (ltb b.count (max_instructions Instrumented)) v _ a (more_room b.count) h

line_begins_by_under : (b : BodySoFar) (x : Symbol) (t : Lexeme) (a : Bool) → line_begins_by Plain b x t ≡ Ok a → line_begins_by Instrumented b x t ≡ Ok a
line_begins_by_under b s.Label t a h =
    else_under (is_open b.name) (Ok false) a (λ d g. unreserved_under (reserved_local Plain (name_in t)) (reserved_local Instrumented (name_in t)) _ d (local_less (name_in t)) g) h
line_begins_by_under b s.Local t a h =
    let free = unreserved_under (reserved_local Plain (name_in t)) (reserved_local Instrumented (name_in t)) (counted Plain b (short (name_in t))) a (local_less (name_in t)) h in
    else_under (reserved_local Instrumented (name_in t)) (Err r.Reserved) a (counted_under b (short (name_in t))) free
line_begins_by_under b s.NumberedLocal t a h = then_under (decimal (name_in t) == (opened b).next) (Err r.Numbering) a (counted_under b (Ok true)) h
line_begins_by_under b s.Phi t a h = then_under (opened b).phis (Ok false) a (counted_under b (Ok true)) h
line_begins_by_under b s.NumberedLabel t a h = h
line_begins_by_under b s.DebugGroup t a h = h
line_begins_by_under b x t a h = then_under (begins_instruction x) (Ok false) a (counted_under b (Ok true)) h

line_begins_under : (b : BodySoFar) (t : Lexeme) (a : Bool) → line_begins Plain b t ≡ Ok a → line_begins Instrumented b t ≡ Ok a
unfolding line_begins
line_begins_under b t a h = then_under (numbers_left b.next) (Err r.Numbering) a (line_begins_by_under b t.symbol t) h

blocks_under : (start : BodySoFar) → Under (blocks Plain start) (blocks Instrumented start)
unfolding blocks
blocks_under start = next (repeated (λ b t d h. line_begins_under b t d h) (λ b t. line_under b t)) (λ body. same)

-- ---- functions

parameter_name_by_under : (n : ℕ) (x : Symbol) → Under (parameter_name_by Plain n x) (parameter_name_by Instrumented n x)
parameter_name_by_under n s.Local = judged (λ t a h. local_name_under (name_in t) a h)
parameter_name_by_under n x = same

parameter_name_under : (n : ℕ) → Under (parameter_name Plain n) (parameter_name Instrumented n)
unfolding parameter_name
parameter_name_under n = next same (λ x. parameter_name_by_under n x)

typed_parameter_under : (ps : Parameters) → Under (typed_parameter Plain ps) (typed_parameter Instrumented ps)
unfolding typed_parameter
typed_parameter_under ps = next same (λ t. next attributes_under (λ u. next (parameter_name_under _) (λ n. same)))

parameter_under : (dotted : Bool) (ps : Parameters) → Under (parameter Plain dotted ps) (parameter Instrumented dotted ps)
unfolding parameter
parameter_under dotted ps = next same (λ dots. either dots same (typed_parameter_under ps))

parameters_under : (dotted : Bool) → Under (parameters Plain dotted) (parameters Instrumented dotted)
unfolding parameters
parameters_under dotted = listed_under _ _ _ (λ ps. parameter_under dotted ps)

linkage_rest_under : (x : Symbol) → Under (linkage_rest Plain x) (linkage_rest Instrumented x)
linkage_rest_under s.ExternalWord = same
linkage_rest_under x = attribute_rest_under x

linkage_under : Under (linkage Plain) (linkage Instrumented)
unfolding linkage
linkage_under = turning (λ u t. linkage_rest_under t.symbol)

declaration_under : Under (declaration Plain) (declaration Instrumented)
unfolding declaration
declaration_under =
    next attachments_under (λ u. next linkage_under (λ w. next same (λ result. next global_under (λ f. next same (λ x. next (parameters_under _) (λ ps. next attributes_under (λ y. same)))))))

tail_rest_under : (x : Symbol) → Under (tail_rest Plain x) (tail_rest Instrumented x)
tail_rest_under s.Meta = same
tail_rest_under s.NoSanitize = same
tail_rest_under x = attribute_rest_under x

function_tail_under : Under (function_tail Plain) (function_tail Instrumented)
unfolding function_tail
function_tail_under = repeated (λ u t d h. else_under (is_attribute t.symbol) (Ok true) d (attached_by_under t.symbol) h) (λ u t. tail_rest_under t.symbol)

function_under : (before : ℕ) → Under (function Plain before) (function Instrumented before)
unfolding function
function_under before =
    next linkage_under (λ u. next same (λ result. next global_under (λ n. next same (λ w. next (parameters_under false) (λ ps. next function_tail_under (λ x. next same (λ y. next (blocks_under _) (λ all. same))))))))

-- ---- modules

group_under : Under (attribute_group Plain) (attribute_group Instrumented)
unfolding attribute_group
group_under = next same (λ u. next same (λ w. next same (λ x. balanced_under _)))

node_by_under : (x : Symbol) → Under (node_by Plain x) (node_by Instrumented x)
node_by_under s.Bang = next same (λ u. next same (λ w. balanced_under _))
node_by_under x = next same (λ u. next same (λ w. balanced_under _))

metadata_under : Under (metadata_entity Plain) (metadata_entity Instrumented)
unfolding metadata_entity
metadata_under = next same (λ u. next same (λ d. next same (λ w. next same (λ x. node_by_under x))))

named_type_under : (n : Name) → Under (named_type Plain n) (named_type Instrumented n)
unfolding named_type
named_type_under n = next same (λ u. next same (λ w. next struct_type_under (λ t. same)))

global_suffix_by_under : (x : Symbol) → Under (global_suffix_by Plain x) (global_suffix_by Instrumented x)
global_suffix_by_under s.Align = same
global_suffix_by_under s.Section = same
global_suffix_by_under x = next kind_under (λ m. same)

global_suffix_under : Under (global_suffix Plain) (global_suffix Instrumented)
unfolding global_suffix
global_suffix_under = next same (λ x. global_suffix_by_under x)

global_variable_under : (n : Name) → Under (global_variable Plain n) (global_variable Instrumented n)
unfolding global_variable
global_variable_under n =
    next same (λ u. next same (λ w. next same (λ c. next (type_under _) (λ t. next (init_under _ t) (λ i. next (turning (λ u comma. global_suffix_under)) (λ x. same))))))

entity_begins_by_under : (m : Module) (x : Symbol) (t : Lexeme) (a : Bool) → entity_begins_by Plain m x t ≡ Ok a → entity_begins_by Instrumented m x t ≡ Ok a
entity_begins_by_under m s.Local t a h = mapped_under _ (local_by Plain s.Local t) _ a (local_by_under s.Local t) h
entity_begins_by_under m s.NumberedLocal t a h = mapped_under _ (local_by Plain s.NumberedLocal t) _ a (local_by_under s.NumberedLocal t) h
entity_begins_by_under m s.Global t a h = unreserved_under (reserved_global Plain (name_in t)) (reserved_global Instrumented (name_in t)) _ a (global_less (name_in t)) h
entity_begins_by_under m x t a h = h

entity_begins_under : (p : ModuleSoFar) (t : Lexeme) (a : Bool) → entity_begins Plain p t ≡ Ok a → entity_begins Instrumented p t ≡ Ok a
unfolding entity_begins
entity_begins_under p t a h = entity_begins_by_under p.«module» t.symbol t a h

entity_by_under : (p : ModuleSoFar) (x : Symbol) (t : Lexeme) → Under (entity_by Plain p x t) (entity_by Instrumented p x t)
entity_by_under p s.SourceFilename t = same
entity_by_under p s.Target t = same
entity_by_under p s.Attributes t = next group_under (λ u. same)
entity_by_under p s.Local t = next (named_type_under _) (λ x. same)
entity_by_under p s.NumberedLocal t = next (named_type_under _) (λ x. same)
entity_by_under p s.Global t = next (global_variable_under _) (λ g. same)
entity_by_under p s.Declare t = next declaration_under (λ d. same)
entity_by_under p s.Define t = next (function_under p.count) (λ f. same)
entity_by_under p x t = next metadata_under (λ u. same)

entity_under : (p : ModuleSoFar) (t : Lexeme) → Under (entity Plain p t) (entity Instrumented p t)
unfolding entity
entity_under p t = entity_by_under p t.symbol t

module_under : Under (module_rule Plain) (module_rule Instrumented)
unfolding module_rule
module_under = next (repeated (λ p t d h. entity_begins_under p t d h) (λ p t. entity_under p t)) (λ parts. same)

-- ---- texts

fewer : {A E : Type 0} (p q : Bool) (e : E) (v : Result A E) (a : A) → (p ≡ false → q ≡ false) → cond p (Err e) v ≡ Ok a → cond q (Err e) v ≡ Ok a
fewer true q e v a f h = absurd cc
fewer false true e v a f h = absurd (true≢false (f refl))
fewer false false e v a f h = h

few_tokens : (n : ℕ) → ltb (max_tokens Plain) n ≡ false → ltb (max_tokens Instrumented) n ≡ false
unfolding max_tokens
few_tokens n h = let less = ltb-false _ n h in le-ltb _ n (omega (arith, less))

same_tokens : (text : Text) (tokens : List Token) → tokens_of text (max_tokens Plain) ≡ Ok tokens → tokens_of text (max_tokens Instrumented) ≡ Ok tokens
unfolding tokens_of
same_tokens text tokens h = fewer _ _ _ _ tokens (few_tokens _) h

few_bytes : (n : ℕ) → n ≤ max_bytes Plain → n ≤ max_bytes Instrumented
unfolding max_bytes
few_bytes n h = omega (arith, h)

pub plain_is_instrumented : (text : Text) (m : Module) → Reads Plain text m → Reads Instrumented text m
plain_is_instrumented text m h =
    (h.0, record { short = few_bytes (length text) h.1.short; cut = same_tokens text h.0 h.1.cut }, module_under.reads (lexemes_of text h.0) m [] h.2)
