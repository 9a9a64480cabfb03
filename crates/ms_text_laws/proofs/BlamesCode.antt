-- Instructions and the lines of a body: where they stop they name a cause.
use Rattle.std.proofs.Common.{ℕ, Bool, true, false, not, ◌&&◌, ◌||◌, ◌==◌, List, [], length, Option, Some, None, Ok, Err, refl}
use Rattle.std.specs.Prelude.{nat_lt, codes}
use Rattle.std.specs.Str.{bytes_eq}
use Rattle.ms_bits.specs.declared.operations.BinOp.{BinOp}
use Rattle.ms_bits.specs.declared.operations.CastOp.{CastOp}
use Rattle.ms_lex.specs.Tokens.{Text}
use Rattle.ms_lex.specs.Numbers.{decimal}
use Rattle.ms_lex.specs.Grammar.{give}
use Rattle.ms_ir.specs.declared.syntax.Name.{Name}
use Rattle.ms_ir.specs.declared.syntax.Ty.{Ty, Int, Ptr}
use Rattle.ms_ir.specs.declared.syntax.Operand.{Operand}
use Rattle.ms_ir.specs.declared.syntax.Op.{Op}
use Rattle.ms_ir.specs.declared.syntax.Op.TheVariants as op
use Rattle.ms_ir.specs.declared.forms.Form.{Form}
use Rattle.ms_text_grammar.specs.declared.refusals.Limit.TheVariants as limit
use Rattle.ms_text_grammar.specs.declared.refusals.Outside.TheVariants as outside
use Rattle.ms_text_grammar.specs.declared.refusals.Cause.TheVariants as r
use Rattle.ms_text_grammar.specs.declared.states.BodySoFar.{BodySoFar}
use Rattle.ms_text_grammar.specs.declared.symbols.Symbol.{Symbol}
use Rattle.ms_text_grammar.specs.declared.symbols.Symbol.TheVariants as s
use Rattle.ms_text_grammar.specs.Lexemes.{Lexeme, is, name_in}
use Rattle.ms_text_grammar.specs.Steps.{Rule, Verdict, binary_op, cast_op}
use Rattle.ms_text_grammar.specs.Names.{reserved_local, name_fits, global_name}
use Rattle.ms_text_grammar.specs.Types.{value_type_of}
use Rattle.ms_text_grammar.specs.Values.{value}
use Rattle.ms_text_grammar.specs.Insts.{Marked, with_suffixes, flags_of, binary_rule, known, predicate_by, predicate_word, compare_rule, cast_rule, bit_type, spells, other_type, same_type, select_rule, freeze_rule, address, load_rule, store_rule, index_by, index_turn, gep_rule, alloca_rule, call_type, is_i32, variadic_type, callee_type, is_printf, callee_by, callee, max_parameters, argument, arguments, debug_rest, call_attribute, call_end, call_word, call_rule, edge, edge_by, edge_turn, phi_rule, target, branch_on, branch_rule, case_rest, switch_rule, ret_value, ret_rule}
use Rattle.ms_text_grammar.specs.Bodies.{is_open, opened, max_instructions, counted, short, numbered, unreserved, begins_instruction, line_begins_by, numbers_left, line_begins}
use Rattle.ms_text_grammar.specs.Lines.{value_line, marked_line, phi_line, call_line, effect_line, end_line, instruction_by, operation_by, instruction, gives_value, named_line, record_line, line_by, line, is_whole, blocks}
use Rattle.ms_text_laws.proofs.Blames.{IsNamed, cause, refusal_is, if_named, or_refused, within_named, Blames, given, judged, seen, chained, either, looped, refused, stopped, sight, word_taken, by_symbol, after_token, after_word, listed_blame}
use Rattle.ms_text_laws.proofs.BlamesParts.{global_named, local_blames, int_type_blames, value_type_named, value_type_blames, result_type_blames, type_blames, number_blames, gep_words_blame, index_type_blames, value_blames, balanced_blames, attribute_rest_blames, attributes_blame, all_suffixes_blame}

module _ (form : Form) where
  operand_blames : (type : Ty) → Blames (value form type)
  operand_blames type = value_blames form 32 true type

  pub suffixed : (rule : Rule Op) → Blames rule → Blames (with_suffixes form rule)
  unfolding with_suffixes
  suffixed rule each = chained each (λ o. chained (all_suffixes_blame form false) (λ marked. given))

  flags_blame : (carries : Symbol → Bool) → Blames (flags_of carries)
  unfolding flags_of
  flags_blame carries = looped (λ flags t. tt) (λ flags t. given)

  -- ---- arithmetic and choices

  binary_blames : (o : BinOp) → Blames (binary_rule form o)
  unfolding binary_rule
  binary_blames o = chained (flags_blame _) (λ flags. chained int_type_blames (λ width. chained (operand_blames (Int width)) (λ a. after_word _ (λ u. chained (operand_blames (Int width)) (λ b. given)))))

  known_named : {A : Type 0} (o : Option A) (t : Lexeme) → IsNamed (known o t)
  known_named None t = refusal_is t
  known_named (Some a) t = tt

  predicate_blames : Blames predicate_word
  unfolding predicate_word
  predicate_blames = judged (λ t. known_named (predicate_by t.symbol) t)

  compare_blames : Blames (compare_rule form)
  unfolding compare_rule
  compare_blames = chained (flags_blame _) (λ flags. chained predicate_blames (λ p. chained value_type_blames (λ t. chained (operand_blames t) (λ a. after_word _ (λ u. chained (operand_blames t) (λ b. given))))))

  cast_blames : (o : CastOp) → Blames (cast_rule form o)
  unfolding cast_rule
  cast_blames o = chained (flags_blame _) (λ flags. chained value_type_blames (λ t. chained (operand_blames t) (λ a. after_word _ (λ u. chained value_type_blames (λ v. given)))))

  bit_blames : Blames bit_type
  unfolding bit_type
  bit_blames = judged (λ t. or_refused _ (Ok tt) t tt)

  other_named : (v : Verdict Ty) (t : Lexeme) → IsNamed v → IsNamed (other_type v t)
  other_named (Ok type) t h = refusal_is t
  other_named (Err e) t h = h

  same_type_blames : (type : Ty) → Blames (same_type type)
  unfolding same_type
  same_type_blames type = judged (λ t. if_named (spells type t) (Ok tt) (other_type (value_type_of t) t) tt (other_named (value_type_of t) t (value_type_named t)))

  select_blames : Blames (select_rule form)
  unfolding select_rule
  select_blames =
      chained bit_blames (λ u. chained (operand_blames (Int 1)) (λ c. after_word _ (λ v. chained value_type_blames (λ t. chained (operand_blames t) (λ a.
      after_word _ (λ w. chained (same_type_blames t) (λ x. chained (operand_blames t) (λ b. given))))))))

  freeze_blames : Blames (freeze_rule form)
  unfolding freeze_rule
  freeze_blames = chained value_type_blames (λ t. chained (operand_blames t) (λ a. given))

  -- ---- memory

  address_blames : Blames (address form)
  unfolding address
  address_blames = after_word _ (λ u. after_word _ (λ v. operand_blames Ptr))

  load_blames : Blames (load_rule form)
  unfolding load_rule
  load_blames = chained value_type_blames (λ t. chained address_blames (λ a. given))

  store_blames : Blames (store_rule form)
  unfolding store_rule
  store_blames = chained value_type_blames (λ t. chained (operand_blames t) (λ v. chained address_blames (λ a. given)))

  index_by_blames : (found : List (Ty × Operand)) (x : Symbol) → Blames (index_by form found x)
  index_by_blames found s.IntType = chained (judged (index_type_blames (length found))) (λ width. chained (operand_blames (Int width)) (λ v. given))
  index_by_blames found x = given

  index_blames : (found : List (Ty × Operand)) → Blames (index_turn form found)
  unfolding index_turn
  index_blames found = by_symbol (index_by_blames found)

  gep_blames : Blames (gep_rule form)
  unfolding gep_rule
  gep_blames =
      chained gep_words_blame (λ u. chained (type_blames form 32) (λ t. chained address_blames (λ base.
      chained (looped (λ i t. tt) (λ i t. index_blames i.found)) (λ indices. chained (all_suffixes_blame form indices.ended) (λ marked. given)))))

  alloca_blames : Blames (alloca_rule form)
  unfolding alloca_rule
  alloca_blames =
      chained (type_blames form 32) (λ t. chained (looped (λ i t. tt) (λ i t. index_blames i.found)) (λ count. chained (all_suffixes_blame form count.ended) (λ marked. given)))

  -- ---- calls

  call_type_blames : (named : Bool) → Blames (call_type named)
  call_type_blames true = chained value_type_blames (λ t. given)
  call_type_blames false = result_type_blames

  variadic_blames : Blames variadic_type
  unfolding variadic_type
  variadic_blames = after_word _ (λ u. after_word _ (λ v. after_word _ (λ w. after_word _ (λ x. after_word _ (λ y. given)))))

  callee_type_blames : (result : Option Ty) → Blames (callee_type result)
  unfolding callee_type
  callee_type_blames result =
      chained (sight s.OpenParen) (λ has. either has (either (is_i32 result) variadic_blames (stopped (r.Outside outside.FunctionType) refl)) given)

  callee_by_named : (dotted : Bool) (x : Symbol) (t : Lexeme) → IsNamed (callee_by form dotted x t)
  callee_by_named dotted s.Global t =
      if_named (bytes_eq (name_in t) (codes "main")) (Err (r.Outside outside.CallOfMain)) _ (cause (r.Outside outside.CallOfMain) refl)
      (if_named (dotted && not (is_printf (name_in t))) (Err (r.Outside outside.FunctionType)) (global_name form (name_in t)) (cause (r.Outside outside.FunctionType) refl) (global_named form (name_in t)))
  callee_by_named dotted s.Local t = cause (r.Outside outside.IndirectCall) refl
  callee_by_named dotted s.NumberedLocal t = cause (r.Outside outside.IndirectCall) refl
  callee_by_named dotted x t = refusal_is t

  callee_blames : (dotted : Bool) → Blames (callee form dotted)
  unfolding callee
  callee_blames dotted = judged (λ t. callee_by_named dotted t.symbol t)

  argument_blames : (counted : Bool) (found : List (Ty × Operand)) → Blames (argument form counted found)
  unfolding argument
  argument_blames counted found =
      chained (judged (λ t. within_named (not counted || nat_lt (length found) max_parameters) limit.Parameters (value_type_of t) (value_type_named t)))
      (λ t. chained (attributes_blame form) (λ u. chained (operand_blames t) (λ v. given)))

  arguments_blame : (counted : Bool) → Blames (arguments form counted)
  unfolding arguments
  arguments_blame counted = listed_blame s.CloseParen _ (argument form counted) [] (argument_blames counted)

  debug_blames : Blames (debug_rest form)
  unfolding debug_rest
  debug_blames = chained (sight s.OpenParen) (λ has. either has (after_token (λ u. chained (balanced_blames form s.CloseParen) (λ v. given))) given)

  call_attribute_blames : (x : Symbol) → Blames (call_attribute form x)
  call_attribute_blames s.DebugGroup = debug_blames
  call_attribute_blames x = chained (attribute_rest_blames form x) (λ u. given)

  call_end_blames : Blames (call_end form)
  unfolding call_end
  call_end_blames =
      chained (looped (λ ended t. tt) (λ ended t. call_attribute_blames t.symbol))
      (λ ended. either ended given (chained (seen (λ t. if_named (is s.OpenBracket t) (Err (r.Outside outside.OperandBundle)) (Ok tt) (cause (r.Outside outside.OperandBundle) refl) tt)) (λ u. all_suffixes_blame form false)))

  call_word_blames : (x : Symbol) → Blames (call_word x)
  call_word_blames s.Call = given
  call_word_blames x = word_taken s.Call

  call_blames : (named : Bool) (first : Symbol) → Blames (call_rule form named first)
  unfolding call_rule
  call_blames named first =
      chained (call_word_blames first) (λ u. chained (attributes_blame form) (λ v. chained (call_type_blames named) (λ ret. chained (callee_type_blames ret) (λ dotted. chained (callee_blames dotted) (λ x.
      after_word _ (λ w. chained (arguments_blame _) (λ args. chained call_end_blames (λ marked. given))))))))

  -- ---- phis

  edge_blames : (t : Ty) → Blames (edge form t)
  unfolding edge
  edge_blames t = chained (operand_blames t) (λ v. after_word _ (λ u. chained (local_blames form) (λ from. after_word _ (λ w. given))))

  edge_by_blames : (t : Ty) (found : List (Operand × Name)) (x : Symbol) → Blames (edge_by form t found x)
  edge_by_blames t found s.OpenBracket = after_token (λ u. chained (edge_blames t) (λ e. given))
  edge_by_blames t found x = given

  edge_turn_blames : (t : Ty) (found : List (Operand × Name)) → Blames (edge_turn form t found)
  unfolding edge_turn
  edge_turn_blames t found = by_symbol (edge_by_blames t found)

  phi_blames : Blames (phi_rule form)
  unfolding phi_rule
  phi_blames =
      chained value_type_blames (λ t. after_word _ (λ u. chained (edge_blames t) (λ first. chained (looped (λ e t. tt) (λ e c. edge_turn_blames t e.found)) (λ edges.
      chained (all_suffixes_blame form edges.ended) (λ marked. given)))))

  -- ---- terminators

  target_blames : Blames (target form)
  unfolding target
  target_blames = after_word _ (λ u. local_blames form)

  branch_on_blames : Blames (branch_on form)
  unfolding branch_on
  branch_on_blames =
      chained bit_blames (λ u. chained (operand_blames (Int 1)) (λ c. after_word _ (λ v. chained target_blames (λ to. after_word _ (λ w. chained target_blames (λ other. given))))))

  branch_blames : Blames (branch_rule form)
  unfolding branch_rule
  branch_blames = chained (sight s.LabelWord) (λ plain. either plain (chained target_blames (λ to. given)) branch_on_blames)

  case_blames : (width : ℕ) (found : List (ℕ × Name)) → Blames (case_rest form width found)
  unfolding case_rest
  case_blames width found = chained (number_blames width) (λ n. after_word _ (λ u. chained target_blames (λ to. given)))

  switch_blames : Blames (switch_rule form)
  unfolding switch_rule
  switch_blames =
      chained int_type_blames (λ width. chained (operand_blames (Int width)) (λ v. after_word _ (λ u. chained target_blames (λ other. after_word _ (λ w.
      chained (looped (λ found t. tt) (λ found t. case_blames width found)) (λ cases. after_word _ (λ x. given)))))))

  ret_value_blames : (t : Option Ty) → Blames (ret_value form t)
  ret_value_blames None = given
  ret_value_blames (Some t) = chained (operand_blames t) (λ v. given)

  ret_blames : Blames (ret_rule form)
  unfolding ret_rule
  ret_blames = chained result_type_blames ret_value_blames

  -- ---- lines

  value_line_blames : (a : BodySoFar) (result : Option Name) (rule : Rule Op) → Blames rule → Blames (value_line form a result rule)
  unfolding value_line
  value_line_blames a result rule each = chained (suffixed rule each) (λ m. given)

  marked_line_blames : (a : BodySoFar) (result : Option Name) (rule : Rule Marked) → Blames rule → Blames (marked_line a result rule)
  unfolding marked_line
  marked_line_blames a result rule each = chained each (λ m. given)

  phi_line_blames : (a : BodySoFar) (result : Option Name) → Blames (phi_line form a result)
  unfolding phi_line
  phi_line_blames a result = chained phi_blames (λ m. given)

  call_line_blames : (a : BodySoFar) (result : Option Name) (first : Symbol) → Blames (call_line form a result first)
  unfolding call_line
  call_line_blames a result first = chained (call_blames (is_open result) first) (λ m. given)

  effect_line_blames : (a : BodySoFar) (rule : Rule Op) → Blames rule → Blames (effect_line form a rule)
  unfolding effect_line
  effect_line_blames a rule each = chained (suffixed rule each) (λ m. given)

  end_line_blames : (a : BodySoFar) (rule : Rule Op) → Blames rule → Blames (end_line form a rule)
  unfolding end_line
  end_line_blames a rule each = chained (suffixed rule each) (λ m. given)

  by_word : (a : BodySoFar) (result : Option Name) (x : Symbol) → Blames (instruction_by form a result x)
  by_word a result s.Phi = phi_line_blames a result
  by_word a result s.Icmp = value_line_blames a result (compare_rule form) compare_blames
  by_word a result s.Select = value_line_blames a result (select_rule form) select_blames
  by_word a result s.Freeze = value_line_blames a result (freeze_rule form) freeze_blames
  by_word a result s.Alloca = marked_line_blames a result (alloca_rule form) alloca_blames
  by_word a result s.Load = value_line_blames a result (load_rule form) load_blames
  by_word a result s.Store = effect_line_blames a (store_rule form) store_blames
  by_word a result s.GetElementPtr = marked_line_blames a result (gep_rule form) gep_blames
  by_word a result s.Tail = call_line_blames a result s.Tail
  by_word a result s.MustTail = call_line_blames a result s.MustTail
  by_word a result s.NoTail = call_line_blames a result s.NoTail
  by_word a result s.Call = call_line_blames a result s.Call
  by_word a result s.Br = end_line_blames a (branch_rule form) branch_blames
  by_word a result s.Switch = end_line_blames a (switch_rule form) switch_blames
  by_word a result s.Ret = end_line_blames a (ret_rule form) ret_blames
  by_word a result s.Unreachable = end_line_blames a (give op.Unreachable) given
  by_word a result x = refused

  by_operation : (a : BodySoFar) (result : Option Name) (x : Symbol) (b : Option BinOp) (c : Option CastOp) → Blames (operation_by form a result x b c)
  by_operation a result x (Some b) c = value_line_blames a result (binary_rule form b) (binary_blames b)
  by_operation a result x None (Some c) = value_line_blames a result (cast_rule form c) (cast_blames c)
  by_operation a result x None None = by_word a result x

  instruction_blames : (a : BodySoFar) (result : Option Name) (x : Symbol) → Blames (instruction form a result x)
  unfolding instruction
  instruction_blames a result x = by_operation a result x (binary_op x) (cast_op x)

  named_line_blames : (a : BodySoFar) (n : Name) → Blames (named_line form a n)
  unfolding named_line
  named_line_blames a n = after_word _ (λ u. chained (judged (λ t. or_refused (gives_value a.phis t.symbol) (Ok t.symbol) t tt)) (λ x. instruction_blames a (Some n) x))

  record_line_blames : (a : BodySoFar) → Blames (record_line form a)
  unfolding record_line
  record_line_blames a = after_word _ (λ u. chained (balanced_blames form s.CloseParen) (λ v. given))

  line_by_blames : (b : BodySoFar) (x : Symbol) (t : Lexeme) → Blames (line_by form b x t)
  line_by_blames b s.Label t = given
  line_by_blames b s.NumberedLabel t = given
  line_by_blames b s.DebugGroup t = record_line_blames (opened b)
  line_by_blames b s.Local t = named_line_blames (opened b) _
  line_by_blames b s.NumberedLocal t = named_line_blames (opened b) _
  line_by_blames b x t = instruction_blames (opened b) None x

  line_blames : (b : BodySoFar) (t : Lexeme) → Blames (line form b t)
  unfolding line
  line_blames b t = line_by_blames b t.symbol t

  -- ---- which lines begin

  short_named : (text : Text) → IsNamed (short text)
  short_named text = if_named (name_fits text) (Ok true) (Err (r.Limit limit.Name)) tt (cause (r.Limit limit.Name) refl)

  counted_named : (b : BodySoFar) (v : Verdict Bool) → IsNamed v → IsNamed (counted form b v)
  counted_named b v h = if_named (nat_lt b.count (max_instructions form)) v (Err (r.Limit limit.Instructions)) h (cause (r.Limit limit.Instructions) refl)

  numbered_named : (n : ℕ) (text : Text) (v : Verdict Bool) → IsNamed v → IsNamed (numbered n text v)
  numbered_named n text v h = if_named (decimal text == n) v (Err r.Numbering) h (cause r.Numbering refl)

  unreserved_named : (text : Text) (v : Verdict Bool) → IsNamed v → IsNamed (unreserved form text v)
  unreserved_named text v h = if_named (reserved_local form text) (Err r.Reserved) v (cause r.Reserved refl) h

  begins_named : (b : BodySoFar) (x : Symbol) (t : Lexeme) → IsNamed (line_begins_by form b x t)
  begins_named b s.Label t = if_named (is_open b.name) (Ok false) _ tt (unreserved_named (name_in t) (short (name_in t)) (short_named (name_in t)))
  begins_named b s.NumberedLabel t = if_named (is_open b.name) (Ok false) _ tt (numbered_named b.next (name_in t) (Ok true) tt)
  begins_named b s.DebugGroup t = tt
  begins_named b s.Local t = unreserved_named (name_in t) _ (counted_named b (short (name_in t)) (short_named (name_in t)))
  begins_named b s.NumberedLocal t = numbered_named (opened b).next (name_in t) _ (counted_named b (Ok true) tt)
  begins_named b s.Phi t = if_named (opened b).phis _ (Ok false) (counted_named b (Ok true) tt) tt
  begins_named b x t = if_named (begins_instruction x) _ (Ok false) (counted_named b (Ok true) tt) tt

  line_begins_named : (b : BodySoFar) (t : Lexeme) → IsNamed (line_begins form b t)
  unfolding line_begins
  line_begins_named b t = if_named (numbers_left b.next) (line_begins_by form b t.symbol t) (Err r.Numbering) (begins_named b t.symbol t) (cause r.Numbering refl)

  pub blocks_blame : (start : BodySoFar) → Blames (blocks form start)
  unfolding blocks
  blocks_blame start = chained (looped line_begins_named line_blames) (λ body. either (is_whole body) (after_word _ (λ u. given)) refused)
