-- The grammar with larger limits makes of all lexemes what that with smaller ones makes of them, unless this names a limit: bodies, functions
-- and modules.
use Rattle.std.proofs.Common.{◌≡◌, ℕ, ◌+◌, ◌==◌, Bool, true, false, length, Option, Some, None, Ok, Err, refl, inl, inr}
use Rattle.std.specs.Prelude.{nat_lt}
use Rattle.ms_bits.specs.declared.operations.BinOp.{BinOp}
use Rattle.ms_bits.specs.declared.operations.CastOp.{CastOp}
use Rattle.ms_lex.specs.Tokens.{Text}
use Rattle.ms_lex.specs.Numbers.{decimal}
use Rattle.ms_ir.specs.declared.forms.Form.TheVariants.{Instrumented}
use Rattle.ms_ir.specs.declared.syntax.Module.{Module}
use Rattle.ms_ir.specs.declared.syntax.Name.{Name}
use Rattle.ms_ir.specs.declared.syntax.Op.{Op}
use Rattle.ms_text_grammar.specs.declared.refusals.Limit.TheVariants as limit
use Rattle.ms_text_grammar.specs.declared.refusals.Cause.TheVariants as r
use Rattle.ms_text_grammar.specs.declared.states.BodySoFar.{BodySoFar}
use Rattle.ms_text_grammar.specs.declared.states.Parameters.{Parameters}
use Rattle.ms_text_grammar.specs.declared.states.ModuleSoFar.{ModuleSoFar}
use Rattle.ms_text_grammar.specs.declared.symbols.Symbol.{Symbol}
use Rattle.ms_text_grammar.specs.declared.symbols.Symbol.TheVariants as s
use Rattle.ms_text_grammar.specs.Lexemes.{Lexeme, name_in}
use Rattle.ms_text_grammar.specs.Names.{reserved_local, reserved_global}
use Rattle.ms_text_grammar.specs.Steps.{Rule, Verdict, binary_op, cast_op}
use Rattle.ms_text_grammar.specs.Types.{value_type_of}
use Rattle.ms_text_grammar.specs.Insts.{Marked, with_suffixes}
use Rattle.ms_text_grammar.specs.Bodies.{is_open, opened, begins_instruction}
use Rattle.ms_text_grammar.specs.Lines.{value_line, marked_line, effect_line, end_line}
use Rattle.ms_text_laws.proofs.Limited.{Limits, local_by, counted, short, line_begins_by, numbers_left, line_begins, phi_line, call_line, instruction_by, operation_by, instruction, named_line, line_by, line, blocks, has_room, parameter_type_of, parameter_name_by, parameter_name, typed_parameter, parameter, parameters, declaration, function, named_type, global_variable, room_for_function, global_begins, entity_begins_by, entity_begins, entity_by, entity, module_rule}
use Rattle.ms_text_laws.proofs.Agreeing.{Near, Looser, same, taken, next, repeated, either, listed_looser, names_limit, less_still, both_still, else_near, then_near, room_near, within_near, mapped_near}
use Rattle.ms_text_laws.proofs.LargerLimits.{NoMore, local_name_near, local_by_near, global_looser, struct_type_looser, whole_type_looser, whole_init_looser, binary_looser, compare_looser, cast_looser, select_looser, freeze_looser, load_looser, store_looser, gep_looser, alloca_looser, call_looser, phi_looser, branch_looser, switch_looser, ret_looser}

-- ---- lines

with_suffixes_looser : {f g : Rule Op} → Looser f g → Looser (with_suffixes Instrumented f) (with_suffixes Instrumented g)
unfolding with_suffixes
with_suffixes_looser p = next p (λ o. same)

value_line_looser : (body : BodySoFar) (result : Option Name) {f g : Rule Op} → Looser f g → Looser (value_line Instrumented body result f) (value_line Instrumented body result g)
unfolding value_line
value_line_looser body result p = next (with_suffixes_looser p) (λ m. same)

marked_line_looser : (body : BodySoFar) (result : Option Name) {f g : Rule Marked} → Looser f g → Looser (marked_line body result f) (marked_line body result g)
unfolding marked_line
marked_line_looser body result p = next p (λ m. same)

effect_line_looser : (body : BodySoFar) {f g : Rule Op} → Looser f g → Looser (effect_line Instrumented body f) (effect_line Instrumented body g)
unfolding effect_line
effect_line_looser body p = next (with_suffixes_looser p) (λ m. same)

end_line_looser : (body : BodySoFar) {f g : Rule Op} → Looser f g → Looser (end_line Instrumented body f) (end_line Instrumented body g)
unfolding end_line
end_line_looser body p = next (with_suffixes_looser p) (λ m. same)

module _ (a b : Limits) (up : NoMore a b) where
  -- ---- bodies

  short_near : (text : Text) → Near (short a text) (short b text)
  short_near text =
      room_near (nat_lt (length text) a.names) (nat_lt (length text) b.names) (Ok true) (Ok true) (r.Limit limit.Name) (names_limit limit.Name) (less_still (length text) a.names b.names up.names) (inl refl)

  counted_near : (body : BodySoFar) (v w : Verdict Bool) → Near v w → Near (counted a body v) (counted b body w)
  counted_near body v w near =
      room_near (nat_lt body.count a.instructions) (nat_lt body.count b.instructions) v w (r.Limit limit.Instructions) (names_limit limit.Instructions)
      (less_still body.count a.instructions b.instructions up.instructions) near

  line_begins_by_near : (body : BodySoFar) (x : Symbol) (t : Lexeme) → Near (line_begins_by a body x t) (line_begins_by b body x t)
  line_begins_by_near body s.Label t = else_near (is_open body.name) (Ok false) _ _ (else_near (reserved_local Instrumented (name_in t)) (Err r.Reserved) _ _ (short_near (name_in t)))
  line_begins_by_near body s.Local t = else_near (reserved_local Instrumented (name_in t)) (Err r.Reserved) _ _ (counted_near body _ _ (short_near (name_in t)))
  line_begins_by_near body s.NumberedLocal t = then_near (decimal (name_in t) == (opened body).next) _ _ (Err r.Numbering) (counted_near body (Ok true) (Ok true) (inl refl))
  line_begins_by_near body s.Phi t = then_near (opened body).phis _ _ (Ok false) (counted_near body (Ok true) (Ok true) (inl refl))
  line_begins_by_near body s.NumberedLabel t = inl refl
  line_begins_by_near body s.DebugGroup t = inl refl
  line_begins_by_near body x t = then_near (begins_instruction x) _ _ (Ok false) (counted_near body (Ok true) (Ok true) (inl refl))

  line_begins_near : (body : BodySoFar) (t : Lexeme) → Near (line_begins a body t) (line_begins b body t)
  unfolding line_begins
  line_begins_near body t =
      room_near (numbers_left a body.next) (numbers_left b body.next) _ _ r.Numbering (inr refl) (less_still body.next a.numbers b.numbers up.numbers) (line_begins_by_near body t.symbol t)

  phi_line_looser : (body : BodySoFar) (result : Option Name) → Looser (phi_line a body result) (phi_line b body result)
  unfolding phi_line
  phi_line_looser body result = next (phi_looser a b up) (λ m. same)

  call_line_looser : (body : BodySoFar) (result : Option Name) (first : Symbol) → Looser (call_line a body result first) (call_line b body result first)
  unfolding call_line
  call_line_looser body result first = next (call_looser a b up _ first) (λ m. same)

  by_word_looser : (body : BodySoFar) (result : Option Name) (x : Symbol) → Looser (instruction_by a body result x) (instruction_by b body result x)
  by_word_looser body result s.Phi = phi_line_looser body result
  by_word_looser body result s.Icmp = value_line_looser body result (compare_looser a b up)
  by_word_looser body result s.Select = value_line_looser body result (select_looser a b up)
  by_word_looser body result s.Freeze = value_line_looser body result (freeze_looser a b up)
  by_word_looser body result s.Alloca = marked_line_looser body result (alloca_looser a b up)
  by_word_looser body result s.Load = value_line_looser body result (load_looser a b up)
  by_word_looser body result s.Store = effect_line_looser body (store_looser a b up)
  by_word_looser body result s.GetElementPtr = marked_line_looser body result (gep_looser a b up)
  by_word_looser body result s.Tail = call_line_looser body result _
  by_word_looser body result s.MustTail = call_line_looser body result _
  by_word_looser body result s.NoTail = call_line_looser body result _
  by_word_looser body result s.Call = call_line_looser body result _
  by_word_looser body result s.Br = end_line_looser body (branch_looser a b up)
  by_word_looser body result s.Switch = end_line_looser body (switch_looser a b up)
  by_word_looser body result s.Ret = end_line_looser body (ret_looser a b up)
  by_word_looser body result x = same

  operation_looser : (body : BodySoFar) (result : Option Name) (x : Symbol) (o : Option BinOp) (c : Option CastOp) → Looser (operation_by a body result x o c) (operation_by b body result x o c)
  operation_looser body result x (Some o) c = value_line_looser body result (binary_looser a b up o)
  operation_looser body result x None (Some o) = value_line_looser body result (cast_looser a b up o)
  operation_looser body result x None None = by_word_looser body result x

  instruction_looser : (body : BodySoFar) (result : Option Name) (x : Symbol) → Looser (instruction a body result x) (instruction b body result x)
  unfolding instruction
  instruction_looser body result x = operation_looser body result x (binary_op x) (cast_op x)

  named_line_looser : (body : BodySoFar) (n : Name) → Looser (named_line a body n) (named_line b body n)
  unfolding named_line
  named_line_looser body n = next same (λ u. next same (λ x. instruction_looser body (Some n) x))

  line_by_looser : (body : BodySoFar) (x : Symbol) (t : Lexeme) → Looser (line_by a body x t) (line_by b body x t)
  line_by_looser body s.Label t = same
  line_by_looser body s.NumberedLabel t = same
  line_by_looser body s.DebugGroup t = same
  line_by_looser body s.Local t = named_line_looser (opened body) _
  line_by_looser body s.NumberedLocal t = named_line_looser (opened body) _
  line_by_looser body x t = instruction_looser (opened body) None x

  line_looser : (body : BodySoFar) (t : Lexeme) → Looser (line a body t) (line b body t)
  unfolding line
  line_looser body t = line_by_looser body t.symbol t

  blocks_looser : (start : BodySoFar) → Looser (blocks a start) (blocks b start)
  unfolding blocks
  blocks_looser start = next (repeated (λ body t. line_begins_near body t) (λ body t. line_looser body t)) (λ body. same)

  -- ---- functions

  room_still : (ps : Parameters) → has_room a ps ≡ true → has_room b ps ≡ true
  room_still ps =
      both_still (nat_lt (length ps.found) a.parameters) (nat_lt ps.next a.parameters) (nat_lt (length ps.found) b.parameters) (nat_lt ps.next b.parameters)
      (less_still (length ps.found) a.parameters b.parameters up.parameters) (less_still ps.next a.parameters b.parameters up.parameters)

  parameter_type_near : (ps : Parameters) (t : Lexeme) → Near (parameter_type_of a ps t) (parameter_type_of b ps t)
  parameter_type_near ps t = within_near (has_room a ps) (has_room b ps) limit.Parameters (value_type_of t) (room_still ps)

  parameter_name_by_looser : (n : ℕ) (x : Symbol) → Looser (parameter_name_by a n x) (parameter_name_by b n x)
  parameter_name_by_looser n s.Local = taken (λ t. local_name_near a b up (name_in t))
  parameter_name_by_looser n x = same

  parameter_name_looser : (n : ℕ) → Looser (parameter_name a n) (parameter_name b n)
  unfolding parameter_name
  parameter_name_looser n = next same (λ x. parameter_name_by_looser n x)

  typed_parameter_looser : (ps : Parameters) → Looser (typed_parameter a ps) (typed_parameter b ps)
  unfolding typed_parameter
  typed_parameter_looser ps = next (taken (λ t. parameter_type_near ps t)) (λ t. next same (λ u. next (parameter_name_looser _) (λ n. same)))

  parameter_looser : (dotted : Bool) (ps : Parameters) → Looser (parameter a dotted ps) (parameter b dotted ps)
  unfolding parameter
  parameter_looser dotted ps = next same (λ dots. either dots same (typed_parameter_looser ps))

  parameters_looser : (dotted : Bool) → Looser (parameters a dotted) (parameters b dotted)
  unfolding parameters
  parameters_looser dotted = listed_looser _ _ _ (λ ps. parameter_looser dotted ps)

  declaration_looser : Looser (declaration a) (declaration b)
  unfolding declaration
  declaration_looser = next same (λ u. next same (λ w. next same (λ result. next (global_looser a b up) (λ f. next same (λ x. next (parameters_looser _) (λ ps. same))))))

  function_looser : (before : ℕ) → Looser (function a before) (function b before)
  unfolding function
  function_looser before =
      next same (λ u. next same (λ result. next (global_looser a b up) (λ n. next same (λ w. next (parameters_looser false) (λ ps. next same (λ x. next same (λ y. next (blocks_looser _) (λ all. same))))))))

  -- ---- modules

  named_type_looser : (n : Name) → Looser (named_type a n) (named_type b n)
  unfolding named_type
  named_type_looser n = next same (λ u. next same (λ w. next (struct_type_looser a b up) (λ t. same)))

  global_variable_looser : (n : Name) → Looser (global_variable a n) (global_variable b n)
  unfolding global_variable
  global_variable_looser n = next same (λ u. next same (λ w. next same (λ c. next (whole_type_looser a b up) (λ t. next (whole_init_looser a b up t) (λ i. same)))))

  room_for_function_near : (m : Module) → Near (room_for_function a m) (room_for_function b m)
  room_for_function_near m =
      room_near (nat_lt (length m.funcs + length m.decls) a.functions) (nat_lt (length m.funcs + length m.decls) b.functions) (Ok true) (Ok true) (r.Limit limit.Functions) (names_limit limit.Functions)
      (less_still (length m.funcs + length m.decls) a.functions b.functions up.functions) (inl refl)

  global_begins_near : (m : Module) (t : Lexeme) → Near (global_begins a m t) (global_begins b m t)
  global_begins_near m t =
      else_near (reserved_global Instrumented (name_in t)) (Err r.Reserved) _ _
      (room_near (nat_lt (length m.globals) a.globals) (nat_lt (length m.globals) b.globals) _ _ (r.Limit limit.Globals) (names_limit limit.Globals)
      (less_still (length m.globals) a.globals b.globals up.globals) (short_near (name_in t)))

  entity_begins_by_near : (m : Module) (x : Symbol) (t : Lexeme) → Near (entity_begins_by a m x t) (entity_begins_by b m x t)
  entity_begins_by_near m s.Local t = mapped_near (λ n. true) (local_by a s.Local t) (local_by b s.Local t) (local_by_near a b up s.Local t)
  entity_begins_by_near m s.NumberedLocal t = mapped_near (λ n. true) (local_by a s.NumberedLocal t) (local_by b s.NumberedLocal t) (local_by_near a b up s.NumberedLocal t)
  entity_begins_by_near m s.Global t = global_begins_near m t
  entity_begins_by_near m s.Declare t = room_for_function_near m
  entity_begins_by_near m s.Define t = room_for_function_near m
  entity_begins_by_near m x t = inl refl

  entity_begins_near : (p : ModuleSoFar) (t : Lexeme) → Near (entity_begins a p t) (entity_begins b p t)
  unfolding entity_begins
  entity_begins_near p t = entity_begins_by_near p.«module» t.symbol t

  entity_by_looser : (p : ModuleSoFar) (x : Symbol) (t : Lexeme) → Looser (entity_by a p x t) (entity_by b p x t)
  entity_by_looser p s.SourceFilename t = same
  entity_by_looser p s.Target t = same
  entity_by_looser p s.Attributes t = same
  entity_by_looser p s.Local t = next (named_type_looser _) (λ x. same)
  entity_by_looser p s.NumberedLocal t = next (named_type_looser _) (λ x. same)
  entity_by_looser p s.Global t = next (global_variable_looser _) (λ g. same)
  entity_by_looser p s.Declare t = next declaration_looser (λ d. same)
  entity_by_looser p s.Define t = next (function_looser p.count) (λ f. same)
  entity_by_looser p x t = same

  entity_looser : (p : ModuleSoFar) (t : Lexeme) → Looser (entity a p t) (entity b p t)
  unfolding entity
  entity_looser p t = entity_by_looser p t.symbol t

  pub module_looser : Looser (module_rule a) (module_rule b)
  unfolding module_rule
  module_looser = next (repeated (λ p t. entity_begins_near p t) (λ p t. entity_looser p t)) (λ parts. same)
