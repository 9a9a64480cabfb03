-- Functions, entities and modules: where they stop they name a cause.
use Rattle.std.proofs.Common.{ℕ, ◌+◌, Bool, true, false, not, ◌==◌, length, Ok, Err, refl}
use Rattle.std.specs.Prelude.{nat_lt}
use Rattle.ms_lex.specs.Tokens.{Text}
use Rattle.ms_lex.specs.Numbers.{decimal}
use Rattle.ms_ir.specs.declared.syntax.Name.{Name}
use Rattle.ms_ir.specs.declared.syntax.Name.TheVariants as name
use Rattle.ms_ir.specs.declared.syntax.Module.{Module}
use Rattle.ms_ir.specs.declared.forms.Form.{Form}
use Rattle.ms_text_grammar.specs.declared.refusals.Limit.TheVariants as limit
use Rattle.ms_text_grammar.specs.declared.refusals.Outside.TheVariants as outside
use Rattle.ms_text_grammar.specs.declared.refusals.Cause.{Cause}
use Rattle.ms_text_grammar.specs.declared.refusals.Cause.TheVariants as r
use Rattle.ms_text_grammar.specs.declared.states.Parameters.{Parameters}
use Rattle.ms_text_grammar.specs.declared.states.ModuleSoFar.{ModuleSoFar}
use Rattle.ms_text_grammar.specs.declared.symbols.Symbol.{Symbol}
use Rattle.ms_text_grammar.specs.declared.symbols.Symbol.TheVariants as s
use Rattle.ms_text_grammar.specs.Lexemes.{Lexeme, is, name_in, lexemes_of}
use Rattle.ms_text_grammar.specs.Names.{reserved_global, name_fits, local_by}
use Rattle.ms_text_grammar.specs.Types.{value_type_of}
use Rattle.ms_text_grammar.specs.Skipped.{is_attribute, attached_by}
use Rattle.ms_text_grammar.specs.Insts.{names_printf}
use Rattle.ms_text_grammar.specs.Functions.{no_parameters, has_room, parameter_name_by, parameter_name, typed_parameter, parameter, parameters, linkage_rest, linkage, declaration, tail_rest, function_tail, body_after, function}
use Rattle.ms_text_grammar.specs.Modules.{source_filename, target_entity, attribute_group, node_by, metadata_entity, named_type, global_kind_by, global_suffix_by, global_suffix, global_variable, max_functions, max_globals, room_for_function, global_begins, entity_begins_by, entity_begins, entity_by, entity, module_rule}
use Rattle.ms_text_grammar.specs.Texts.{Stops}
use Rattle.ms_text_laws.proofs.Blames.{IsCause, IsNamed, cause, refusal_is, if_named, or_refused, within_named, mapped_named, Blames, given, judged, seen, chained, either, looped, skipped, sight, word_taken, by_symbol, after_token, after_word, listed_blame}
use Rattle.ms_text_laws.proofs.BlamesParts.{local_named, local_by_named, global_blames, value_type_named, result_type_blames, type_blames, struct_type_blames, init_blames, balanced_blames, attribute_rest_blames, attributes_blame, attached_by_named, meta_blames, attachments_blame, kind_named}
use Rattle.ms_text_laws.proofs.BlamesCode.{blocks_blame}

module _ (form : Form) where
  -- ---- parameters

  name_by_blames : (number : ℕ) (x : Symbol) → Blames (parameter_name_by form number x)
  name_by_blames number s.Local = judged (λ t. local_named form (name_in t))
  name_by_blames number s.NumberedLocal = judged (λ t. if_named (decimal (name_in t) == number) (Ok (name.Number number)) (Err r.Numbering) tt (cause r.Numbering refl))
  name_by_blames number x = given

  name_blames : (number : ℕ) → Blames (parameter_name form number)
  unfolding parameter_name
  name_blames number = by_symbol (name_by_blames number)

  typed_blames : (ps : Parameters) → Blames (typed_parameter form ps)
  unfolding typed_parameter
  typed_blames ps =
      chained (judged (λ t. within_named (has_room ps) limit.Parameters (value_type_of t) (value_type_named t))) (λ t. chained (attributes_blame form) (λ u. chained (name_blames ps.next) (λ n. given)))

  parameter_blames : (dotted : Bool) (ps : Parameters) → Blames (parameter form dotted ps)
  unfolding parameter
  parameter_blames dotted ps = chained (seen (λ t. tt)) (λ dots. either dots (after_token (λ u. given)) (typed_blames ps))

  parameters_blame : (dotted : Bool) → Blames (parameters form dotted)
  unfolding parameters
  parameters_blame dotted = listed_blame s.CloseParen (λ ps. not ps.dots) (parameter form dotted) no_parameters (parameter_blames dotted)

  linkage_rest_blames : (x : Symbol) → Blames (linkage_rest form x)
  linkage_rest_blames s.ExternalWord = given
  linkage_rest_blames x = attribute_rest_blames form x

  linkage_blames : Blames (linkage form)
  unfolding linkage
  linkage_blames = looped (λ u t. tt) (λ u t. linkage_rest_blames t.symbol)

  -- ---- declarations and functions

  declaration_blames : Blames (declaration form)
  unfolding declaration
  declaration_blames =
      chained (attachments_blame form) (λ u. chained linkage_blames (λ v. chained result_type_blames (λ result. chained (global_blames form) (λ n. after_word _ (λ w.
      chained (parameters_blame (names_printf n)) (λ ps. chained (attributes_blame form) (λ x. given)))))))

  tail_rest_blames : (x : Symbol) → Blames (tail_rest form x)
  tail_rest_blames s.Meta = meta_blames
  tail_rest_blames s.NoSanitize = meta_blames
  tail_rest_blames x = attribute_rest_blames form x

  tail_blames : Blames (function_tail form)
  unfolding function_tail
  tail_blames =
      looped (λ u t. if_named (is_attribute t.symbol) (Ok true) (attached_by form t.symbol) tt (attached_by_named form t.symbol)) (λ u t. tail_rest_blames t.symbol)

  function_blames : (before : ℕ) → Blames (function form before)
  unfolding function
  function_blames before =
      chained linkage_blames (λ u. chained result_type_blames (λ result. chained (global_blames form) (λ n. after_word _ (λ v. chained (parameters_blame false) (λ ps. chained tail_blames (λ w.
      after_word _ (λ x. chained (blocks_blame form (body_after ps before)) (λ bs. given))))))))

  -- ---- other entities

  group_blames : Blames (attribute_group form)
  unfolding attribute_group
  group_blames = chained (judged (λ t. or_refused _ (Ok tt) t tt)) (λ u. after_word _ (λ v. after_word _ (λ w. balanced_blames form s.CloseBrace)))

  node_blames : (x : Symbol) → Blames (node_by form x)
  node_blames s.Bang = after_token (λ u. after_word _ (λ v. balanced_blames form s.CloseBrace))
  node_blames x = chained meta_blames (λ u. after_word _ (λ v. balanced_blames form s.CloseParen))

  metadata_blames : Blames (metadata_entity form)
  unfolding metadata_entity
  metadata_blames = after_word _ (λ u. chained (sight s.Distinct) (λ distinct. chained (either distinct skipped given) (λ v. by_symbol node_blames)))

  named_type_blames : (n : Name) → Blames (named_type form n)
  unfolding named_type
  named_type_blames n = after_word _ (λ u. after_word _ (λ v. chained (struct_type_blames form) (λ t. given)))

  kind_by_named : (x : Symbol) (t : Lexeme) → IsNamed (global_kind_by x t)
  kind_by_named s.GlobalWord t = tt
  kind_by_named s.ConstantWord t = tt
  kind_by_named s.ExternalWord t = cause (r.Outside outside.ExternalGlobal) refl
  kind_by_named x t = refusal_is t

  global_suffix_by_blames : (x : Symbol) → Blames (global_suffix_by form x)
  global_suffix_by_blames s.Align = after_token (λ u. word_taken s.Number)
  global_suffix_by_blames s.Section = after_token (λ u. word_taken s.Str)
  global_suffix_by_blames x = chained (judged (kind_named form)) (λ k. meta_blames)

  global_suffix_blames : Blames (global_suffix form)
  unfolding global_suffix
  global_suffix_blames = by_symbol global_suffix_by_blames

  global_variable_blames : (n : Name) → Blames (global_variable form n)
  unfolding global_variable
  global_variable_blames n =
      after_word _ (λ u. chained (looped (λ v t. tt) (λ v t. given)) (λ w. chained (judged (λ t. kind_by_named t.symbol t)) (λ constant. chained (type_blames form 32) (λ t. chained (init_blames form 32 t) (λ i.
      chained (looped (λ v c. tt) (λ v c. global_suffix_blames)) (λ x. given))))))

  -- ---- which entities begin

  room_named : (m : Module) → IsNamed (room_for_function m)
  room_named m = if_named (nat_lt (length m.funcs + length m.decls) max_functions) (Ok true) (Err (r.Limit limit.Functions)) tt (cause (r.Limit limit.Functions) refl)

  global_begins_named : (m : Module) (t : Lexeme) → IsNamed (global_begins form m t)
  global_begins_named m t =
      if_named (reserved_global form (name_in t)) (Err r.Reserved) _ (cause r.Reserved refl)
      (if_named (nat_lt (length m.globals) max_globals) _ (Err (r.Limit limit.Globals))
      (if_named (name_fits (name_in t)) (Ok true) (Err (r.Limit limit.Name)) tt (cause (r.Limit limit.Name) refl)) (cause (r.Limit limit.Globals) refl))

  begins_named : (m : Module) (x : Symbol) (t : Lexeme) → IsNamed (entity_begins_by form m x t)
  begins_named m s.SourceFilename t = tt
  begins_named m s.Target t = tt
  begins_named m s.Attributes t = tt
  begins_named m s.Meta t = tt
  begins_named m s.NoSanitize t = tt
  begins_named m s.Local t = mapped_named _ (local_by form s.Local t) (local_by_named form s.Local t)
  begins_named m s.NumberedLocal t = mapped_named _ (local_by form s.NumberedLocal t) (local_by_named form s.NumberedLocal t)
  begins_named m s.Global t = global_begins_named m t
  begins_named m s.Declare t = room_named m
  begins_named m s.Define t = room_named m
  begins_named m x t = tt

  entity_begins_named : (p : ModuleSoFar) (t : Lexeme) → IsNamed (entity_begins form p t)
  unfolding entity_begins
  entity_begins_named p t = begins_named p.«module» t.symbol t

  entity_by_blames : (p : ModuleSoFar) (x : Symbol) (t : Lexeme) → Blames (entity_by form p x t)
  unfolding source_filename target_entity
  entity_by_blames p s.SourceFilename t = chained (after_word _ (λ u. word_taken s.Str)) (λ v. given)
  entity_by_blames p s.Target t = chained (chained (judged (λ t. or_refused _ (Ok tt) t tt)) (λ u. after_word _ (λ v. word_taken s.Str))) (λ w. given)
  entity_by_blames p s.Attributes t = chained group_blames (λ u. given)
  entity_by_blames p s.Local t = chained (named_type_blames _) (λ x. given)
  entity_by_blames p s.NumberedLocal t = chained (named_type_blames _) (λ x. given)
  entity_by_blames p s.Global t = chained (global_variable_blames _) (λ g. given)
  entity_by_blames p s.Declare t = chained declaration_blames (λ d. given)
  entity_by_blames p s.Define t = chained (function_blames p.count) (λ f. given)
  entity_by_blames p x t = chained metadata_blames (λ u. given)

  entity_blames : (p : ModuleSoFar) (t : Lexeme) → Blames (entity form p t)
  unfolding entity
  entity_blames p t = entity_by_blames p t.symbol t

  module_blames : Blames (module_rule form)
  unfolding module_rule
  module_blames = chained (looped entity_begins_named entity_blames) (λ p. chained (seen (λ t. or_refused (is s.EndOfText t) (Ok tt) t tt)) (λ u. given))

pub stops_named : (form : Form) (text : Text) (k : ℕ) (e : Cause) → Stops form text k e → IsCause e
stops_named form text k e h = (module_blames form).each (lexemes_of text h.0) e h.2.0 h.2.2
