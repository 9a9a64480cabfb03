-- Modules that are read are formed.
use Rattle.std.proofs.Common.{◌≡◌, ℕ, ◌^◌, true, false, cond, ◌&&◌, nat_lt, List, [], length, Ok, Err, IsTrue, refl, ◌∙◌, sym, subst, ap, arith}
use Rattle.std.specs.List.{list_all}
use Rattle.std.proofs.lemmas.Bool.{and_parts, and_from}
use Rattle.ms_lex.specs.Tokens.{Text}
use Rattle.ms_lex.specs.Numbers.{decimal}
use Rattle.ms_lex.specs.Grammar.{give, one, loop}
use Rattle.ms_ir.specs.declared.syntax.Decl.{Decl}
use Rattle.ms_ir.specs.declared.syntax.Func.{Func}
use Rattle.ms_ir.specs.declared.syntax.GlobalVar.{GlobalVar}
use Rattle.ms_ir.specs.declared.syntax.Init.{Init}
use Rattle.ms_ir.specs.declared.syntax.Module.{Module}
use Rattle.ms_ir.specs.declared.syntax.Name.{Name}
use Rattle.ms_ir.specs.declared.syntax.Name.TheVariants as name
use Rattle.ms_ir.specs.declared.syntax.Ty.{Ty}
use Rattle.ms_ir.specs.declared.forms.Form.{Form}
use Rattle.ms_text_grammar.specs.declared.refusals.Limit.TheVariants as limit
use Rattle.ms_text_grammar.specs.declared.refusals.Cause.TheVariants as r
use Rattle.ms_text_grammar.specs.declared.states.ModuleSoFar.{ModuleSoFar}
use Rattle.ms_text_grammar.specs.declared.symbols.Symbol.{Symbol}
use Rattle.ms_text_grammar.specs.declared.symbols.Symbol.TheVariants as s
use Rattle.ms_text_grammar.specs.Lexemes.{Lexeme, name_in, lexemes_of}
use Rattle.ms_text_grammar.specs.Steps.{judge_map, word}
use Rattle.ms_text_grammar.specs.Names.{local_name, number_name, reserved_global, name_fits, text_name}
use Rattle.ms_text_grammar.specs.Types.{type_to, max_depth}
use Rattle.ms_text_grammar.specs.Modules.{named_type, linkage_word_begins, global_kind_of, global_variable, max_globals, entity_begins, entity_begins_by, entity, entity_by, with_type, with_global, with_declaration, with_function, no_parts, module_rule}
use Rattle.ms_text_grammar.specs.Bounds.{WithinLimits}
use Rattle.ms_text_grammar.specs.Texts.{Reads, ReadsUpTo}
use Rattle.ms_text_grammar.proofs.Bounds.{module_within}
use Rattle.ms_check_valid.specs.FormedNames.{are_bytes, is_local_name, is_global_name}
use Rattle.ms_check_valid.specs.FormedCode.{type_formed, init_formed}
use Rattle.ms_check_valid.specs.Formed.{is_struct, named_type_formed, global_formed, decl_formed, func_formed, Formed}
use Rattle.ms_text_laws.proofs.Sound.{IsSound, AllSound, sound_lexemes, sound_rest, loop_keeps, all_pushed, if_good, if_else, if_mapped}
use Rattle.ms_text_laws.proofs.Names.{local_name_formed, global_name_formed}
use Rattle.ms_text_laws.proofs.FormedTypes.{type_formed_to, struct_formed}
use Rattle.ms_text_laws.proofs.FormedValues.{init_formed_to}
use Rattle.ms_text_laws.proofs.Counts.{few_written}
use Rattle.ms_text_laws.proofs.FormedFunctions.{text_named, declaration_formed, function_formed}

-- ---- named types and globals

pub named_type_formed_of : (form : Form) (n : Name) (ts : List Lexeme) (v : Name × Ty) (rest : List Lexeme) → AllSound ts → ReadsUpTo (named_type form n) ts v rest → is_local_name n ≡ true → named_type_formed v ≡ true
unfolding named_type
named_type_formed_of form n ts v rest all h local =
    let at_word = sound_rest (word s.Equals) ts h.0 h.1 all h.2 in
    let at_struct = sound_rest (word s.TypeWord) h.1 h.3.0 h.3.1 at_word h.3.2 in
    let t : Ty = h.3.3.0 in
    let struct = and_parts (is_struct t) (type_formed t) (struct_formed form h.3.1 t h.3.3.1 at_struct h.3.3.2) in
    subst (λ x. named_type_formed x ≡ true) (sym h.3.3.3.0)
    (and_from (is_local_name n && is_struct t) (type_formed t) (and_from (is_local_name n) (is_struct t) local struct.0) struct.1)

pub global_formed_of : (form : Form) (n : Name) (ts : List Lexeme) (v : GlobalVar) (rest : List Lexeme) → AllSound ts → ReadsUpTo (global_variable form n) ts v rest → is_global_name n ≡ true → global_formed v ≡ true
unfolding global_variable
global_formed_of form n ts v rest all h global =
    let at_linkage = sound_rest (word s.Equals) ts h.0 h.1 all h.2 in
    let at_kind = sound_rest (loop linkage_word_begins (λ u t. give tt) tt) h.1 h.3.0 h.3.1 at_linkage h.3.2 in
    let at_type = sound_rest (one global_kind_of) h.3.1 h.3.3.0 h.3.3.1 at_kind h.3.3.2 in
    let t : Ty = h.3.3.3.0 in
    let at_init = sound_rest (type_to form max_depth) h.3.3.1 t h.3.3.3.1 at_type h.3.3.3.2 in
    let i : Init = h.3.3.3.3.0 in
    let type = type_formed_to form max_depth h.3.3.1 t h.3.3.3.1 at_type h.3.3.3.2 in
    let init = init_formed_to form max_depth t h.3.3.3.1 i h.3.3.3.3.1 at_init h.3.3.3.3.2 type in
    subst (λ g. global_formed g ≡ true) (sym h.3.3.3.3.3.3.0)
    (and_from (is_global_name n && type_formed t) (init_formed t i) (and_from (is_global_name n) (type_formed t) global type) init)

-- ---- what the entities so far keep

pub record AllFormed (m : Module) : Type 0 where
  pub types : list_all named_type_formed m.types ≡ true
  pub globals : list_all global_formed m.globals ≡ true
  pub decls : list_all decl_formed m.decls ≡ true
  pub funcs : list_all func_formed m.funcs ≡ true

local_text : (form : Form) (t : Lexeme) → IsSound t → judge_map (λ n. true) (local_name form (name_in t)) ≡ Ok true → is_local_name (name.Text (name_in t)) ≡ true
local_text form t sound h =
    let good = if_mapped (λ (n : Name). true) (local_name form (name_in t)) true h in
    subst (λ n. is_local_name n ≡ true) (text_named form (name_in t) good.0 good.1) (local_name_formed form (name_in t) good.0 sound.bytes good.1)

local_number : (n : ℕ) → judge_map (λ n. true) (number_name n) ≡ Ok true → is_local_name (name.Number n) ≡ true
local_number n h =
    let good = if_mapped (λ (x : Name). true) (number_name n) true h in
    (if_good (nat_lt n (2 ^ 32)) _ _ good.0 good.1).0

text_is_global : (form : Form) (t : Text) → are_bytes t ≡ true → reserved_global form t ≡ false → name_fits t ≡ true → is_global_name (name.Text t) ≡ true
text_is_global form t bytes free fits =
    global_name_formed form t (name.Text t) bytes (ap (λ b. text_name b t) free ∙ ap (λ b. cond b (Ok (name.Text t)) (Err (r.Limit limit.Name))) fits)

module _ (form : Form) (p : ModuleSoFar) (k : AllFormed p.«module») (t : Lexeme) (sound : IsSound t) (ts : List Lexeme) (all : AllSound ts) (v : ModuleSoFar) (rest : List Lexeme) where
  same_kept : v ≡ p → AllFormed v.«module»
  same_kept e = subst (λ q. AllFormed q.«module») (sym e) k

  type_kept : (x : Name × Ty) → named_type_formed x ≡ true → v ≡ with_type p x → AllFormed v.«module»
  type_kept x f e =
      subst (λ q. AllFormed q.«module») (sym e) (record { types = all_pushed named_type_formed p.«module».types x k.types f; globals = k.globals; decls = k.decls; funcs = k.funcs })

  global_kept : (g : GlobalVar) → global_formed g ≡ true → v ≡ with_global p g → AllFormed v.«module»
  global_kept g f e =
      subst (λ q. AllFormed q.«module») (sym e) (record { types = k.types; globals = all_pushed global_formed p.«module».globals g k.globals f; decls = k.decls; funcs = k.funcs })

  decl_kept : (d : Decl) → decl_formed d ≡ true → v ≡ with_declaration p d → AllFormed v.«module»
  decl_kept d f e =
      subst (λ q. AllFormed q.«module») (sym e) (record { types = k.types; globals = k.globals; decls = all_pushed decl_formed p.«module».decls d k.decls f; funcs = k.funcs })

  func_kept : (g : Func) → func_formed g ≡ true → v ≡ with_function p g → AllFormed v.«module»
  func_kept g f e =
      subst (λ q. AllFormed q.«module») (sym e) (record { types = k.types; globals = k.globals; decls = k.decls; funcs = all_pushed func_formed p.«module».funcs g k.funcs f })

  entity_kept_by : (x : Symbol) → entity_begins_by form p.«module» x t ≡ Ok true → ReadsUpTo (entity_by form p x t) ts v rest → AllFormed v.«module»
  entity_kept_by s.SourceFilename g h = same_kept h.3.0
  entity_kept_by s.Target g h = same_kept h.3.0
  entity_kept_by s.Attributes g h = same_kept h.3.0
  entity_kept_by s.Local g h = type_kept h.0 (named_type_formed_of form (name.Text (name_in t)) ts h.0 h.1 all h.2 (local_text form t sound g)) h.3.0
  entity_kept_by s.NumberedLocal g h = type_kept h.0 (named_type_formed_of form (name.Number (decimal (name_in t))) ts h.0 h.1 all h.2 (local_number (decimal (name_in t)) g)) h.3.0
  entity_kept_by s.Global g h =
      let free = if_else (reserved_global form (name_in t)) _ _ true g in
      let room = if_good (nat_lt (length p.«module».globals) max_globals) _ _ true free.1 in
      let fits = if_good (name_fits (name_in t)) _ _ true room.1 in
      global_kept h.0 (global_formed_of form (name.Text (name_in t)) ts h.0 h.1 all h.2 (text_is_global form (name_in t) sound.bytes free.0 fits.0)) h.3.0
  entity_kept_by s.Declare g h = decl_kept h.0 (declaration_formed form ts h.0 h.1 all h.2) h.3.0
  entity_kept_by s.Define g h = func_kept h.0 (function_formed form p.count ts h.0 h.1 all h.2) h.3.0
  entity_kept_by x g h = same_kept h.3.0

  entity_kept : entity_begins form p t ≡ Ok true → ReadsUpTo (entity form p t) ts v rest → AllFormed v.«module»
  unfolding entity_begins entity
  entity_kept g h = entity_kept_by t.symbol g h

-- ---- whole modules

pub module_formed : (form : Form) (ts : List Lexeme) (m : Module) (rest : List Lexeme) → AllSound ts → ReadsUpTo (module_rule form) ts m rest → AllFormed m
unfolding module_rule
module_formed form ts m rest all h =
    let start : ModuleSoFar = no_parts in
    let none : AllFormed start.«module» = record { types = refl; globals = refl; decls = refl; funcs = refl } in
    let kept = loop_keeps (entity_begins form) (entity form) (λ p. AllFormed p.«module»)
    (λ p t us w others begins sound sounds g k. entity_kept form p k t sound us sounds w others begins g) start ts h.0 h.1 all h.2 none in
    subst AllFormed (sym h.3.3.0) kept

pub read_formed : (form : Form) (text : Text) (m : Module) → IsTrue (are_bytes text) → Reads form text m → Formed m
read_formed form text m bytes h =
    let all = module_formed form (lexemes_of text h.0) m [] (sound_lexemes form text h.0 bytes h.1) h.2 in
    let bounds : WithinLimits form m = module_within form text m h in
    let globals = bounds.globals in
    record {
      types = all.types;
      globals = all.globals;
      declarations = all.decls;
      functions = all.funcs;
      few_globals = omega (arith, globals);
      few_operands = few_written form text m h;
    }
