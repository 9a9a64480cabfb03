-- Modules that are read keep the limits.
use Rattle.std.proofs.Common.{◌≡◌, Bool, true, ◌&&◌, [], length, Ok, refl, subst}
use Rattle.std.specs.Prelude.{nat_lt}
use Rattle.std.specs.List.{list_all}
use Rattle.std.proofs.lemmas.Bool.{and_from}
use Rattle.ms_lex.specs.Tokens.{Text}
use Rattle.ms_lex.specs.Numbers.{decimal}
use Rattle.ms_ir.specs.declared.syntax.Name.{Name}
use Rattle.ms_ir.specs.declared.syntax.Name.TheVariants as name
use Rattle.ms_ir.specs.declared.syntax.Ty.{Ty}
use Rattle.ms_ir.specs.declared.syntax.Func.{Func}
use Rattle.ms_ir.specs.declared.syntax.Decl.{Decl}
use Rattle.ms_ir.specs.declared.syntax.GlobalVar.{GlobalVar}
use Rattle.ms_ir.specs.declared.syntax.Module.{Module}
use Rattle.ms_ir.specs.declared.forms.Form.{Form}
use Rattle.ms_text_grammar.specs.declared.states.ModuleSoFar.{ModuleSoFar}
use Rattle.ms_text_grammar.specs.declared.symbols.Symbol.{Symbol}
use Rattle.ms_text_grammar.specs.declared.symbols.Symbol.TheVariants as s
use Rattle.ms_text_grammar.specs.Lexemes.{Lexeme, name_in, lexemes_of}
use Rattle.ms_text_grammar.specs.Steps.{judge_map}
use Rattle.ms_text_grammar.specs.Names.{local_by, reserved_global, name_fits}
use Rattle.ms_text_grammar.specs.Modules.{named_type, global_variable, max_globals, entity_begins, entity_begins_by, entity, entity_by, with_type, with_global, with_declaration, with_function, module_rule}
use Rattle.ms_text_grammar.specs.Texts.{Reads}
use Rattle.ms_text_laws.proofs.Sound.{all_pushed, if_good, if_else, if_mapped}
use Rattle.ms_text_laws.proofs.Brings.{Brings, given, chained, after, looped}
use Rattle.ms_text_laws.proofs.FormedFunctions.{text_named}
use Rattle.ms_text_laws.proofs.SmallNames.{is_small_name, global_small, number_small, local_by_small}
use Rattle.ms_text_laws.proofs.SmallTypes.{is_small_type, type_read, struct_read}
use Rattle.ms_text_laws.proofs.SmallValues.{is_small_init, init_read}
use Rattle.ms_text_laws.proofs.SmallFunctions.{is_small_decl, is_small_func, declaration_read, function_read}

-- ---- named types and globals

abbrev pub is_small_named : Form → Name × Ty → Bool
is_small_named form t = is_small_name form t.0 && is_small_type form 32 t.1

abbrev pub is_small_global : Form → GlobalVar → Bool
is_small_global form g = is_small_name form g.name && is_small_type form 32 g.ty && is_small_init form 32 g.init

named_type_read : (form : Form) (n : Name) → is_small_name form n ≡ true → Brings (named_type form n) (λ t. is_small_named form t ≡ true)
unfolding named_type
named_type_read form n g = after (λ equals. after (λ word. chained (struct_read form) (λ t h. given (and_from (is_small_name form n) (is_small_type form 32 t) g h))))

global_variable_read : (form : Form) (n : Name) → is_small_name form n ≡ true → Brings (global_variable form n) (λ g. is_small_global form g ≡ true)
unfolding global_variable
global_variable_read form n g =
    after (λ equals. after (λ words. after (λ constant. chained (type_read form 32) (λ t h. chained (init_read form 32 t) (λ i k. after (λ over.
    given (and_from (is_small_name form n && is_small_type form 32 t) (is_small_init form 32 i) (and_from (is_small_name form n) (is_small_type form 32 t) g h) k)))))))

-- ---- what the entities so far keep

pub record AllSmall (form : Form) (m : Module) : Type 0 where
  pub types : list_all (is_small_named form) m.types ≡ true
  pub globals : list_all (is_small_global form) m.globals ≡ true
  pub decls : list_all (is_small_decl form) m.decls ≡ true
  pub funcs : list_all (is_small_func form) m.funcs ≡ true

abbrev KeptParts : Form → ModuleSoFar → Type 0
KeptParts form p = AllSmall form p.«module»

module _ (form : Form) (p : ModuleSoFar) (k : KeptParts form p) (t : Lexeme) where
  type_kept : (x : Name × Ty) → is_small_named form x ≡ true → KeptParts form (with_type p x)
  type_kept x h = record { types = all_pushed (is_small_named form) p.«module».types x k.types h; globals = k.globals; decls = k.decls; funcs = k.funcs }

  global_kept : (g : GlobalVar) → is_small_global form g ≡ true → KeptParts form (with_global p g)
  global_kept g h = record { types = k.types; globals = all_pushed (is_small_global form) p.«module».globals g k.globals h; decls = k.decls; funcs = k.funcs }

  decl_kept : (d : Decl) → is_small_decl form d ≡ true → KeptParts form (with_declaration p d)
  decl_kept d h = record { types = k.types; globals = k.globals; decls = all_pushed (is_small_decl form) p.«module».decls d k.decls h; funcs = k.funcs }

  func_kept : (f : Func) → is_small_func form f ≡ true → KeptParts form (with_function p f)
  func_kept f h = record { types = k.types; globals = k.globals; decls = k.decls; funcs = all_pushed (is_small_func form) p.«module».funcs f k.funcs h }

  local_here : judge_map (λ n. true) (local_by form s.Local t) ≡ Ok true → is_small_name form (name.Text (name_in t)) ≡ true
  local_here h =
      let good = if_mapped (λ (n : Name). true) (local_by form s.Local t) true h in
      subst (λ n. is_small_name form n ≡ true) (text_named form (name_in t) good.0 good.1) (local_by_small form s.Local t good.0 good.1)

  entity_by_read : (x : Symbol) → entity_begins_by form p.«module» x t ≡ Ok true → Brings (entity_by form p x t) (KeptParts form)
  entity_by_read s.SourceFilename g = after (λ over. given k)
  entity_by_read s.Target g = after (λ over. given k)
  entity_by_read s.Attributes g = after (λ over. given k)
  entity_by_read s.Local g = chained (named_type_read form (name.Text (name_in t)) (local_here g)) (λ x h. given (type_kept x h))
  entity_by_read s.NumberedLocal g = chained (named_type_read form (name.Number (decimal (name_in t))) (number_small form (decimal (name_in t)))) (λ x h. given (type_kept x h))
  entity_by_read s.Global g =
      let free = if_else (reserved_global form (name_in t)) _ _ true g in
      let room = if_good (nat_lt (length p.«module».globals) max_globals) _ _ true free.1 in
      let fits = if_good (name_fits (name_in t)) _ _ true room.1 in
      chained (global_variable_read form (name.Text (name_in t)) (global_small form (name_in t) free.0 fits.0)) (λ x h. given (global_kept x h))
  entity_by_read s.Declare g = chained (declaration_read form) (λ d h. given (decl_kept d h))
  entity_by_read s.Define g = chained (function_read form p.count) (λ f h. given (func_kept f h))
  entity_by_read x g = after (λ over. given k)

  entity_read : entity_begins form p t ≡ Ok true → Brings (entity form p t) (KeptParts form)
  unfolding entity_begins entity
  entity_read g = entity_by_read t.symbol g

module_read : (form : Form) → Brings (module_rule form) (AllSmall form)
unfolding module_rule
module_read form =
    chained {P = KeptParts form} (looped (record { types = refl; globals = refl; decls = refl; funcs = refl }) (λ p t k e. entity_read form p k t e)) (λ p k. after (λ end. given k))

pub read_small : (form : Form) (text : Text) (m : Module) → Reads form text m → AllSmall form m
read_small form text m h = (module_read form).each (lexemes_of text h.0) m [] h.2
