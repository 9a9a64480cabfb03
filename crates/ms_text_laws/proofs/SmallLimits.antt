-- A module that is read keeps the limits, and has neither a mark nor a reserved name if its text is plain.
use Rattle.std.proofs.Common.{◌≡◌, ◌≤◌, ℕ, zero, suc, ◌^◌, Bool, true, false, not, ◌&&◌, List, [], ◌∷◌, ◌++◌, drop, map, flat_map, length, Option, Some, None, refl, arith, lit≤}
use Rattle.std.specs.Prelude.{nat_le, slice_get, option_map, unwrap_or}
use Rattle.std.specs.List.{list_all, cons_option}
use Rattle.std.proofs.lemmas.Bool.{and_parts, and_from}
use Rattle.ms_lex.specs.Tokens.{Text}
use Rattle.ms_ir.specs.declared.syntax.Name.{Name}
use Rattle.ms_ir.specs.declared.syntax.Ty.{Ty}
use Rattle.ms_ir.specs.declared.syntax.Inst.{Inst}
use Rattle.ms_ir.specs.declared.syntax.Block.{Block}
use Rattle.ms_ir.specs.declared.syntax.Func.{Func}
use Rattle.ms_ir.specs.declared.syntax.Decl.{Decl}
use Rattle.ms_ir.specs.declared.syntax.GlobalVar.{GlobalVar}
use Rattle.ms_ir.specs.declared.syntax.Module.{Module}
use Rattle.ms_ir.specs.Names.{is_reserved}
use Rattle.ms_ir.specs.Instructions.{blocks_at, insts_at, HeadUnmarked, NoMarks}
use Rattle.ms_ir.specs.Written.{Mention, type_mentions, init_mentions, mentions, op_types}
use Rattle.ms_ir.specs.Locals.{results, block_locals, parameter_names, locals, func_insts, global_names, declared_names, function_names, symbols, type_names}
use Rattle.ms_ir.specs.declared.forms.Form.{Form}
use Rattle.ms_ir.specs.declared.forms.Form.TheVariants.{Plain, Instrumented}
use Rattle.ms_text_grammar.specs.Bodies.{max_instructions}
use Rattle.ms_text_grammar.specs.Bounds.{WithinLimits}
use Rattle.ms_text_grammar.specs.Texts.{Reads, max_tokens}
use Rattle.ms_text_grammar.proofs.Bounds.{module_within}
use Rattle.ms_check_valid.specs.NamesKnown.{global_mentions}
use Rattle.ms_check_valid.specs.ReadLimits.{mentioned, type_depth, init_depth, is_short, is_shallow_global, are_shallow, few_indices, few_init_indices, func_names, module_names, ReadLimits}
use Rattle.ms_check_valid.specs.Uninstrumented.{names_are_free, IsUninstrumented, CanInstrument}
use Rattle.ms_text_laws.specs.Fits.{few_arguments, FitsForm}
use Rattle.ms_text_laws.proofs.Counts.{few_operands, counted_funcs}
use Rattle.ms_text_laws.proofs.SmallNames.{is_small_name, small_mentions, all_joined, all_so, all_among, all_mapped}
use Rattle.ms_text_laws.proofs.SmallTypes.{is_small_type, small_parts}
use Rattle.ms_text_laws.proofs.SmallValues.{are_shallow_types, is_small_init, init_parts}
use Rattle.ms_text_laws.proofs.SmallOps.{is_small_op}
use Rattle.ms_text_laws.proofs.SmallRules.{may_have}
use Rattle.ms_text_laws.proofs.SmallBodies.{is_small_result, is_small_inst, is_small_block}
use Rattle.ms_text_laws.proofs.SmallFunctions.{is_small_decl, is_small_func}
use Rattle.ms_text_laws.proofs.SmallModules.{is_small_named, is_small_global, AllSmall, read_small}

module _ (form : Form) where
  -- ---- what an instruction keeps

  record InstKeeps (inst : Inst) : Type 0 where
    named : small_mentions form (mentions inst.op) ≡ true
    few : few_indices inst.op ≡ true
    shallow : are_shallow_types 32 (op_types inst.op) ≡ true
    arguments : few_arguments inst.op ≡ true
    result : is_small_result form inst.result ≡ true
    mark : may_have form inst.marked ≡ true

  inst_keeps : (inst : Inst) → is_small_inst form inst ≡ true → InstKeeps inst
  inst_keeps inst h =
      let o = inst.op in
      let marked = and_parts (is_small_op form o && is_small_result form inst.result) (may_have form inst.marked) h in
      let named = and_parts (is_small_op form o) (is_small_result form inst.result) marked.0 in
      let counted = and_parts (small_mentions form (mentions o) && few_indices o && are_shallow_types 32 (op_types o)) (few_arguments o) named.0 in
      let deep = and_parts (small_mentions form (mentions o) && few_indices o) (are_shallow_types 32 (op_types o)) counted.0 in
      let first = and_parts (small_mentions form (mentions o)) (few_indices o) deep.0 in
      record { named = first.0; few = first.1; shallow = deep.1; arguments = counted.1; result = named.1; mark = marked.1 }

  -- ---- what a function keeps

  record FuncKeeps (f : Func) : Type 0 where
    own : is_small_name form f.name ≡ true
    few : nat_le (length f.params) 100 ≡ true
    params : list_all (λ p. is_small_name form p.1) f.params ≡ true
    blocks : list_all (is_small_block form) f.blocks ≡ true

  func_keeps : (f : Func) → is_small_func form f ≡ true → FuncKeeps f
  func_keeps f h =
      let params = list_all (λ p. is_small_name form p.1) f.params in
      let all = and_parts (is_small_name form f.name && nat_le (length f.params) 100 && params) (list_all (is_small_block form) f.blocks) h in
      let named = and_parts (is_small_name form f.name && nat_le (length f.params) 100) params all.0 in
      let first = and_parts (is_small_name form f.name) (nat_le (length f.params) 100) named.0 in
      record { own = first.0; few = first.1; params = named.1; blocks = all.1 }

  block_keeps : (b : Block) → is_small_block form b ≡ true → (is_small_name form b.name ≡ true) × (list_all (is_small_inst form) b.insts ≡ true)
  block_keeps b h = and_parts (is_small_name form b.name) (list_all (is_small_inst form) b.insts) h

  insts_keep : (f : Func) → is_small_func form f ≡ true → list_all (is_small_inst form) (func_insts f) ≡ true
  insts_keep f h = all_among (is_small_block form) (is_small_inst form) (λ b. b.insts) (λ b k. (block_keeps b k).1) f.blocks (func_keeps f h).blocks

  -- each instruction of a function passes a test
  insts_pass : (test : Inst → Bool) → ((inst : Inst) → InstKeeps inst → test inst ≡ true) → (f : Func) → is_small_func form f ≡ true → list_all test (func_insts f) ≡ true
  insts_pass test each f h = all_so (is_small_inst form) test (λ inst k. each inst (inst_keeps inst k)) (func_insts f) (insts_keep f h)

  -- ---- names

  option_small : (x : Option Name) (names : List Name) → is_small_result form x ≡ true → list_all (is_small_name form) names ≡ true → list_all (is_small_name form) (cons_option x names) ≡ true
  option_small None names h k = k
  option_small (Some x) names h k = and_from (is_small_name form x) (list_all (is_small_name form) names) h k

  results_small : (insts : List Inst) → list_all (is_small_inst form) insts ≡ true → list_all (is_small_name form) (results insts) ≡ true
  results_small [] h = refl
  results_small (inst ∷ rest) h =
      let parts = and_parts (is_small_inst form inst) (list_all (is_small_inst form) rest) h in
      option_small inst.result (results rest) (inst_keeps inst parts.0).result (results_small rest parts.1)

  block_locals_small : (b : Block) → is_small_block form b ≡ true → list_all (is_small_name form) (block_locals b) ≡ true
  block_locals_small b h =
      let parts = block_keeps b h in
      and_from (is_small_name form b.name) (list_all (is_small_name form) (results b.insts)) parts.0 (results_small b.insts parts.1)

  locals_small : (f : Func) → is_small_func form f ≡ true → list_all (is_small_name form) (locals f) ≡ true
  locals_small f h =
      let k = func_keeps f h in
      all_joined (is_small_name form) (parameter_names f) (flat_map block_locals f.blocks)
      (all_mapped (λ (p : Ty × Name). is_small_name form p.1) (is_small_name form) (λ p. p.1) (λ p e. e) f.params k.params)
      (all_among (is_small_block form) (is_small_name form) block_locals block_locals_small f.blocks k.blocks)

  -- names where they are used
  mentions_small : (xs : List Mention) → small_mentions form xs ≡ true → list_all (is_small_name form) (map mentioned xs) ≡ true
  mentions_small xs h = all_mapped (λ x. is_small_name form (mentioned x)) (is_small_name form) mentioned (λ x e. e) xs h

  func_names_small : (f : Func) → is_small_func form f ≡ true → list_all (is_small_name form) (func_names f) ≡ true
  func_names_small f h =
      all_joined (is_small_name form) (locals f) (map mentioned (flat_map (λ inst. mentions inst.op) (func_insts f))) (locals_small f h)
      (mentions_small (flat_map (λ inst. mentions inst.op) (func_insts f))
      (all_among (is_small_inst form) (λ x. is_small_name form (mentioned x)) (λ inst. mentions inst.op) (λ inst k. (inst_keeps inst k).named) (func_insts f) (insts_keep f h)))

  -- ---- what other entities keep

  named_keeps : (t : Name × Ty) → is_small_named form t ≡ true → (is_small_name form t.0 ≡ true) × (is_small_type form 32 t.1 ≡ true)
  named_keeps t h = and_parts (is_small_name form t.0) (is_small_type form 32 t.1) h

  global_keeps : (g : GlobalVar) → is_small_global form g ≡ true → (is_small_name form g.name ≡ true) × (is_small_type form 32 g.ty ≡ true) × (is_small_init form 32 g.init ≡ true)
  global_keeps g h =
      let all = and_parts (is_small_name form g.name && is_small_type form 32 g.ty) (is_small_init form 32 g.init) h in
      let first = and_parts (is_small_name form g.name) (is_small_type form 32 g.ty) all.0 in
      (first.0, first.1, all.1)

  decl_keeps : (d : Decl) → is_small_decl form d ≡ true → (is_small_name form d.name ≡ true) × (nat_le (length d.params) 100 ≡ true)
  decl_keeps d h = and_parts (is_small_name form d.name) (nat_le (length d.params) 100) h

  global_named : (g : GlobalVar) → is_small_global form g ≡ true → small_mentions form (global_mentions g) ≡ true
  global_named g h =
      let k = global_keeps g h in
      all_joined (λ x. is_small_name form (mentioned x)) (type_mentions g.ty) (init_mentions g.init) (small_parts form 32 g.ty k.1).1 (init_parts form 32 g.init k.2).2

  global_shallow : (g : GlobalVar) → is_small_global form g ≡ true → is_shallow_global g ≡ true
  global_shallow g h =
      let k = global_keeps g h in
      and_from (nat_le (type_depth g.ty) 32) (nat_le (init_depth g.init) 32) (small_parts form 32 g.ty k.1).0 (init_parts form 32 g.init k.2).0

  -- ---- what a module keeps

  module _ (m : Module) (k : AllSmall form m) where
    symbols_small : list_all (is_small_name form) (symbols m) ≡ true
    symbols_small =
        let globals = all_mapped (is_small_global form) (is_small_name form) (λ (g : GlobalVar). g.name) (λ g h. (global_keeps g h).0) m.globals k.globals in
        let decls = all_mapped (is_small_decl form) (is_small_name form) (λ (d : Decl). d.name) (λ d h. (decl_keeps d h).0) m.decls k.decls in
        let funcs = all_mapped (is_small_func form) (is_small_name form) (λ (f : Func). f.name) (λ f h. (func_keeps f h).own) m.funcs k.funcs in
        all_joined (is_small_name form) (global_names m) (declared_names m ++ function_names m) globals (all_joined (is_small_name form) (declared_names m) (function_names m) decls funcs)

    outside_small : list_all (is_small_name form) (map mentioned (flat_map (λ t. type_mentions t.1) m.types ++ flat_map global_mentions m.globals)) ≡ true
    outside_small =
        mentions_small (flat_map (λ t. type_mentions t.1) m.types ++ flat_map global_mentions m.globals)
        (all_joined (λ x. is_small_name form (mentioned x)) (flat_map (λ t. type_mentions t.1) m.types) (flat_map global_mentions m.globals)
        (all_among (is_small_named form) (λ x. is_small_name form (mentioned x)) (λ t. type_mentions t.1) (λ t h. (small_parts form 32 t.1 (named_keeps t h).1).1) m.types k.types)
        (all_among (is_small_global form) (λ x. is_small_name form (mentioned x)) global_mentions global_named m.globals k.globals))

    pub names_small : list_all (is_small_name form) (module_names m) ≡ true
    names_small =
        let types = all_mapped (is_small_named form) (is_small_name form) (λ (t : Name × Ty). t.0) (λ t h. (named_keeps t h).0) m.types k.types in
        let funcs = all_among (is_small_func form) (is_small_name form) func_names func_names_small m.funcs k.funcs in
        all_joined (is_small_name form) (type_names m ++ symbols m) _ (all_joined (is_small_name form) (type_names m) (symbols m) types symbols_small)
        (all_joined (is_small_name form) _ (flat_map func_names m.funcs) outside_small funcs)

    pub few_parameters : list_all (λ f. nat_le (length f.params) 100) m.funcs ≡ true
    few_parameters = all_so (is_small_func form) (λ f. nat_le (length f.params) 100) (λ f h. (func_keeps f h).few) m.funcs k.funcs

    parameters_kept : (list_all (λ f. nat_le (length f.params) 100) m.funcs && list_all (λ d. nat_le (length d.params) 100) m.decls) ≡ true
    parameters_kept =
        and_from (list_all (λ f. nat_le (length f.params) 100) m.funcs) (list_all (λ d. nat_le (length d.params) 100) m.decls) few_parameters
        (all_so (is_small_decl form) (λ d. nat_le (length d.params) 100) (λ d h. (decl_keeps d h).1) m.decls k.decls)

    nested_kept : (are_shallow (map (λ t. t.1) m.types) && list_all is_shallow_global m.globals && are_shallow (flat_map (λ f. flat_map (λ inst. op_types inst.op) (func_insts f)) m.funcs)) ≡ true
    nested_kept =
        let shallow : Ty → Bool = λ t. nat_le (type_depth t) 32 in
        let types = all_mapped (is_small_named form) shallow (λ (t : Name × Ty). t.1) (λ t h. (small_parts form 32 t.1 (named_keeps t h).1).0) m.types k.types in
        let globals = all_so (is_small_global form) is_shallow_global global_shallow m.globals k.globals in
        let funcs = all_among (is_small_func form) shallow (λ f. flat_map (λ inst. op_types inst.op) (func_insts f))
        (λ f h. all_among (is_small_inst form) shallow (λ inst. op_types inst.op) (λ inst i. (inst_keeps inst i).shallow) (func_insts f) (insts_keep f h)) m.funcs k.funcs in
        and_from (are_shallow (map (λ t. t.1) m.types) && list_all is_shallow_global m.globals) _ (and_from (are_shallow (map (λ t. t.1) m.types)) (list_all is_shallow_global m.globals) types globals) funcs

    indices_kept : (list_all (λ g. few_init_indices g.init) m.globals && list_all (λ f. list_all (λ inst. few_indices inst.op) (func_insts f)) m.funcs) ≡ true
    indices_kept =
        and_from (list_all (λ g. few_init_indices g.init) m.globals) _
        (all_so (is_small_global form) (λ g. few_init_indices g.init) (λ g h. (init_parts form 32 g.init (global_keeps g h).2).1) m.globals k.globals)
        (all_so (is_small_func form) (λ f. list_all (λ inst. few_indices inst.op) (func_insts f)) (λ f h. insts_pass (λ inst. few_indices inst.op) (λ inst i. i.few) f h) m.funcs k.funcs)

    pub arguments_kept : list_all (λ f. list_all (λ inst. few_arguments inst.op) (func_insts f)) m.funcs ≡ true
    arguments_kept =
        all_so (is_small_func form) (λ f. list_all (λ inst. few_arguments inst.op) (func_insts f)) (λ f h. insts_pass (λ inst. few_arguments inst.op) (λ inst i. i.arguments) f h) m.funcs k.funcs

-- ---- the limits of a form

short_of : (form : Form) (x : Name) → is_small_name form x ≡ true → is_short x ≡ true
short_of Plain x h = (and_parts (is_short x) (not (is_reserved x)) h).0
short_of Instrumented x h = h

limits_from : (form : Form) (most : ℕ) (m : Module) → max_instructions form ≤ most → WithinLimits form m → AllSmall form m → ReadLimits most m
limits_from form most m room bounds k =
    let same = counted_funcs m.funcs in
    let few = bounds.instructions in
    record {
      count = omega (arith, same, few, room);
      functions = bounds.functions;
      globals = bounds.globals;
      parameters = parameters_kept form m k;
      nested = nested_kept form m k;
      indices = indices_kept form m k;
      names = all_so (is_small_name form) is_short (short_of form) (module_names m) (names_small form m k);
    }

pub read_limits : (form : Form) (text : Text) (m : Module) → Reads form text m → ReadLimits (max_instructions form) m
read_limits form text m h = limits_from form (max_instructions form) m (omega arith) (module_within form text m h) (read_small form text m h)

most_of : (form : Form) → max_instructions form ≤ max_instructions Instrumented
unfolding max_instructions
most_of Plain = lit≤ tt
most_of Instrumented = lit≤ tt

pub read_fits : (form : Form) (text : Text) (m : Module) → Reads form text m → FitsForm m
read_fits form text m h = record {
  limits = limits_from form (max_instructions Instrumented) m (most_of form) (module_within form text m h) (read_small form text m h);
  arguments = arguments_kept form m (read_small form text m h);
}

-- ---- no marks

heads_unmarked : (insts : List Inst) (place : ℕ) → list_all (λ inst. not inst.marked) insts ≡ true → HeadUnmarked (drop place insts)
heads_unmarked [] zero h = tt
heads_unmarked [] (suc place) h = tt
heads_unmarked (inst ∷ rest) zero h = unmarked inst.marked (and_parts (not inst.marked) (list_all (λ i. not i.marked) rest) h).0
  where
    unmarked : (b : Bool) → not b ≡ true → b ≡ false
    unmarked true e = absurd cc
    unmarked false e = refl
heads_unmarked (inst ∷ rest) (suc place) h = heads_unmarked rest place (and_parts (not inst.marked) (list_all (λ i. not i.marked) rest) h).1

-- what holds of the part of each element, and of none, holds at each place
at_place : {A B : Type 0} (p : A → Bool) (part : A → List B) (q : B → Bool) → ((x : A) → p x ≡ true → list_all q (part x) ≡ true) → (xs : List A) (i : ℕ)
    → list_all p xs ≡ true → list_all q (unwrap_or (option_map part (slice_get xs i)) []) ≡ true
at_place p part q each [] i h = refl
at_place p part q each (x ∷ xs) zero h = each x (and_parts (p x) (list_all p xs) h).0
at_place p part q each (x ∷ xs) (suc i) h = at_place p part q each xs i (and_parts (p x) (list_all p xs) h).1

pub no_marks : (m : Module) → AllSmall Plain m → NoMarks m
no_marks m k = λ func block place.
    let blocks = at_place (is_small_func Plain) (λ f. f.blocks) (is_small_block Plain) (λ f h. (func_keeps Plain f h).blocks) m.funcs func k.funcs in
    let insts = at_place (is_small_block Plain) (λ b. b.insts) (λ inst. not inst.marked)
    (λ b h. all_so (is_small_inst Plain) (λ inst. not inst.marked) (λ inst i. (inst_keeps Plain inst i).mark) b.insts (block_keeps Plain b h).1) (blocks_at m func) block blocks in
    heads_unmarked (insts_at m func block) place insts

pub names_free : (m : Module) → AllSmall Plain m → names_are_free m ≡ true
names_free m k = all_so (is_small_name Plain) (λ x. not (is_reserved x)) (λ x h. (and_parts (is_short x) (not (is_reserved x)) h).1) (module_names m) (names_small Plain m k)

pub uninstrumented : (text : Text) (m : Module) → Reads Plain text m → IsUninstrumented m
uninstrumented text m h = record { unmarked = no_marks m (read_small Plain text m h); free = names_free m (read_small Plain text m h) }

-- ---- plain modules

plain_instructions : max_instructions Plain ≤ 2 ^ 17
unfolding max_instructions
plain_instructions = lit≤ tt

plain_tokens : max_tokens Plain ≤ 2 ^ 20
unfolding max_tokens
plain_tokens = lit≤ tt

pub can_instrument : (text : Text) (m : Module) → Reads Plain text m → CanInstrument m
can_instrument text m h =
    let limits : ReadLimits (max_instructions Plain) m = read_limits Plain text m h in
    let few = limits.count in
    let room = plain_instructions in
    let operands = few_operands Plain text m h in
    let tokens = plain_tokens in
    record {
      plain = uninstrumented text m h;
      instructions = omega (arith, few, room);
      operands = omega (arith, operands, tokens);
      parameters = few_parameters Plain m (read_small Plain text m h);
      globals = limits.globals;
    }
