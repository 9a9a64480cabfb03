-- A formed module whose parts are within the limits has all that is needed to read it back.
use Rattle.std.proofs.Common.{◌≡◌, ℕ, suc, ◌+◌, ◌≤◌, ◌<◌, Bool, true, ◌&&◌, List, [], ◌∷◌, ◌++◌, map, length, flat_map, filter_map, Option, Some, None, refl, sym, ap, ◌∙◌, subst, arith, leb-true, eqb-true}
use Rattle.std.specs.Prelude.{nat_lt, nat_le, nat_eq}
use Rattle.std.specs.List.{list_all}
use Rattle.std.proofs.lemmas.Bool.{ltb-true, and_from, and_parts}
use Rattle.std.proofs.lemmas.List.Folds.{list_all-append}
use Rattle.std.proofs.lemmas.Grind.{flat_map-append}
use Rattle.ms_ir.specs.declared.syntax.Name.{Name}
use Rattle.ms_ir.specs.declared.syntax.Name.TheVariants.{Number, Text as Called}
use Rattle.ms_ir.specs.declared.syntax.Ty.{Ty}
use Rattle.ms_ir.specs.declared.syntax.Op.{Op}
use Rattle.ms_ir.specs.declared.syntax.Inst.{Inst}
use Rattle.ms_ir.specs.declared.syntax.Block.{Block}
use Rattle.ms_ir.specs.declared.syntax.Func.{Func}
use Rattle.ms_ir.specs.declared.syntax.Decl.{Decl}
use Rattle.ms_ir.specs.declared.syntax.GlobalVar.{GlobalVar}
use Rattle.ms_ir.specs.declared.syntax.Module.{Module}
use Rattle.ms_ir.specs.Instructions.{over_insts, over_blocks, over_funcs}
use Rattle.ms_text_grammar.specs.Modules.{instructions_of}
use Rattle.ms_check_valid.specs.FormedNames.{is_local_name, is_global_name, name_number, count_up, are_numbered}
use Rattle.ms_check_valid.specs.FormedCode.{is_value_type, type_formed, result_formed, init_formed, op_formed, name_formed, inst_formed, is_body}
use Rattle.ms_check_valid.specs.Formed.{is_struct, named_type_formed, global_formed, decl_formed, block_formed, func_formed, Formed}
use Rattle.ms_check_valid.specs.ReadLimits.{type_depth, init_depth, mentioned, func_names, module_names}
use Rattle.ms_ir.specs.Written.{Mention, type_mentions, init_mentions, mentions, op_types, result_type}
use Rattle.ms_check_valid.specs.NamesKnown.{global_mentions}
use Rattle.ms_ir.specs.Locals.{results, block_locals, parameter_names, locals, func_insts, symbols, global_names, declared_names, function_names, type_names}
use Rattle.ms_text_laws.proofs.Limited.{Limits}
use Rattle.ms_text_laws.proofs.Spelled.{is_below}
use Rattle.ms_text_laws.proofs.Types.{few_names, few_parts}
use Rattle.ms_text_laws.proofs.Values.{few_within}
use Rattle.ms_text_laws.proofs.Insts.{are_within, within_parts}
use Rattle.ms_text_laws.proofs.Ops.{few_indices_of, few_printed}
use Rattle.ms_text_laws.proofs.Lines.{is_short_result, inst_of}
use Rattle.ms_text_laws.proofs.Bodies.{AreNext, next_after, next_name, IsNextName, InstsFit, BlocksFit, AreNextBlocks, lines_in}
use Rattle.ms_text_laws.proofs.Functions.{AreNextParams, next_params, FuncFits}
use Rattle.ms_text_laws.proofs.Modules.{NamedsFit, GlobalsFit, DeclsFit, FuncsFit, ModuleFits}

-- ---- lists

all_parts : {A : Type 0} (p : A → Bool) (xs ys : List A) → list_all p (xs ++ ys) ≡ true → (list_all p xs ≡ true) × (list_all p ys ≡ true)
all_parts p xs ys h = and_parts (list_all p xs) (list_all p ys) (sym (list_all-append p xs ys) ∙ h)

names_of : (most : ℕ) (xs : List Mention) → list_all (is_below most) (map mentioned xs) ≡ true → few_names most xs ≡ true
names_of most [] h = refl
names_of most (x ∷ xs) h =
    let parts = and_parts (is_below most (mentioned x)) (list_all (is_below most) (map mentioned xs)) h in
    and_from _ _ parts.0 (names_of most xs parts.1)

-- ---- what is within the limits

-- each limit, of the lists of what it limits
pub record Within (limits : Limits) (m : Module) : Type 0 where
  pub some_indices : 0 < limits.indices
  pub names : list_all (is_below limits.names) (module_names m) ≡ true
  pub types : are_within (suc limits.depth) (map (λ t. t.1) m.types) ≡ true
  pub globals_deep : list_all (λ g. nat_le (type_depth g.ty) (suc limits.depth) && nat_le (init_depth g.init) (suc limits.depth)) m.globals ≡ true
  pub insts_deep : are_within (suc limits.depth) (flat_map (λ f. flat_map (λ inst. op_types inst.op) (func_insts f)) m.funcs) ≡ true
  pub global_indices : list_all (λ g. few_within limits.indices g.init) m.globals ≡ true
  pub inst_indices : list_all (λ f. list_all (λ inst. few_indices_of limits.indices inst.op) (func_insts f)) m.funcs ≡ true
  pub printed : list_all (λ f. list_all (λ inst. few_printed limits.parameters inst.op) (func_insts f)) m.funcs ≡ true
  pub params : list_all (λ f. nat_le (length f.params) limits.parameters) m.funcs ≡ true
  pub decl_params : list_all (λ d. nat_le (length d.params) limits.parameters) m.decls ≡ true
  pub few_globals : length m.globals ≤ limits.globals
  pub few_functions : length m.funcs + length m.decls ≤ limits.functions
  pub few_insts : over_funcs (λ inst. 1) m.funcs ≤ limits.instructions
  pub few_numbers : list_all (λ f. nat_lt (next_params 0 f.params + lines_in f.blocks) limits.numbers) m.funcs ≡ true

-- ---- numbers

-- what is numbered from k on, in front of more names
abbrev Counts : ℕ → List Name → Type 0
Counts k names = count_up k (filter_map name_number names) ≡ true

params_counted : (params : List (Ty × Name)) (k : ℕ) (more : List Name) → Counts k (map (λ p. p.1) params ++ more) → AreNextParams k params × Counts (next_params k params) more
params_counted [] k more h = (tt, h)
params_counted ((t, Number n) ∷ params) k more h =
    let parts = and_parts (nat_eq n k) _ h in
    let rest = params_counted params (k + 1) more parts.1 in
    ((eqb-true n k parts.0, rest.0), rest.1)
params_counted ((t, Called x) ∷ params) k more h = let rest = params_counted params k more h in ((tt, rest.0), rest.1)

abbrev Counted : List Inst → Type 0
Counted insts = (k : ℕ) (more : List Name) → Counts k (results insts ++ more) → AreNext k insts × Counts (next_after k insts) more

one_counted : (o : Op) (result : Option Name) (marked : Bool) (insts : List Inst) → Counted insts → Counted (inst_of o result marked ∷ insts)
one_counted o None marked insts rest k more h = let r = rest k more h in ((tt, r.0), r.1)
one_counted o (Some (Number n)) marked insts rest k more h =
    let parts = and_parts (nat_eq n k) _ h in
    let r = rest (k + 1) more parts.1 in
    ((eqb-true n k parts.0, r.0), r.1)
one_counted o (Some (Called x)) marked insts rest k more h =
    let same : k ≡ k + 0 = omega arith in
    let r = rest (k + 0) more (subst (λ j. Counts j (results insts ++ more)) same h) in
    ((tt, r.0), r.1)

insts_counted : (insts : List Inst) → Counted insts
insts_counted [] k more h = (tt, h)
insts_counted (inst ∷ insts) k more h = one_counted inst.op inst.result inst.marked insts (insts_counted insts) k more h

name_counted : (x : Name) (k : ℕ) (more : List Name) → Counts k (x ∷ more) → IsNextName k x × Counts (next_name k x) more
name_counted (Number n) k more h = let parts = and_parts (nat_eq n k) _ h in (eqb-true n k parts.0, parts.1)
name_counted (Called x) k more h = let same : k ≡ k + 0 = omega arith in (tt, subst (λ j. Counts j more) same h)

blocks_counted : (bs : List Block) (k : ℕ) → Counts k (flat_map block_locals bs) → AreNextBlocks k bs
blocks_counted [] k h = tt
blocks_counted (b ∷ bs) k h =
    let name = name_counted b.name k (results b.insts ++ flat_map block_locals bs) h in
    let insts = insts_counted b.insts (next_name k b.name) (flat_map block_locals bs) name.1 in
    (name.0, insts.0, blocks_counted bs (next_after (next_name k b.name) b.insts) insts.1)

-- ---- instructions and blocks

-- the limits of instructions
abbrev mentioned_in : List Inst → List Mention
mentioned_in insts = flat_map (λ inst. mentions inst.op) insts

abbrev types_in : List Inst → List Ty
types_in insts = flat_map (λ inst. op_types inst.op) insts

record InstsWithin (limits : Limits) (insts : List Inst) : Type 0 where
  mentioned_few : few_names limits.names (mentioned_in insts) ≡ true
  deep : are_within (suc limits.depth) (types_in insts) ≡ true
  indices : list_all (λ inst. few_indices_of limits.indices inst.op) insts ≡ true
  printed : list_all (λ inst. few_printed limits.parameters inst.op) insts ≡ true

insts_split : (limits : Limits) (xs ys : List Inst) → InstsWithin limits (xs ++ ys) → InstsWithin limits xs × InstsWithin limits ys
insts_split limits xs ys h =
    let names = few_parts limits.names (mentioned_in xs) (mentioned_in ys) (ap (few_names limits.names) (sym (flat_map-append (λ inst. mentions inst.op) xs ys)) ∙ h.mentioned_few) in
    let types = within_parts (suc limits.depth) (types_in xs) (types_in ys) (ap (are_within (suc limits.depth)) (sym (flat_map-append (λ inst. op_types inst.op) xs ys)) ∙ h.deep) in
    let indices = all_parts (λ inst. few_indices_of limits.indices inst.op) xs ys h.indices in
    let printed = all_parts (λ inst. few_printed limits.parameters inst.op) xs ys h.printed in
    (record { mentioned_few = names.0; deep = types.0; indices = indices.0; printed = printed.0 }, record { mentioned_few = names.1; deep = types.1; indices = indices.1; printed = printed.1 })

result_short : (most : ℕ) (o : Op) (result : Option Name) (marked : Bool) (insts : List Inst) → list_all (is_below most) (results (inst_of o result marked ∷ insts)) ≡ true → (is_short_result most result ≡ true) × (list_all (is_below most) (results insts) ≡ true)
result_short most o None marked insts h = (refl, h)
result_short most o (Some x) marked insts h = and_parts (is_below most x) (list_all (is_below most) (results insts)) h

insts_fit : (limits : Limits) (insts : List Inst) → list_all inst_formed insts ≡ true → list_all (is_below limits.names) (results insts) ≡ true → InstsWithin limits insts → InstsFit limits insts
insts_fit limits [] formed names h = tt
insts_fit limits (inst ∷ insts) formed names h =
    let parts = and_parts (inst_formed inst) (list_all inst_formed insts) formed in
    let own = and_parts (op_formed inst.op) (name_formed (result_type inst.op) inst.result) parts.0 in
    let short = result_short limits.names inst.op inst.result inst.marked insts names in
    let few = few_parts limits.names (mentions inst.op) (mentioned_in insts) h.mentioned_few in
    let types = within_parts (suc limits.depth) (op_types inst.op) (types_in insts) h.deep in
    let indices = and_parts (few_indices_of limits.indices inst.op) _ h.indices in
    let printed = and_parts (few_printed limits.parameters inst.op) _ h.printed in (
      record { op_fits = record { formed = own.0; shallow = types.0; named = few.0; indices = indices.0; printed = printed.0 }; named = own.1; short_name = short.0 },
      insts_fit limits insts parts.1 short.1 (record { mentioned_few = few.1; deep = types.1; indices = indices.1; printed = printed.1 }),
    )

blocks_fit : (limits : Limits) (bs : List Block) → list_all block_formed bs ≡ true → list_all (is_below limits.names) (flat_map block_locals bs) ≡ true → InstsWithin limits (flat_map (λ b. b.insts) bs) → BlocksFit limits bs
blocks_fit limits [] formed names h = tt
blocks_fit limits (b ∷ bs) formed names h =
    let parts = and_parts (block_formed b) (list_all block_formed bs) formed in
    let own = and_parts (is_local_name b.name && is_body b.insts) (list_all inst_formed b.insts) parts.0 in
    let first = and_parts (is_local_name b.name) (is_body b.insts) own.0 in
    let short = and_parts (is_below limits.names b.name) _ names in
    let locals = all_parts (is_below limits.names) (results b.insts) (flat_map block_locals bs) short.1 in
    let split = insts_split limits b.insts (flat_map (λ b. b.insts) bs) h in
    (record { local = first.0; short_name = short.0; order = first.1; insts = insts_fit limits b.insts own.1 locals.0 split.0 }, blocks_fit limits bs parts.1 locals.1 split.1)

-- ---- functions

counted_insts : (insts : List Inst) → over_insts (λ inst. 1) insts ≡ length insts
counted_insts [] = refl
counted_insts (inst ∷ insts) = let rest = counted_insts insts in omega (arith, rest)

pub counted_blocks : (bs : List Block) → over_blocks (λ inst. 1) bs ≡ instructions_of bs
counted_blocks [] = refl
counted_blocks (b ∷ bs) = let rest = counted_blocks bs in let insts = counted_insts b.insts in omega (arith, rest, insts)

params_short : (most : ℕ) (params : List (Ty × Name)) → list_all (is_below most) (map (λ p. p.1) params) ≡ true → list_all (λ p. is_below most p.1) params ≡ true
params_short most [] h = refl
params_short most (p ∷ params) h =
    let parts = and_parts (is_below most p.1) (list_all (is_below most) (map (λ p. p.1) params)) h in
    and_from _ _ parts.0 (params_short most params parts.1)

func_fits : (limits : Limits) (before : ℕ) (f : Func) → func_formed f ≡ true → is_below limits.names f.name ≡ true → list_all (is_below limits.names) (func_names f) ≡ true
    → are_within (suc limits.depth) (types_in (func_insts f)) ≡ true → list_all (λ inst. few_indices_of limits.indices inst.op) (func_insts f) ≡ true → list_all (λ inst. few_printed limits.parameters inst.op) (func_insts f) ≡ true
    → nat_le (length f.params) limits.parameters ≡ true → nat_lt (next_params 0 f.params + lines_in f.blocks) limits.numbers ≡ true → before + instructions_of f.blocks ≤ limits.instructions → FuncFits limits before f
func_fits limits before f formed name names deep indices printed params numbers insts =
    let e = and_parts _ (are_numbered (locals f)) formed in
    let d = and_parts _ (list_all block_formed f.blocks) e.0 in
    let c = and_parts _ (nat_lt 0 (length f.blocks)) d.0 in
    let b = and_parts _ (list_all (λ p. is_value_type p.0 && is_local_name p.1) f.params) c.0 in
    let a = and_parts (is_global_name f.name) (result_formed f.ret) b.0 in
    let split = all_parts (is_below limits.names) (locals f) (map mentioned (mentioned_in (func_insts f))) names in
    let own = all_parts (is_below limits.names) (parameter_names f) (flat_map block_locals f.blocks) split.0 in
    let counted = params_counted f.params 0 (flat_map block_locals f.blocks) e.1 in
    let within : InstsWithin limits (func_insts f) = record { mentioned_few = names_of limits.names (mentioned_in (func_insts f)) split.1; deep = deep; indices = indices; printed = printed } in
    record {
      global_name = a.0;
      short_name = name;
      result = a.1;
      params = b.1;
      short_params = params_short limits.names f.params own.0;
      few_params = leb-true (length f.params) limits.parameters params;
      param_numbers = counted.0;
      some_block = ltb-true 0 (length f.blocks) c.1;
      blocks = blocks_fit limits f.blocks d.1 own.1 within;
      numbers = blocks_counted f.blocks (next_params 0 f.params) counted.1;
      few_numbers = ltb-true (next_params 0 f.params + lines_in f.blocks) limits.numbers numbers;
      few_insts = insts;
    }

funcs_fit : (limits : Limits) (fs : List Func) (before : ℕ) → list_all func_formed fs ≡ true → list_all (is_below limits.names) (map (λ f. f.name) fs) ≡ true → list_all (is_below limits.names) (flat_map func_names fs) ≡ true
    → are_within (suc limits.depth) (flat_map (λ f. types_in (func_insts f)) fs) ≡ true → list_all (λ f. list_all (λ inst. few_indices_of limits.indices inst.op) (func_insts f)) fs ≡ true
    → list_all (λ f. list_all (λ inst. few_printed limits.parameters inst.op) (func_insts f)) fs ≡ true → list_all (λ f. nat_le (length f.params) limits.parameters) fs ≡ true
    → list_all (λ f. nat_lt (next_params 0 f.params + lines_in f.blocks) limits.numbers) fs ≡ true → before + over_funcs (λ inst. 1) fs ≤ limits.instructions → FuncsFit limits before fs
funcs_fit limits [] before formed name names deep indices printed params numbers insts = tt
funcs_fit limits (f ∷ fs) before formed name names deep indices printed params numbers insts =
    let a = and_parts (func_formed f) (list_all func_formed fs) formed in
    let b = and_parts (is_below limits.names f.name) _ name in
    let c = all_parts (is_below limits.names) (func_names f) (flat_map func_names fs) names in
    let d = within_parts (suc limits.depth) (types_in (func_insts f)) (flat_map (λ f. types_in (func_insts f)) fs) deep in
    let e = and_parts (list_all (λ inst. few_indices_of limits.indices inst.op) (func_insts f)) _ indices in
    let g = and_parts (list_all (λ inst. few_printed limits.parameters inst.op) (func_insts f)) _ printed in
    let i = and_parts (nat_le (length f.params) limits.parameters) _ params in
    let j = and_parts (nat_lt (next_params 0 f.params + lines_in f.blocks) limits.numbers) _ numbers in
    let same = counted_blocks f.blocks in (
      func_fits limits before f a.0 b.0 c.0 d.0 e.0 g.0 i.0 j.0 (omega (arith, insts, same)),
      funcs_fit limits fs (before + instructions_of f.blocks) a.1 b.1 c.1 d.1 e.1 g.1 i.1 j.1 (omega (arith, insts, same)),
    )

-- ---- other entities

types_fit : (limits : Limits) (ts : List (Name × Ty)) → list_all named_type_formed ts ≡ true → list_all (is_below limits.names) (map (λ t. t.0) ts) ≡ true → few_names limits.names (flat_map (λ t. type_mentions t.1) ts) ≡ true
    → are_within (suc limits.depth) (map (λ t. t.1) ts) ≡ true → NamedsFit limits ts
types_fit limits [] formed names mentioned_few deep = tt
types_fit limits (t ∷ ts) formed names mentioned_few deep =
    let a = and_parts (named_type_formed t) (list_all named_type_formed ts) formed in
    let own = and_parts (is_local_name t.0 && is_struct t.1) (type_formed t.1) a.0 in
    let first = and_parts (is_local_name t.0) (is_struct t.1) own.0 in
    let b = and_parts (is_below limits.names t.0) _ names in
    let c = few_parts limits.names (type_mentions t.1) (flat_map (λ t. type_mentions t.1) ts) mentioned_few in
    let d = and_parts (nat_le (type_depth t.1) (suc limits.depth)) _ deep in (
      record { local = first.0; short_name = b.0; struct = first.1; type = record { formed = own.1; shallow = leb-true (type_depth t.1) (suc limits.depth) d.0; named = c.0 } },
      types_fit limits ts a.1 b.1 c.1 d.1,
    )

globals_fit : (limits : Limits) (gs : List GlobalVar) → list_all global_formed gs ≡ true → list_all (is_below limits.names) (map (λ g. g.name) gs) ≡ true → few_names limits.names (flat_map global_mentions gs) ≡ true
    → list_all (λ g. nat_le (type_depth g.ty) (suc limits.depth) && nat_le (init_depth g.init) (suc limits.depth)) gs ≡ true → list_all (λ g. few_within limits.indices g.init) gs ≡ true → GlobalsFit limits gs
globals_fit limits [] formed names mentioned_few deep indices = tt
globals_fit limits (g ∷ gs) formed names mentioned_few deep indices =
    let a = and_parts (global_formed g) (list_all global_formed gs) formed in
    let own = and_parts (is_global_name g.name && type_formed g.ty) (init_formed g.ty g.init) a.0 in
    let first = and_parts (is_global_name g.name) (type_formed g.ty) own.0 in
    let b = and_parts (is_below limits.names g.name) _ names in
    let c = few_parts limits.names (global_mentions g) (flat_map global_mentions gs) mentioned_few in
    let inner = few_parts limits.names (type_mentions g.ty) (init_mentions g.init) c.0 in
    let d = and_parts (nat_le (type_depth g.ty) (suc limits.depth) && nat_le (init_depth g.init) (suc limits.depth)) _ deep in
    let depths = and_parts (nat_le (type_depth g.ty) (suc limits.depth)) (nat_le (init_depth g.init) (suc limits.depth)) d.0 in
    let e = and_parts (few_within limits.indices g.init) _ indices in (
      record {
        global_name = first.0;
        short_name = b.0;
        type = record { formed = first.1; shallow = leb-true (type_depth g.ty) (suc limits.depth) depths.0; named = inner.0 };
        init = record { formed = own.1; shallow = leb-true (init_depth g.init) (suc limits.depth) depths.1; named = inner.1; indices = e.0 };
      },
      globals_fit limits gs a.1 b.1 c.1 d.1 e.1,
    )

decls_fit : (limits : Limits) (ds : List Decl) → list_all decl_formed ds ≡ true → list_all (is_below limits.names) (map (λ d. d.name) ds) ≡ true → list_all (λ d. nat_le (length d.params) limits.parameters) ds ≡ true → DeclsFit limits ds
decls_fit limits [] formed names params = tt
decls_fit limits (d ∷ ds) formed names params =
    let a = and_parts (decl_formed d) (list_all decl_formed ds) formed in
    let own = and_parts (is_global_name d.name && result_formed d.ret) (list_all is_value_type d.params) a.0 in
    let first = and_parts (is_global_name d.name) (result_formed d.ret) own.0 in
    let b = and_parts (is_below limits.names d.name) _ names in
    let c = and_parts (nat_le (length d.params) limits.parameters) _ params in
    (record { global_name = first.0; short_name = b.0; result = first.1; params = own.1; few_params = leb-true (length d.params) limits.parameters c.0 }, decls_fit limits ds a.1 b.1 c.1)

-- ---- modules

pub module_fits : (limits : Limits) (m : Module) → Formed m → Within limits m → ModuleFits limits m
module_fits limits m formed h =
    let below = is_below limits.names in
    let all = all_parts below (type_names m ++ symbols m) (map mentioned (flat_map (λ t. type_mentions t.1) m.types ++ flat_map global_mentions m.globals) ++ flat_map func_names m.funcs) h.names in
    let defined = all_parts below (type_names m) (symbols m) all.0 in
    let symbol_names = all_parts below (global_names m) (declared_names m ++ function_names m) defined.1 in
    let declared = all_parts below (declared_names m) (function_names m) symbol_names.1 in
    let used = all_parts below (map mentioned (flat_map (λ t. type_mentions t.1) m.types ++ flat_map global_mentions m.globals)) (flat_map func_names m.funcs) all.1 in
    let outside = few_parts limits.names (flat_map (λ t. type_mentions t.1) m.types) (flat_map global_mentions m.globals) (names_of limits.names (flat_map (λ t. type_mentions t.1) m.types ++ flat_map global_mentions m.globals) used.0) in
    record {
      some_indices = h.some_indices;
      types = types_fit limits m.types formed.types defined.0 outside.0 h.types;
      globals = globals_fit limits m.globals formed.globals symbol_names.0 outside.1 h.globals_deep h.global_indices;
      decls = decls_fit limits m.decls formed.declarations declared.0 h.decl_params;
      funcs = funcs_fit limits m.funcs 0 formed.functions declared.1 used.1 h.insts_deep h.inst_indices h.printed h.params h.few_numbers (omega (arith, h.few_insts));
      few_globals = h.few_globals;
      few_functions = h.few_functions;
    }
