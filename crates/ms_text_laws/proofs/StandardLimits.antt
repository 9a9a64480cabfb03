-- A module that an instrumented text can hold is within its limits; and every module is within limits that are large enough.
use Rattle.std.proofs.Common.{◌≡◌, ℕ, suc, ◌+◌, ◌*◌, ◌-◌, ◌≤◌, ◌^◌, Bool, true, not, ◌&&◌, List, [], ◌∷◌, map, length, flat_map, refl, sym, ap, ◌∙◌, arith, leb-true, le-leb}
use Rattle.std.specs.Prelude.{nat_lt, nat_le}
use Rattle.std.specs.List.{list_all}
use Rattle.std.proofs.lemmas.Bool.{lt-ltb, and_from, or_right, and_parts}
use Rattle.ms_ir.specs.declared.syntax.Name.{Name}
use Rattle.ms_ir.specs.declared.syntax.Name.TheVariants.{Number, Text as Called}
use Rattle.ms_ir.specs.declared.syntax.Ty.{Ty}
use Rattle.ms_ir.specs.declared.syntax.Operand.{Operand}
use Rattle.ms_ir.specs.declared.syntax.Operand.TheVariants as operand
use Rattle.ms_ir.specs.declared.syntax.Init.{Init, Row_of-Init-Array-0-2, end_of-Init-Array-0-2, more_of-Init-Array-0-2}
use Rattle.ms_ir.specs.declared.syntax.Init as initial
use Rattle.ms_ir.specs.declared.syntax.Op.{Op}
use Rattle.ms_ir.specs.declared.syntax.Op.TheVariants as op
use Rattle.ms_ir.specs.declared.syntax.Inst.{Inst}
use Rattle.ms_ir.specs.declared.syntax.Block.{Block}
use Rattle.ms_ir.specs.declared.syntax.Func.{Func}
use Rattle.ms_ir.specs.declared.syntax.Module.{Module}
use Rattle.ms_ir.specs.Instructions.{operands, over_funcs}
use Rattle.ms_text_grammar.specs.Insts.{names_printf}
use Rattle.ms_text_grammar.specs.Bodies.{max_instructions}
use Rattle.ms_text_grammar.specs.Functions.{next_after as next_param}
use Rattle.ms_text_grammar.specs.Modules.{instructions_of}
use Rattle.ms_check_valid.specs.FormedNames.{are_numbered}
use Rattle.ms_check_valid.specs.FormedCode.{inst_formed, is_body}
use Rattle.ms_check_valid.specs.Formed.{block_formed, func_formed, Formed}
use Rattle.ms_check_valid.specs.ReadLimits.{type_depth, init_depth, few_init_indices, few_items_indices, few_indices, is_short, is_shallow_global, are_shallow, module_names}
use Rattle.ms_ir.specs.Written.{op_types}
use Rattle.ms_ir.specs.Locals.{func_insts, locals}
use Rattle.ms_text_laws.specs.Fits.{few_arguments, FitsForm}
use Rattle.ms_text_laws.proofs.SmallNames.{all_so}
use Rattle.ms_text_laws.proofs.Limited.{Limits, standard}
use Rattle.ms_text_laws.proofs.Spelled.{is_below}
use Rattle.ms_text_laws.proofs.Values.{few_offsets, few_within, few_among}
use Rattle.ms_text_laws.proofs.Insts.{are_within}
use Rattle.ms_text_laws.proofs.Ops.{few_indices_of, few_printed}
use Rattle.ms_text_laws.proofs.Bodies.{lines_in}
use Rattle.ms_text_laws.proofs.Functions.{next_params, param_few}
use Rattle.ms_text_laws.proofs.Fits.{counted_blocks, Within}

-- ---- the limits of an instrumented text

short_below : (x : Name) → is_short x ≡ true → is_below 1025 x ≡ true
short_below (Number n) h = refl
short_below (Called x) h = let few = leb-true (length x) 1024 h in lt-ltb (length x) 1025 (omega (arith, few))

mutual
  init_same : (i : Init) → few_init_indices i ≡ few_within 64 i
  init_same (initial.Value a) = refl
  init_same (initial.Array' form items) = items_same items
  init_same (initial.Struct' packed form fields) = items_same fields
  init_same initial.Zero = refl
  init_same (initial.Text bytes) = refl

  items_same : {n : _} (row : Row_of-Init-Array-0-2 n) → few_items_indices row ≡ few_among 64 row
  items_same end_of-Init-Array-0-2 = refl
  items_same (more_of-Init-Array-0-2 t i rest) = ap (λ b. b && few_items_indices rest) (init_same i) ∙ ap (λ b. few_within 64 i && b) (items_same rest)

indices_same : (o : Op) → few_indices o ≡ true → few_indices_of 64 o ≡ true
indices_same (op.Gep t base indices) h = h
indices_same o h = h

arguments_same : (o : Op) → few_arguments o ≡ true → few_printed 100 o ≡ true
arguments_same (op.Call ret callee args) h = h
arguments_same o h = h

some_insts : (insts : List Inst) → is_body insts ≡ true → 1 ≤ length insts
some_insts [] h = absurd cc
some_insts (inst ∷ insts) h = omega arith

params_few : (k : ℕ) (params : List (Ty × Name)) → next_params k params ≤ k + length params
params_few k [] = omega arith
params_few k (p ∷ params) =
    let rest = params_few (next_param p.1 k) params in
    let one = param_few k p.1 in
    omega (arith, rest, one)

lines_few : (bs : List Block) → list_all block_formed bs ≡ true → lines_in bs ≤ 2 * instructions_of bs
lines_few [] h = omega arith
lines_few (b ∷ bs) h =
    let parts = and_parts (block_formed b) (list_all block_formed bs) h in
    let some = some_insts b.insts (and_parts _ (is_body b.insts) (and_parts _ (list_all inst_formed b.insts) parts.0).0).1 in
    let rest = lines_few bs parts.1 in
    omega (arith, rest, some)

numbers_few : (fs : List Func) → list_all func_formed fs ≡ true → list_all (λ f. nat_le (length f.params) 100) fs ≡ true → over_funcs (λ inst. 1) fs ≤ 2 ^ 22
    → list_all (λ f. nat_lt (next_params 0 f.params + lines_in f.blocks) (2 ^ 32 - 2)) fs ≡ true
numbers_few [] h p most = refl
numbers_few (f ∷ fs) h p most =
    let parts = and_parts (func_formed f) (list_all func_formed fs) h in
    let params = and_parts (nat_le (length f.params) 100) _ p in
    let blocks = (and_parts _ (list_all block_formed f.blocks) (and_parts _ (are_numbered (locals f)) parts.0).0).1 in
    let same = counted_blocks f.blocks in
    let few = params_few 0 f.params in
    let hundred = leb-true (length f.params) 100 params.0 in
    let lines = lines_few f.blocks blocks in
    and_from _ _ (lt-ltb (next_params 0 f.params + lines_in f.blocks) (2 ^ 32 - 2) (omega (arith, most, same, few, hundred, lines))) (numbers_few fs parts.1 params.1 (omega (arith, most)))

pub fits_within : (m : Module) → Formed m → FitsForm m → Within standard m
unfolding max_instructions
fits_within m formed h =
    let l = h.limits in
    let params = and_parts (list_all (λ f. nat_le (length f.params) 100) m.funcs) (list_all (λ d. nat_le (length d.params) 100) m.decls) l.parameters in
    let nested = and_parts (are_shallow (map (λ t. t.1) m.types) && list_all is_shallow_global m.globals) _ l.nested in
    let outside = and_parts (are_shallow (map (λ t. t.1) m.types)) (list_all is_shallow_global m.globals) nested.0 in
    let indices = and_parts (list_all (λ g. few_init_indices g.init) m.globals) (list_all (λ f. list_all (λ inst. few_indices inst.op) (func_insts f)) m.funcs) l.indices in
    record {
      some_indices = omega arith;
      names = all_so is_short (is_below 1025) short_below (module_names m) l.names;
      types = outside.0;
      globals_deep = outside.1;
      insts_deep = nested.1;
      global_indices = all_so (λ g. few_init_indices g.init) (λ g. few_within 64 g.init) (λ g p. sym (init_same g.init) ∙ p) m.globals indices.0;
      inst_indices = all_so (λ f. list_all (λ inst. few_indices inst.op) (func_insts f)) (λ f. list_all (λ inst. few_indices_of 64 inst.op) (func_insts f))
          (λ f. all_so (λ inst. few_indices inst.op) (λ inst. few_indices_of 64 inst.op) (λ inst. indices_same inst.op) (func_insts f)) m.funcs indices.1;
      printed = all_so (λ f. list_all (λ inst. few_arguments inst.op) (func_insts f)) (λ f. list_all (λ inst. few_printed 100 inst.op) (func_insts f))
          (λ f. all_so (λ inst. few_arguments inst.op) (λ inst. few_printed 100 inst.op) (λ inst. arguments_same inst.op) (func_insts f)) m.funcs h.arguments;
      params = params.0;
      decl_params = params.1;
      few_globals = l.globals;
      few_functions = l.functions;
      few_insts = l.count;
      few_numbers = numbers_few m.funcs formed.functions params.0 l.count;
    }

-- ---- limits that are large enough

-- a test that every large enough number passes
record Bounded (test : ℕ → Bool) : Type 0 where
  least : ℕ
  holds : (k : ℕ) → least ≤ k → test k ≡ true

always : {test : ℕ → Bool} → ((k : ℕ) → test k ≡ true) → Bounded test
always f = record { least = 0; holds = λ k l. f k }

at_most : (n : ℕ) → Bounded (λ k. nat_le n k)
at_most n = record { least = n; holds = λ k l. le-leb n k l }

at_most_next : (n : ℕ) → Bounded (λ k. nat_le n (suc k))
at_most_next n = record { least = n; holds = λ k l. le-leb n (suc k) (omega (arith, l)) }

less : (n : ℕ) → Bounded (λ k. nat_lt n k)
less n = record { least = suc n; holds = λ k l. lt-ltb n k (omega (arith, l)) }

both_bounded : (p q : ℕ → Bool) → Bounded p → Bounded q → Bounded (λ k. p k && q k)
both_bounded p q a b = record { least = a.least + b.least; holds = λ k l. and_from (p k) (q k) (a.holds k (omega (arith, l))) (b.holds k (omega (arith, l))) }

all_bounded : {A : Type 0} (p : ℕ → A → Bool) → ((x : A) → Bounded (λ k. p k x)) → (xs : List A) → Bounded (λ k. list_all (p k) xs)
all_bounded p f [] = always (λ k. refl)
all_bounded p f (x ∷ xs) = both_bounded (λ k. p k x) (λ k. list_all (p k) xs) (f x) (all_bounded p f xs)

name_bounded : (x : Name) → Bounded (λ k. is_below k x)
name_bounded (Number n) = always (λ k. refl)
name_bounded (Called x) = less (length x)

offsets_bounded : (a : Operand) → Bounded (λ k. few_offsets k a)
offsets_bounded (operand.Offset x steps) =
    both_bounded (λ k. nat_le (length steps) k) (λ k. list_all (λ s. nat_le (length s.1) k) steps) (at_most (length steps))
    (all_bounded (λ k s. nat_le (length s.1) k) (λ s. at_most (length s.1)) steps)
offsets_bounded (operand.Int n) = always (λ k. refl)
offsets_bounded operand.Null = always (λ k. refl)
offsets_bounded operand.Undef = always (λ k. refl)
offsets_bounded operand.Poison = always (λ k. refl)
offsets_bounded (operand.Local x) = always (λ k. refl)
offsets_bounded (operand.Global x) = always (λ k. refl)

mutual
  init_bounded : (i : Init) → Bounded (λ k. few_within k i)
  init_bounded (initial.Value a) = offsets_bounded a
  init_bounded (initial.Array' form items) = items_bounded items
  init_bounded (initial.Struct' packed form fields) = items_bounded fields
  init_bounded initial.Zero = always (λ k. refl)
  init_bounded (initial.Text bytes) = always (λ k. refl)

  items_bounded : {n : _} (row : Row_of-Init-Array-0-2 n) → Bounded (λ k. few_among k row)
  items_bounded end_of-Init-Array-0-2 = always (λ k. refl)
  items_bounded (more_of-Init-Array-0-2 t i rest) = both_bounded (λ k. few_within k i) (λ k. few_among k rest) (init_bounded i) (items_bounded rest)

operands_bounded : (xs : List (Ty × Operand)) → Bounded (λ k. list_all (λ a. few_offsets k a.1) xs)
operands_bounded xs = all_bounded (λ k a. few_offsets k a.1) (λ a. offsets_bounded a.1) xs

indices_bounded : (o : Op) → Bounded (λ k. few_indices_of k o)
indices_bounded (op.Gep t base indices) = both_bounded (λ k. nat_le (length indices) k) (λ k. list_all (λ a. few_offsets k a.1) (operands (op.Gep t base indices))) (at_most (length indices)) (operands_bounded (operands (op.Gep t base indices)))
indices_bounded o = operands_bounded (operands o)

printed_bounded : (o : Op) → Bounded (λ k. few_printed k o)
printed_bounded (op.Call ret callee args) = record { least = length args; holds = λ k l. or_right (not (names_printf callee)) (nat_le (length args) k) (le-leb (length args) k l) }
printed_bounded o = always (λ k. refl)

types_bounded : (ts : List Ty) → Bounded (λ k. are_within (suc k) ts)
types_bounded ts = all_bounded (λ k t. nat_le (type_depth t) (suc k)) (λ t. at_most_next (type_depth t)) ts

-- the same number as each limit
abbrev pub uniform : ℕ → Limits
uniform k = record { names = k; depth = k; indices = k; parameters = k; instructions = k; functions = k; globals = k; numbers = k }

pub record LargeEnough (m : Module) : Type 0 where
  pub least : ℕ
  pub within : (k : ℕ) → least ≤ k → Within (uniform k) m

pub large_enough : (m : Module) → LargeEnough m
large_enough m =
    let names = all_bounded is_below name_bounded (module_names m) in
    let types = types_bounded (map (λ t. t.1) m.types) in
    let globals = all_bounded (λ k g. nat_le (type_depth g.ty) (suc k) && nat_le (init_depth g.init) (suc k))
    (λ g. both_bounded (λ k. nat_le (type_depth g.ty) (suc k)) (λ k. nat_le (init_depth g.init) (suc k)) (at_most_next (type_depth g.ty)) (at_most_next (init_depth g.init))) m.globals in
    let insts = types_bounded (flat_map (λ f. flat_map (λ inst. op_types inst.op) (func_insts f)) m.funcs) in
    let inits = all_bounded (λ k g. few_within k g.init) (λ g. init_bounded g.init) m.globals in
    let indices = all_bounded (λ k f. list_all (λ inst. few_indices_of k inst.op) (func_insts f)) (λ f. all_bounded (λ k inst. few_indices_of k inst.op) (λ inst. indices_bounded inst.op) (func_insts f)) m.funcs in
    let printed = all_bounded (λ k f. list_all (λ inst. few_printed k inst.op) (func_insts f)) (λ f. all_bounded (λ k inst. few_printed k inst.op) (λ inst. printed_bounded inst.op) (func_insts f)) m.funcs in
    let params = all_bounded (λ k f. nat_le (length f.params) k) (λ f. at_most (length f.params)) m.funcs in
    let decls = all_bounded (λ k d. nat_le (length d.params) k) (λ d. at_most (length d.params)) m.decls in
    let numbers = all_bounded (λ k f. nat_lt (next_params 0 f.params + lines_in f.blocks) k) (λ f. less (next_params 0 f.params + lines_in f.blocks)) m.funcs in
    record {
      least = 1 + names.least + types.least + globals.least + insts.least + inits.least + indices.least + printed.least + params.least + decls.least + numbers.least
          + length m.globals + (length m.funcs + length m.decls) + over_funcs (λ inst. 1) m.funcs;
      within = λ k l. record {
        some_indices = omega (arith, l);
        names = names.holds k (omega (arith, l));
        types = types.holds k (omega (arith, l));
        globals_deep = globals.holds k (omega (arith, l));
        insts_deep = insts.holds k (omega (arith, l));
        global_indices = inits.holds k (omega (arith, l));
        inst_indices = indices.holds k (omega (arith, l));
        printed = printed.holds k (omega (arith, l));
        params = params.holds k (omega (arith, l));
        decl_params = decls.holds k (omega (arith, l));
        few_globals = omega (arith, l);
        few_functions = omega (arith, l);
        few_insts = omega (arith, l);
        few_numbers = numbers.holds k (omega (arith, l));
      };
    }
