-- What validity and form of a module give at each of its instructions, so that code can be inserted round it.
use Rattle.std.proofs.Common.{◌≡◌, ℕ, ◌+◌, List, [], ◌∷◌, ◌++◌, Bool, true, false, Option, Some, None, refl, sym, ap, ◌∙◌, arith, true≢false, suc, ◌^◌, ◌<◌}
use Rattle.std.specs.Prelude.{◌&&◌, All, map, flat_map, drop, length, slice_get, if◌then◌else◌}
use Rattle.std.specs.List.{list_all}
use Rattle.std.proofs.Math.Path.{ap₂}
use Rattle.std.proofs.lemmas.Bool.{eqb-true, and_parts}
use Rattle.ms_bits.specs.declared.operations.BinOp.{BinOp}
use Rattle.ms_bits.specs.declared.operations.BinOp.TheVariants as binary
use Rattle.ms_ir.specs.declared.syntax.Name.{Name}
use Rattle.ms_ir.specs.declared.syntax.Ty.{Ty, Int, Ptr, Array', Struct', Named, Row_of-Ty, end_of-Ty, more_of-Ty}
use Rattle.ms_ir.specs.declared.syntax.Operand.{Operand}
use Rattle.ms_ir.specs.declared.syntax.Operand.TheVariants as operand
use Rattle.ms_ir.specs.declared.syntax.Op.{Op}
use Rattle.ms_ir.specs.declared.syntax.Op.TheVariants as op
use Rattle.ms_ir.specs.declared.syntax.Func.{Func}
use Rattle.ms_ir.specs.declared.syntax.Module.{Module}
use Rattle.ms_ir.specs.declared.calls.External.{External}
use Rattle.ms_ir.specs.declared.calls.External.TheVariants.{Malloc, Calloc, Realloc, Free, Memcpy, Memmove, Memset, Memcmp, Strlen, Putchar, Puts, Getchar, Read, Write, Exit, Abort, LlvmMemcpy, LlvmMemmove, LlvmMemset, LifetimeStart, LifetimeEnd, Printf, LlvmTrap, LlvmAssume, LlvmObjectSize, PthreadCreate, PthreadJoin, SchedYield, Word}
use Rattle.ms_ir.specs.Signatures.{called_params}
use Rattle.ms_ir.specs.Instructions.{operands, block_index, count_undefs, one_undef, external_named}
use Rattle.ms_runs.specs.Uses.{uses, external_uses, callee_uses, CheckedUse, Asked, value_uses, string_uses}
use Rattle.ms_ir.specs.Equal.{AddressStep, type_eq}
use Rattle.ms_ir.specs.Written.{Mention, OfType, OfLocal, OfGlobal, type_mentions, row_mentions, operand_mentions, operand_types, result_type}
use Rattle.ms_ir.specs.Locals.{locals, value_type}
use Rattle.ms_check_valid.specs.NamesKnown.{unknown_of}
use Rattle.ms_ir.specs.Spots.{spot}
use Rattle.ms_check_valid.specs.Paths.{insts_of}
use Rattle.ms_check_valid.specs.UsesDefined.{IsUseDefined, operand_use, edge_use}
use Rattle.ms_check_valid.specs.TypesAgree.{operand_fits, is_type, is_variable, step_fits}
use Rattle.ms_check_valid.specs.FormedCode.{is_value_type, operand_formed}
use Rattle.ms_check_valid.specs.SizesFit.{sized}
use Rattle.ms_check_valid.proofs.AtInstructions.{all_parts}
use Rattle.ms_pass_form_laws.proofs.Rounds.{TypeAt, SmallUses}
use Rattle.ms_pass_form_laws.proofs.PassPaths.{HasMask}
use Rattle.ms_pass_form_laws.proofs.Inserted.{ConstFits, ConstGood, unknown_append, unknown_one}
use Rattle.ms_pass_form_laws.proofs.Emitted.{OpGood}
use Rattle.ms_pass_tasks.specs.Environments.{Given}
use Rattle.ms_pass_form_laws.proofs.FuncFits.{OperandGood, OperandsGood, EdgeGood, EdgesGood, edge_undefs}
use Rattle.ms_pass_form_laws.proofs.FuncClauses.{ModuleReady}
use Rattle.ms_pass_form_laws.proofs.Own.{unknown_split}

-- ---- small facts

-- a type that equals a value's is that
pub type_is : (u t : Ty) → is_value_type t ≡ true → type_eq u t ≡ true → u ≡ t
type_is (Int m) (Int n) h e = ap Int (eqb-true m n e)
type_is Ptr Ptr h e = refl
type_is u t h e = grind arith

-- a mention of a type or a global
abbrev Outer : List Mention → Type 0
Outer [] = Unit {0}
Outer (OfLocal x ∷ xs) = ⊥
Outer (OfType x ∷ xs) = Outer xs
Outer (OfGlobal x ∷ xs) = Outer xs

outer_append : (a b : List Mention) → Outer a → Outer b → Outer (a ++ b)
outer_append [] b p q = q
outer_append (OfLocal x ∷ a) b p q = absurd p
outer_append (OfType x ∷ a) b p q = outer_append a b p q
outer_append (OfGlobal x ∷ a) b p q = outer_append a b p q

mutual
  type_outer : (t : Ty) → Outer (type_mentions t)
  type_outer (Int n) = tt
  type_outer Ptr = tt
  type_outer (Array' n s items) = row_outer items
  type_outer (Struct' p s fields) = row_outer fields
  type_outer (Named x) = tt

  row_outer : {n : _} (r : Row_of-Ty n) → Outer (row_mentions r)
  row_outer end_of-Ty = tt
  row_outer (more_of-Ty t ts) = outer_append (type_mentions t) (row_mentions ts) (type_outer t) (row_outer ts)

steps_outer : (steps : List AddressStep) → Outer (flat_map (λ s. type_mentions s.0) steps)
steps_outer [] = tt
steps_outer (s ∷ inner) = outer_append (type_mentions s.0) (flat_map (λ i. type_mentions i.0) inner) (type_outer s.0) (steps_outer inner)

module _ (m j : Module) (a : ModuleReady m j) where
  outer_kept : (names more : List Name) (s k : ℕ) (xs : List Mention) → Outer xs → unknown_of m names s xs ≡ [] → unknown_of j more k xs ≡ []
  outer_kept names more s k [] o e = refl
  outer_kept names more s k (OfLocal x ∷ xs) o e = absurd o
  outer_kept names more s k (OfType x ∷ xs) o e =
      let p = unknown_split m names s (OfType x) xs e in
      unknown_append j more k (OfType x ∷ []) xs (unknown_one j more k (OfType x) (a.type_known x p.0)) (outer_kept names more s k xs o p.1)
  outer_kept names more s k (OfGlobal x ∷ xs) o e =
      let p = unknown_split m names s (OfGlobal x) xs e in
      unknown_append j more k (OfGlobal x ∷ []) xs (unknown_one j more k (OfGlobal x) (a.symbol x p.0)) (outer_kept names more s k xs o p.1)

  -- ---- operands

  module _ (f : Func) (b p s : ℕ) where
    -- an operand as validity and form have it
    pub record Found (t : Ty) (o : Operand) : Type 0 where
      pub value : is_value_type t ≡ true
      pub fits : operand_fits m (value_type f) t o ≡ true
      pub formed : operand_formed t o ≡ true
      pub known : unknown_of m (locals f) s (operand_mentions o) ≡ []
      pub sizes : sized m.types (t ∷ operand_types o) ≡ true

    typed_local : (x : Name) (t : Ty) → is_value_type t ≡ true → is_type (value_type f x) t ≡ true → value_type f x ≡ Some t
    typed_local x t h e = by_type (value_type f x) refl e
      where
        by_type : (r : Option Ty) → value_type f x ≡ r → is_type r t ≡ true → value_type f x ≡ Some t
        by_type None q l = absurd (true≢false (sym l))
        by_type (Some u) q l = q ∙ ap Some (type_is u t h l)

    both_kept : (t : Ty) (c d : Bool) → (type_eq t Ptr && c) ≡ true → (c ≡ true → d ≡ true) → (type_eq t Ptr && d) ≡ true
    both_kept t c d e h = let p = and_parts (type_eq t Ptr) c e in ap₂ (λ x y. x && y) p.0 (h p.1)

    const_global : (t : Ty) (x : Name) → Found t (operand.Global x) → ConstFits j t (operand.Global x)
    const_global t x k = record {
      fits = λ typed. both_kept t (is_variable m x) (is_variable j x) k.fits (a.variable x);
      known = λ names site. outer_kept (locals f) names s site (operand_mentions (operand.Global x)) tt k.known;
      formed = k.formed;
      sized_in = ap (λ ts. sized ts (t ∷ [])) a.types ∙ k.sizes;
    }

    const_offset : (t : Ty) (x : Name) (steps : List AddressStep) → Found t (operand.Offset x steps) → ConstFits j t (operand.Offset x steps)
    const_offset t x steps k = record {
      fits = λ typed. three k.fits;
      known = λ names site. outer_kept (locals f) names s site (operand_mentions (operand.Offset x steps)) (outer_append (flat_map (λ s. type_mentions s.0) steps) (OfGlobal x ∷ []) (steps_outer steps) tt) k.known;
      formed = k.formed;
      sized_in = ap (λ ts. sized ts (t ∷ operand_types (operand.Offset x steps))) a.types ∙ k.sizes;
    }
      where
        three : (type_eq t Ptr && is_variable m x && list_all (step_fits m.types) steps) ≡ true → (type_eq t Ptr && is_variable j x && list_all (step_fits j.types) steps) ≡ true
        three e =
            let q = and_parts (type_eq t Ptr && is_variable m x) (list_all (step_fits m.types) steps) e in
            ap₂ (λ x y. x && y) (both_kept t (is_variable m x) (is_variable j x) q.0 (a.variable x)) (ap (λ ts. list_all (step_fits ts) steps) a.types ∙ q.1)

    const_plain : (t : Ty) (o : Operand) → ((typed : Name → Option Ty) → operand_fits j typed t o ≡ true) → operand_mentions o ≡ [] → Found t o → ConstFits j t o
    const_plain t o fits none k = record {
      fits = fits;
      known = λ names site. ap (unknown_of j names site) none;
      formed = k.formed;
      sized_in = ap (λ ts. sized ts (t ∷ operand_types o)) a.types ∙ k.sizes;
    }

    pub operand_good : (t : Ty) (o : Operand) → Found t o → All IsUseDefined (operand_use (spot f b p s) b p o) → OperandGood f (ConstGood m j) b p t o
    operand_good t (operand.Local x) k u = (typed_local x t k.value k.fits, u 0 (record { func = f; site = s; value = record { block = b; place = p; name = x } }) (omega arith))
    operand_good t (operand.Int n) k u = k.formed
    operand_good t operand.Null k u = const_plain t operand.Null (λ typed. refl) refl k
    operand_good t operand.Undef k u = const_plain t operand.Undef (λ typed. refl) refl k
    operand_good t operand.Poison k u = const_plain t operand.Poison (λ typed. refl) refl k
    operand_good t (operand.Global x) k u = const_global t x k
    operand_good t (operand.Offset x steps) k u = const_offset t x steps k

    abbrev pub AllFound : List (Ty × Operand) → Type 0
    AllFound [] = Unit {0}
    AllFound (o ∷ os) = Found o.0 o.1 × AllFound os

    pub operands_good : (os : List (Ty × Operand)) → AllFound os → All IsUseDefined (flat_map (λ o. operand_use (spot f b p s) b p o.1) os) → OperandsGood f (ConstGood m j) b p os
    operands_good [] k u = tt
    operands_good (o ∷ os) k u =
        let q = all_parts IsUseDefined (operand_use (spot f b p s) b p o.1) (flat_map (λ o. operand_use (spot f b p s) b p o.1) os) u in
        (k.0.value, operand_good o.0 o.1 k.0 q.0, operands_good os k.1 q.1)

    edge_good : (t : Ty) (o : Operand) (from : Name) → Found t o → All IsUseDefined (edge_use (spot f b p s) (o, from)) → EdgeGood f (ConstGood m j) t o from
    edge_good t (operand.Local x) from k u =
        let c = block_index f.blocks from in
        (typed_local x t k.value k.fits, u 0 (record { func = f; site = s; value = record { block = c; place = length (insts_of f c); name = x } }) (omega arith))
    edge_good t (operand.Int n) from k u = k.formed
    edge_good t operand.Null from k u = const_plain t operand.Null (λ typed. refl) refl k
    edge_good t operand.Undef from k u = const_plain t operand.Undef (λ typed. refl) refl k
    edge_good t operand.Poison from k u = const_plain t operand.Poison (λ typed. refl) refl k
    edge_good t (operand.Global x) from k u = const_global t x k
    edge_good t (operand.Offset x steps) from k u = const_offset t x steps k

    pub edges_good : (t : Ty) (es : List (Operand × Name)) → AllFound (map (λ e. (t, e.0)) es) → All IsUseDefined (flat_map (edge_use (spot f b p s)) es) → EdgesGood f (ConstGood m j) t es
    edges_good t [] k u = tt
    edges_good t (e ∷ es) k u =
        let q = all_parts IsUseDefined (edge_use (spot f b p s) e) (flat_map (edge_use (spot f b p s)) es) u in
        (edge_good t e.0 e.1 k.0 q.0, edges_good t es k.1 q.1)

-- ---- roots of edges

pub undefs_same : (t : Ty) (es : List (Operand × Name)) → edge_undefs es ≡ count_undefs (map (λ e. (t, e.0)) es)
undefs_same t [] = refl
undefs_same t (e ∷ es) = ap (λ k. one_undef e.0 + k) (undefs_same t es)

-- ---- uses and masks

-- ---- the uses of `printf`

small_values : (os : List (Ty × Operand)) (k : ℕ) (args : List (Ty × Operand)) (us : List CheckedUse) → k + length args < 2 ^ 32 → SmallUses os us → SmallUses os (value_uses k args ++ us)
small_values os k [] us l h = h
small_values os k (a ∷ args) us l h = ((omega arith, omega (arith, l)), small_values os (suc k) args us (omega (arith, l)) h)

small_strings : (os : List (Ty × Operand)) (k : ℕ) (args : List (Ty × Operand)) → k + length args < 2 ^ 32 → TypeAt os 0 Ptr
    → ((j : ℕ) → slice_get (map (λ o. o.0) os) (k + j) ≡ slice_get (map (λ a. a.0) args) j) → SmallUses os (string_uses k args)
small_strings os k [] l f at = tt
small_strings os k (a ∷ args) l f at =
    by_type a.0 first (small_strings os (suc k) args (omega (arith, l)) f (λ j. ap (slice_get (map (λ o. o.0) os)) (moved k j) ∙ at (suc j)))
  where
    moved : (m j : ℕ) → suc m + j ≡ m + suc j
    moved m j = omega arith

    none : (m : ℕ) → m ≡ m + 0
    none m = omega arith

    first : TypeAt os k a.0
    first = ap (slice_get (map (λ o. o.0) os)) (none k) ∙ at 0

    by_type : (t : Ty) → TypeAt os k t → SmallUses os (string_uses (suc k) args) → SmallUses os (if type_eq t Ptr then Asked k ∷ string_uses (suc k) args else string_uses (suc k) args)
    by_type Ptr e later = ((f, e, omega (arith, l)), later)
    by_type t e later = later

pub small_uses : (given : Given) (main : Bool) (o : Op) → OpGood given o → SmallUses (operands o) (uses given.func main o)
small_uses given main (op.Binary o f t x y) e = by_op o
  where
    by_op : (c : BinOp) → SmallUses (operands (op.Binary c f t x y)) (uses given.func main (op.Binary c f t x y))
    by_op binary.Udiv = ((omega arith, omega arith), tt)
    by_op binary.Sdiv = ((omega arith, omega arith), tt)
    by_op binary.Urem = ((omega arith, omega arith), tt)
    by_op binary.Srem = ((omega arith, omega arith), tt)
    by_op _ = tt
small_uses given main (op.Alloca t u c) e = ((omega arith, omega arith), tt)
small_uses given main (op.Load t x) e = ((omega arith, omega arith), tt)
small_uses given main (op.Store t x y) e = ((omega arith, omega arith), tt)
small_uses given main (op.Call r x as') g = by_name (external_named given.func x) refl
  where
    by_external : (e : External) → map (λ a. a.0) as' ≡ called_params e (map (λ a. a.0) as') → length as' < 2 ^ 32 → SmallUses as' (external_uses e as')
    by_external Malloc t l = ((omega arith, omega arith), tt)
    by_external Calloc t l = ((omega arith, omega arith), ((omega arith, omega arith), tt))
    by_external Realloc t l = ((omega arith, omega arith), ((omega arith, omega arith), tt))
    by_external Free t l = ((omega arith, omega arith), tt)
    by_external Memcpy t l = ((omega arith, omega arith), ((omega arith, omega arith), ((omega arith, omega arith), tt)))
    by_external Memmove t l = ((omega arith, omega arith), ((omega arith, omega arith), ((omega arith, omega arith), tt)))
    by_external Memset t l = ((omega arith, omega arith), ((omega arith, omega arith), tt))
    by_external Memcmp t l = ((omega arith, omega arith), ((omega arith, omega arith), ((omega arith, omega arith), ((omega arith, ap (λ l. slice_get l 0) t, ap (λ l. slice_get l 2) t), ((omega arith, ap (λ l. slice_get l 1) t, ap (λ l. slice_get l 2) t), tt)))))
    by_external Strlen t l = ((omega arith, omega arith), (ap (λ l. slice_get l 0) t, tt))
    by_external Putchar t l = ((omega arith, omega arith), tt)
    by_external Puts t l = ((omega arith, omega arith), (ap (λ l. slice_get l 0) t, tt))
    by_external Getchar t l = tt
    by_external Read t l = ((omega arith, omega arith), ((omega arith, omega arith), ((omega arith, omega arith), tt)))
    by_external Write t l = ((omega arith, omega arith), ((omega arith, omega arith), ((omega arith, omega arith), ((omega arith, ap (λ l. slice_get l 1) t, ap (λ l. slice_get l 2) t), tt))))
    by_external Exit t l = ((omega arith, omega arith), tt)
    by_external Abort t l = tt
    by_external LlvmMemcpy t l = ((omega arith, omega arith), ((omega arith, omega arith), ((omega arith, omega arith), tt)))
    by_external LlvmMemmove t l = ((omega arith, omega arith), ((omega arith, omega arith), ((omega arith, omega arith), tt)))
    by_external LlvmMemset t l = ((omega arith, omega arith), ((omega arith, omega arith), tt))
    by_external LifetimeStart t l = ((omega arith, omega arith), ((omega arith, omega arith), tt))
    by_external LifetimeEnd t l = ((omega arith, omega arith), ((omega arith, omega arith), tt))
    by_external LlvmTrap t l = tt
    by_external LlvmAssume t l = ((omega arith, omega arith), tt)
    by_external LlvmObjectSize t l = ((omega arith, omega arith), tt)
    by_external PthreadCreate t l = ((omega arith, omega arith), ((omega arith, omega arith), ((omega arith, omega arith), tt)))
    by_external PthreadJoin t l = ((omega arith, omega arith), ((omega arith, omega arith), tt))
    by_external SchedYield t l = tt
    by_external (Word f n) t l = tt
    by_external Printf t l =
        let f : TypeAt as' 0 Ptr = ap (λ l. slice_get l 0) t in
        ((omega arith, omega arith), (f, small_values as' 1 (drop 1 as') (string_uses 1 (drop 1 as')) (fewer as' l) (small_strings as' 1 (drop 1 as') (fewer as' l) f (next_type as'))))
      where
        fewer : (args : List (Ty × Operand)) → length args < 2 ^ 32 → 1 + length (drop 1 args) < 2 ^ 32
        fewer [] l = omega arith
        fewer (a ∷ rest) l = omega (arith, l)

        next_type : (args : List (Ty × Operand)) (j : ℕ) → slice_get (map (λ o. o.0) args) (1 + j) ≡ slice_get (map (λ a. a.0) (drop 1 args)) j
        next_type [] j = refl
        next_type (a ∷ rest) j = ap (λ n. slice_get (a.0 ∷ map (λ b. b.0) rest) n) (next j)
          where
            next : (m : ℕ) → 1 + m ≡ suc m
            next m = omega arith

    by_name : (e : Option External) → external_named given.func x ≡ e → SmallUses as' (callee_uses e as')
    by_name None w = tt
    by_name (Some e) w = by_external e (g.outside e w).0 (g.outside e w).2
small_uses given main (op.CondBr c to other) e = ((omega arith, omega arith), tt)
small_uses given main (op.Switch t x other cases) e = ((omega arith, omega arith), tt)
small_uses given main (op.Ret v) e = by_main main
  where
    by_main : (c : Bool) → SmallUses (operands (op.Ret v)) (uses given.func c (op.Ret v))
    by_main true = ((omega arith, omega arith), tt)
    by_main false = tt
small_uses given main _ e = tt

pub has_mask : (o : Op) (t : Ty) → result_type o ≡ Some t → HasMask o
has_mask (op.Call (Some u) x as') t e = tt
has_mask (op.Call None x as') t e = grind arith
has_mask (op.Store u x y) t e = grind arith
has_mask (op.Br to) t e = grind arith
has_mask (op.CondBr d to other) t e = grind arith
has_mask (op.Switch u x other cases) t e = grind arith
has_mask (op.Ret v) t e = grind arith
has_mask op.Unreachable t e = grind arith
has_mask _ t e = tt
