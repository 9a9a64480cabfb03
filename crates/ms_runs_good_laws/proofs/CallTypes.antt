-- A call of a valid module has words of the types of its callee, and answers what its callee does.
use Rattle.std.proofs.Common.{◌≡◌, ◌<◌, ◌^◌, get_or, ℕ, zero, suc, List, [], ◌∷◌, ◌++◌, map, drop, flat_map, Bool, true, false, not, ◌&&◌, ◌||◌, Option, Some, None, option_map, unwrap_or, is_some, slice_get, refl, sym, ap, subst, ◌∙◌, arith, if◌then◌else◌, true≢false, eqb-true, codes}
use Rattle.std.proofs.Math.Path.{ap₂}
use Rattle.std.specs.Prelude.{IsFalse}
use Rattle.std.specs.List.{list_all, list_any}
use Rattle.std.specs.Option.{option_or}
use Rattle.std.proofs.lemmas.Bool.{eq-eqb, and_parts, or_parts, or_left, or_right}
use Rattle.std.proofs.lemmas.List.Folds.{list_any-append}
use Rattle.std.proofs.lemmas.Grind.{flat_map-append}
use Rattle.ms_ir.specs.declared.syntax.Name.{Name}
use Rattle.ms_ir.specs.declared.syntax.Name.TheVariants.{Text}
use Rattle.ms_ir.specs.declared.syntax.Ty.{Ty, Int, Ptr, Array', Struct', Named}
use Rattle.ms_ir.specs.declared.syntax.Operand.{Operand}
use Rattle.ms_ir.specs.declared.syntax.Op.TheVariants as op
use Rattle.ms_ir.specs.declared.syntax.Inst.{Inst}
use Rattle.ms_ir.specs.declared.syntax.Func.{Func}
use Rattle.ms_ir.specs.declared.syntax.Decl.{Decl}
use Rattle.ms_ir.specs.declared.syntax.Module.{Module}
use Rattle.ms_ir.specs.declared.calls.External.{External}
use Rattle.ms_ir.specs.declared.calls.External.TheVariants as external
use Rattle.ms_ir.specs.declared.calls.RuntimeFn.{RuntimeFn}
use Rattle.ms_bits.specs.declared.word_functions.BitMove.{BitMove}
use Rattle.ms_bits.specs.declared.word_functions.BitMove.TheVariants.{Bswap16, Bswap32, Bswap64, Bitreverse8, Bitreverse16, Bitreverse32, Bitreverse64, Fshl8, Fshl16, Fshl32, Fshl64, Fshr8, Fshr16, Fshr32, Fshr64}
use Rattle.ms_ir.specs.declared.calls.RuntimeFn.TheVariants as runtime
use Rattle.ms_ir.specs.Names.{name_eq, lookup, externals, word_externals, runtime_functions, external_name, runtime_name, move_external, bit_moves, is_kept, is_reserved, is_inserted_name}
use Rattle.ms_ir.specs.Layout.{width_of}
use Rattle.ms_runs.specs.World.{World, Effect, Gives, Does, Goes, Enters, Leaves, Ends}
use Rattle.ms_ir.specs.Instructions.{func_index, func_at, insts_at}
use Rattle.ms_ir.specs.Equal.{has_name, type_eq, result_type_eq, types_eq}
use Rattle.ms_ir.specs.Locals.{locals, global_names, declared_names, type_names, func_insts, value_type}
use Rattle.ms_check_valid.specs.NamesOnce.{repeats, at_sign, percent_sign, function_duplicates}
use Rattle.ms_ir.specs.Signatures.{Signature, signature_eq, func_signature, decl_signature, defined_signature, declared_signature, signature_of, external_signature, is_variadic, called_signature, runtime_signature}
use Rattle.ms_check_valid.specs.TypesAgree.{operand_fits, argument_fault, fits_call, call_fault, first_misfit, is_printable, is_printf, printf_fault, fault_unless, op_fault}
use Rattle.ms_check_valid.specs.ExternalsFit.{name_unless, callees, called_names, is_runtime, is_external, decl_fits}
use Rattle.ms_check_valid.specs.MarksFit.{may_be_marked, all_results, is_inserted, marked_results}
use Rattle.ms_ir.specs.Written.{mentions, operands_mentions}
use Rattle.ms_ir.proofs.RootKinds.{name_same as name_sound}
use Rattle.ms_check_valid.specs.Paths.{insts_of}
use Rattle.ms_check_valid.specs.Valid.{Valid}
use Rattle.ms_check_valid.proofs.NameTests.{name_same}
use Rattle.ms_check_valid.proofs.Finding.{both_empty}
use Rattle.ms_check_valid.proofs.AtInstructions.{fits_at}
use Rattle.ms_check_valid.proofs.ByParts.{fits_outside}
use Rattle.ms_runs_good_laws.proofs.NextFrames.{block_there}
use Rattle.ms_runs_good_laws.specs.GoodStates.{IsBelow}
use Rattle.ms_runs_good_laws.specs.Straight.{Answers, HaveTypes}

-- ---- types

-- equal types have equal widths
pub same_width : (t u : Ty) → type_eq t u ≡ true → width_of t ≡ width_of u
same_width (Int m) (Int n) e = eqb-true m n e
same_width Ptr Ptr e = refl
same_width (Array' m s a) (Array' n r b) e = refl
same_width (Struct' p s a) (Struct' q r b) e = refl
same_width (Named x) (Named y) e = refl
same_width t u e = absurd (true≢false (sym e))

-- a type of one list stands for one of another, as wide
abbrev pub Matched : List Ty → ℕ → Ty → Type 0
Matched types k t = (u : Ty) × (slice_get types k ≡ Some u) × (width_of u ≡ width_of t)

types_match : (ps qs : List Ty) (k : ℕ) (t : Ty) → types_eq ps qs ≡ true → slice_get qs k ≡ Some t → Matched ps k t
types_match [] [] k t e h = grind arith
types_match [] (q ∷ qs) k t e h = absurd (true≢false (sym e))
types_match (p ∷ ps) [] k t e h = absurd (true≢false (sym e))
types_match (p ∷ ps) (q ∷ qs) zero t e h = (p, refl, same_width p q (and_parts (type_eq p q) (types_eq ps qs) e).0 ∙ ap width_of (ap (λ o. unwrap_or o q) h))
types_match (p ∷ ps) (q ∷ qs) (suc k) t e h = types_match ps qs k t (and_parts (type_eq p q) (types_eq ps qs) e).1 h

pub no_fault_at : (t : Bool) (a : Option ℕ) (n : ℕ) → (if t then a else Some n) ≡ None → (t ≡ true) × (a ≡ None)
no_fault_at true a n e = (refl, e)
no_fault_at false a n e = grind arith

pub args_match : (fits : ℕ → Ty × Operand → Bool) (n : ℕ) (ps : List Ty) (args : List (Ty × Operand)) (k : ℕ) (t : Ty) → argument_fault fits n ps args ≡ None → slice_get ps k ≡ Some t
    → Matched (map (λ a. a.0) args) k t
args_match fits n [] args k t e h = grind arith
args_match fits n (p ∷ ps) [] k t e h = grind arith
args_match fits n (p ∷ ps) (a ∷ rest) zero t e h =
    let parts = no_fault_at (type_eq a.0 p && fits n a) (argument_fault fits (suc n) ps rest) n e in
    (a.0, refl, same_width a.0 p (and_parts (type_eq a.0 p) (fits n a) parts.0).0 ∙ ap width_of (ap (λ o. unwrap_or o p) h))
args_match fits n (p ∷ ps) (a ∷ rest) (suc k) t e h =
    args_match fits (suc n) ps rest k t (no_fault_at (type_eq a.0 p && fits n a) (argument_fault fits (suc n) ps rest) n e).1 h

-- arguments have the widths of the parameters, and are as many
pub args_widths : (fits : ℕ → Ty × Operand → Bool) (n : ℕ) (ps : List Ty) (args : List (Ty × Operand)) → argument_fault fits n ps args ≡ None → map (λ a. width_of a.0) args ≡ map width_of ps
args_widths fits n [] [] e = refl
args_widths fits n [] (a ∷ rest) e = grind arith
args_widths fits n (p ∷ ps) [] e = grind arith
args_widths fits n (p ∷ ps) (a ∷ rest) e =
    let parts = no_fault_at (type_eq a.0 p && fits n a) (argument_fault fits (suc n) ps rest) n e in
    ap₂ (λ w l. w ∷ l) (same_width a.0 p (and_parts (type_eq a.0 p) (fits n a) parts.0).0) (args_widths fits (suc n) ps rest parts.1)

pub types_widths : (ps qs : List Ty) → types_eq ps qs ≡ true → map width_of ps ≡ map width_of qs
types_widths [] [] e = refl
types_widths [] (q ∷ qs) e = absurd (true≢false (sym e))
types_widths (p ∷ ps) [] e = absurd (true≢false (sym e))
types_widths (p ∷ ps) (q ∷ qs) e =
    let parts = and_parts (type_eq p q) (types_eq ps qs) e in ap₂ (λ w l. w ∷ l) (same_width p q parts.0) (types_widths ps qs parts.1)

-- words of types are words of other types that are as wide
pub matched_have : {V : Type 0} (holds : V → ℕ → Type 0) (unset : V) (words : List V) (ps qs : List Ty) → ((k : ℕ) (t : Ty) → slice_get qs k ≡ Some t → Matched ps k t)
    → HaveTypes holds unset words ps → HaveTypes holds unset words qs
matched_have holds unset words ps qs match h k t e = let found = match k t e in subst (λ n. holds (get_or words k unset) (2 ^ n)) found.2 (h k found.0 found.1)

-- an answer of a type is one of another that is the same
pub same_answers : (good : World → Type 0) (r s : Option Ty) (e : Effect) → result_type_eq r s ≡ true → Answers good s e → Answers good r e
same_answers good None None e same h = h
same_answers good None (Some u) e same h = absurd (true≢false (sym same))
same_answers good (Some t) None e same h = absurd (true≢false (sym same))
same_answers good (Some t) (Some u) (Gives v w) same h =
    (λ z k. subst (λ n. v < 2 ^ n) (sym (same_width t u same) ∙ ap width_of (ap (λ o. unwrap_or o t) k)) (h.0 u refl), h.1)
same_answers good (Some t) (Some u) (Does w) same h = absurd (none_some u h.0)
  where
    none_some : (u : Ty) → Some u ≡ None → ⊥
    none_some u e = grind arith
same_answers good (Some t) (Some u) (Goes to w) same h = h
same_answers good (Some t) (Some u) (Enters n w) same h = h
same_answers good (Some t) (Some u) (Leaves w) same h = h
same_answers good (Some t) (Some u) (Ends x w) same h = h

pub result_eq_trans : (a b c : Option Ty) → result_type_eq a b ≡ true → result_type_eq b c ≡ true → (good : World → Type 0) (e : Effect) → Answers good c e → Answers good a e
result_eq_trans a b c p q good e h = same_answers good a b e p (same_answers good b c e q h)

-- ---- tables

-- a row that is found in a table passes what all its rows pass
table_passes : {A : Type 0} (p : Name → A → Bool) (table : List (Name × A)) (x : Name) (v : A) → list_all (λ row. p row.0 row.1) table ≡ true → lookup table x ≡ Some v → p x v ≡ true
table_passes p [] x v all e = grind arith
table_passes p (row ∷ rest) x v all e = by_test (name_eq row.0 x) refl e (λ h. table_passes p rest x v (and_parts (p row.0 row.1) (list_all (λ r. p r.0 r.1) rest) all).1 h)
  where
    by_test : (t : Bool) → name_eq row.0 x ≡ t → (if t then Some row.1 else lookup rest x) ≡ Some v → (lookup rest x ≡ Some v → p x v ≡ true) → p x v ≡ true
    by_test true same h later =
        ap (p x) (sym (ap (λ o. unwrap_or o row.1) h)) ∙ ap (λ y. p y row.1) (sym (name_sound row.0 x same)) ∙ (and_parts (p row.0 row.1) (list_all (λ r. p r.0 r.1) rest) all).0
    by_test false same h later = later h

printf_name : Name
printf_name = Text (codes "printf")

-- names of externals are not reserved, and `printf` names the variadic one alone
external_apart : (x : Name) (e : External) → lookup externals x ≡ Some e → (not (is_reserved x) && (if is_variadic e then name_eq x printf_name else not (name_eq x printf_name))) ≡ true
unfolding printf_name word_externals
external_apart x e h = table_passes (λ y d. not (is_reserved y) && (if is_variadic d then name_eq y printf_name else not (name_eq y printf_name))) externals x e refl h

-- an external is found by its own name
pub external_named_so : (x : Name) (e : External) → lookup externals x ≡ Some e → x ≡ external_name e
unfolding word_externals
external_named_so x e h = name_sound x (external_name e) (table_passes (λ y d. name_eq y (external_name d)) externals x e refl h)

-- what a marked call reaches is found by its own name, which isn't `printf`
runtime_named : (x : Name) (f : RuntimeFn) → lookup runtime_functions x ≡ Some f → x ≡ runtime_name f
unfolding bit_moves
runtime_named x f h = name_sound x (runtime_name f) (table_passes (λ y g. name_eq y (runtime_name g)) runtime_functions x f refl h)

runtime_apart : (x : Name) (f : RuntimeFn) → lookup runtime_functions x ≡ Some f → not (name_eq x printf_name) ≡ true
unfolding printf_name bit_moves
runtime_apart x f h = table_passes (λ y g. not (name_eq y printf_name)) runtime_functions x f refl h

-- and no function of a module has it
runtime_kept : (x : Name) (f : RuntimeFn) → lookup runtime_functions x ≡ Some f → is_kept x ≡ true
unfolding is_kept
runtime_kept x f h = or_right (is_reserved x) (is_some (lookup runtime_functions x)) (ap is_some h)

-- what moves bits is an external
move_free : (k : BitMove) → is_reserved (runtime_name (runtime.Move k)) ≡ false
move_free k = refl

pub move_known : (k : BitMove) → lookup externals (runtime_name (runtime.Move k)) ≡ Some (move_external k)
unfolding word_externals
move_known Bswap16 = refl
move_known Bswap32 = refl
move_known Bswap64 = refl
move_known Bitreverse8 = refl
move_known Bitreverse16 = refl
move_known Bitreverse32 = refl
move_known Bitreverse64 = refl
move_known Fshl8 = refl
move_known Fshl16 = refl
move_known Fshl32 = refl
move_known Fshl64 = refl
move_known Fshr8 = refl
move_known Fshr16 = refl
move_known Fshr32 = refl
move_known Fshr64 = refl

-- ---- what `printf` takes

printable_same : (t : Ty) → is_printable t ≡ true → type_eq t t ≡ true
printable_same (Int n) e = eq-eqb n n refl
printable_same Ptr e = refl
printable_same t e = absurd (true≢false (sym e))

rest_arguments : (fits : Ty × Operand → Bool) (k : ℕ) (rest : List (Ty × Operand)) → first_misfit (λ b. is_printable b.0 && fits b) k rest ≡ None
    → (argument_fault (λ n. fits) k (map (λ a. a.0) rest) rest ≡ None) × (types_eq (map (λ a. a.0) rest) (map (λ a. a.0) rest) ≡ true)
rest_arguments fits k [] e = (refl, refl)
rest_arguments fits k (b ∷ rest) e =
    let parts = no_fault_at (is_printable b.0 && fits b) (first_misfit (λ c. is_printable c.0 && fits c) (suc k) rest) k e in
    let both = and_parts (is_printable b.0) (fits b) parts.0 in
    let later = rest_arguments fits (suc k) rest parts.1 in
    let same = printable_same b.0 both.0 in (
      ap (λ t. if t then argument_fault (λ n. fits) (suc k) (map (λ a. a.0) rest) rest else Some k) (ap₂ (λ s t. s && t) same both.1) ∙ later.0,
      ap₂ (λ s t. s && t) same later.1,
    )

printf_arguments : (fits : Ty × Operand → Bool) (args : List (Ty × Operand)) → printf_fault fits args ≡ None
    → (argument_fault (λ n. fits) 0 (Ptr ∷ drop 1 (map (λ a. a.0) args)) args ≡ None) × (types_eq (drop 1 (map (λ a. a.0) args)) (drop 1 (map (λ a. a.0) args)) ≡ true)
printf_arguments fits [] e = grind arith
printf_arguments fits (a ∷ rest) e =
    let parts = no_fault_at (type_eq a.0 Ptr && fits a) (first_misfit (λ b. is_printable b.0 && fits b) 1 rest) 0 e in
    let later = rest_arguments fits 1 rest parts.1 in
    (ap (λ t. if t then argument_fault (λ n. fits) 1 (map (λ b. b.0) rest) rest else Some 0) parts.0 ∙ later.0, later.1)

-- an external that isn't variadic is called with the types that it is declared with
fixed_signature : (e : External) (types : List Ty) → is_variadic e ≡ false → external_signature e ≡ called_signature e types
fixed_signature external.Printf types h = absurd (true≢false h)
fixed_signature e types h = refl

one_variadic : (e : External) → is_variadic e ≡ true → external.Printf ≡ e
one_variadic external.Printf h = refl
one_variadic e h = absurd (true≢false (sym h))

-- ---- callees

pub not_true : (b : Bool) → not b ≡ true → b ≡ false
not_true true e = absurd (true≢false (sym e))
not_true false e = refl

-- a name that a list made of each item has
flat_has : {A : Type 0} (names : A → List Name) (xs : List A) (k : ℕ) (y : A) (x : Name) → slice_get xs k ≡ Some y → has_name (names y) x ≡ true → has_name (flat_map names xs) x ≡ true
flat_has names [] k y x e h = grind arith
flat_has names (z ∷ rest) zero y x e h =
    list_any-append (λ n. name_eq n x) (names z) (flat_map names rest) ∙ or_left (has_name (names z) x) (has_name (flat_map names rest) x) (ap (λ q. has_name (names q) x) (ap (λ o. unwrap_or o z) e) ∙ h)
flat_has names (z ∷ rest) (suc k) y x e h =
    list_any-append (λ n. name_eq n x) (names z) (flat_map names rest) ∙ or_right (has_name (names z) x) (has_name (flat_map names rest) x) (flat_has names rest k y x e h)

-- a function without a place has no signature
pub undefined : (funcs : List Func) (x : Name) → func_index funcs x ≡ None → defined_signature funcs x ≡ None
undefined [] x e = refl
undefined (f ∷ rest) x e = by_test (name_eq f.name x) e (λ h. undefined rest x h)
  where
    no_index : (o : Option ℕ) → option_map suc o ≡ None → o ≡ None
    no_index None e = refl
    no_index (Some n) e = grind arith

    by_test : (t : Bool) → (if t then Some 0 else option_map suc (func_index rest x)) ≡ None → (func_index rest x ≡ None → defined_signature rest x ≡ None)
        → (if t then Some (func_signature f) else defined_signature rest x) ≡ None
    by_test true h later = grind arith
    by_test false h later = later (no_index (func_index rest x) h)

-- a kept name is no function's
unkept : (funcs : List Func) (x : Name) → is_kept x ≡ true → ((n : ℕ) (f : Func) → slice_get funcs n ≡ Some f → is_kept f.name ≡ false) → defined_signature funcs x ≡ None
unkept [] x r h = refl
unkept (f ∷ rest) x r h = by_test (name_eq f.name x) refl (unkept rest x r (λ n g e. h (suc n) g e))
  where
    by_test : (t : Bool) → name_eq f.name x ≡ t → defined_signature rest x ≡ None → (if t then Some (func_signature f) else defined_signature rest x) ≡ None
    by_test true same later = absurd (true≢false (sym r ∙ ap is_kept (sym (name_sound f.name x same)) ∙ h 0 f refl))
    by_test false same later = later

-- a declaration is found by its name
declared : (decls : List Decl) (x : Name) (s : Signature) → declared_signature decls x ≡ Some s → (n : ℕ) × (d : Decl) × (slice_get decls n ≡ Some d) × (d.name ≡ x) × (decl_signature d ≡ s)
declared [] x s e = grind arith
declared (d ∷ rest) x s e = by_test (name_eq d.name x) refl e (λ h. declared rest x s h)
  where
    by_test : (t : Bool) → name_eq d.name x ≡ t → (if t then Some (decl_signature d) else declared_signature rest x) ≡ Some s
        → (declared_signature rest x ≡ Some s → (n : ℕ) × (g : Decl) × (slice_get rest n ≡ Some g) × (g.name ≡ x) × (decl_signature g ≡ s))
        → (n : ℕ) × (g : Decl) × (slice_get (d ∷ rest) n ≡ Some g) × (g.name ≡ x) × (decl_signature g ≡ s)
    by_test true same h later = (0, d, refl, name_sound d.name x same, ap (λ o. unwrap_or o (decl_signature d)) h)
    by_test false same h later = let found = later h in (suc found.0, found.1, found.2, found.3, found.4)

-- a declaration of a valid module fits
decl_passes : (called : List Name) (decls : List Decl) (n : ℕ) (d : Decl) → flat_map (λ g. name_unless (decl_fits called g) g.name) decls ≡ [] → slice_get decls n ≡ Some d → decl_fits called d ≡ true
decl_passes called [] n d none e = grind arith
decl_passes called (g ∷ rest) zero d none e =
    ap (decl_fits called) (sym (ap (λ o. unwrap_or o g) e)) ∙ unless (decl_fits called g) g.name (both_empty (name_unless (decl_fits called g) g.name) (flat_map (λ h. name_unless (decl_fits called h) h.name) rest) none).0
  where
    unless : (t : Bool) (x : Name) → name_unless t x ≡ [] → t ≡ true
    unless true x e = refl
    unless false x e = grind arith
decl_passes called (g ∷ rest) (suc n) d none e =
    decl_passes called rest n d (both_empty (name_unless (decl_fits called g) g.name) (flat_map (λ h. name_unless (decl_fits called h) h.name) rest) none).1 e

-- ---- calls of a valid module

-- a call has words of the types of a function, and answers what it does, which a declaration says once more
pub record CallsAs (ret : Option Ty) (args : List (Ty × Operand)) (s : Signature) : Type 0 where
  pub words : (words : List ℕ) → HaveTypes IsBelow 0 words (map (λ a. a.0) args) → HaveTypes IsBelow 0 words s.params
  pub widths : map (λ a. width_of a.0) args ≡ map width_of s.params
  pub fits : ℕ → Ty × Operand → Bool
  pub declared_params : List Ty
  pub arguments : argument_fault fits 0 declared_params args ≡ None
  pub params : types_eq declared_params s.params ≡ true
  pub declared_ret : Option Ty
  pub first : result_type_eq ret declared_ret ≡ true
  pub second : result_type_eq declared_ret s.ret ≡ true

pub calls_answer : (ret : Option Ty) (args : List (Ty × Operand)) (s : Signature) → CallsAs ret args s → (good : World → Type 0) (e : Effect) → Answers good s.ret e → Answers good ret e
calls_answer ret args s c good e h = result_eq_trans ret c.declared_ret s.ret c.first c.second good e h

some_second : (a : Option ℕ) (n : ℕ) → option_or a (Some n) ≡ None → ⊥
some_second None n e = grind arith
some_second (Some x) n e = grind arith

pub both_none : (a b : Option ℕ) → option_or a b ≡ None → (a ≡ None) × (b ≡ None)
both_none None b e = (refl, e)
both_none (Some x) b e = grind arith

pub holds_unless : (t : Bool) → fault_unless t ≡ None → t ≡ true
holds_unless true e = refl
holds_unless false e = grind arith

flat_of_flat : {A B : Type 0} (names : B → List Name) (items : A → List B) (xs : List A) (k p : ℕ) (y : A) (i : B) (x : Name) → slice_get xs k ≡ Some y → slice_get (items y) p ≡ Some i
    → has_name (names i) x ≡ true → has_name (flat_map names (flat_map items xs)) x ≡ true
flat_of_flat names items [] k p y i x e d h = grind arith
flat_of_flat names items (z ∷ rest) zero p y i x e d h =
    ap (λ l. has_name l x) (flat_map-append names (items z) (flat_map items rest))
    ∙ list_any-append (λ n. name_eq n x) (flat_map names (items z)) (flat_map names (flat_map items rest))
    ∙ or_left (has_name (flat_map names (items z)) x) (has_name (flat_map names (flat_map items rest)) x)
    (flat_has names (items z) p i x (ap (λ o. slice_get (items (unwrap_or o z)) p) e ∙ d) h)
flat_of_flat names items (z ∷ rest) (suc k) p y i x e d h =
    ap (λ l. has_name l x) (flat_map-append names (items z) (flat_map items rest))
    ∙ list_any-append (λ n. name_eq n x) (flat_map names (items z)) (flat_map names (flat_map items rest))
    ∙ or_right (has_name (flat_map names (items z)) x) (has_name (flat_map names (flat_map items rest)) x) (flat_of_flat names items rest k p y i x e d h)

-- a name that is found among functions is that of the one at its place
pub func_found : (funcs : List Func) (x : Name) (n : ℕ) → func_index funcs x ≡ Some n
    → (f : Func) × (slice_get funcs n ≡ Some f) × (f.name ≡ x) × (defined_signature funcs x ≡ Some (func_signature f))
func_found [] x n e = grind arith
func_found (g ∷ rest) x n e = by_test (name_eq g.name x) refl n e (λ k h. func_found rest x k h)
  where
    by_index : (o : Option ℕ) → ((k : ℕ) → o ≡ Some k → (f : Func) × (slice_get rest k ≡ Some f) × (f.name ≡ x) × (defined_signature rest x ≡ Some (func_signature f)))
        → (n : ℕ) → option_map suc o ≡ Some n → (f : Func) × (slice_get (g ∷ rest) n ≡ Some f) × (f.name ≡ x) × (defined_signature rest x ≡ Some (func_signature f))
    by_index None later n k = grind arith
    by_index (Some j) later zero k = grind arith
    by_index (Some j) later (suc n) k = later n (ap Some {x = j} {y = n} (grind (arith, k)))

    by_test : (t : Bool) → name_eq g.name x ≡ t → (n : ℕ) → (if t then Some 0 else option_map suc (func_index rest x)) ≡ Some n
        → ((k : ℕ) → func_index rest x ≡ Some k → (f : Func) × (slice_get rest k ≡ Some f) × (f.name ≡ x) × (defined_signature rest x ≡ Some (func_signature f)))
        → (f : Func) × (slice_get (g ∷ rest) n ≡ Some f) × (f.name ≡ x) × ((if t then Some (func_signature g) else defined_signature rest x) ≡ Some (func_signature f))
    by_test true same zero h later = (g, refl, name_sound g.name x same, refl)
    by_test true same (suc n) h later = grind arith
    by_test false same n h later = by_index (func_index rest x) later n h

-- the name of a function was seen nowhere before
pub unseen_func : (seen : List Name) (funcs : List Func) (n : ℕ) (f : Func) → function_duplicates seen funcs ≡ [] → slice_get funcs n ≡ Some f → has_name seen f.name ≡ false
unseen_func seen [] n f none e = grind arith
unseen_func seen (g ∷ rest) zero f none e =
    ap (λ h. has_name seen h.name) (sym (ap (λ o. unwrap_or o g) e))
    ∙ once (has_name seen g.name) (both_empty (at_sign (repeats seen (g.name ∷ []))) (percent_sign (repeats [] (locals g)) ++ function_duplicates (g.name ∷ seen) rest) none).0
  where
    once : (t : Bool) → at_sign (if t then g.name ∷ repeats (g.name ∷ seen) [] else repeats (g.name ∷ seen) []) ≡ [] → t ≡ false
    once true h = grind arith
    once false h = refl
unseen_func seen (g ∷ rest) (suc n) f none e =
    let parts = both_empty (at_sign (repeats seen (g.name ∷ []))) (percent_sign (repeats [] (locals g)) ++ function_duplicates (g.name ∷ seen) rest) none in
    let later = (both_empty (percent_sign (repeats [] (locals g))) (function_duplicates (g.name ∷ seen) rest) parts.1).1 in
    (or_parts (name_eq g.name f.name) (has_name seen f.name) (unseen_func (g.name ∷ seen) rest n f later e)).1

undeclared : (decls : List Decl) (x : Name) → has_name (map (λ d. d.name) decls) x ≡ false → declared_signature decls x ≡ None
undeclared [] x h = refl
undeclared (d ∷ rest) x h =
    let parts = or_parts (name_eq d.name x) (has_name (map (λ g. g.name) rest) x) h in
    ap (λ t. if t then Some (decl_signature d) else declared_signature rest x) parts.0 ∙ undeclared rest x parts.1

module _ (m : Module) (valid : Valid m) (n b p : ℕ) (f : Func) (inst : Inst) (at : func_at m n ≡ Some f) (due : slice_get (insts_of f b) p ≡ Some inst)
    (ret : Option Ty) (callee : Name) (args : List (Ty × Operand)) (calls : inst.op ≡ op.Call ret callee args) where
  -- an operand fits, and an argument by its place
  abbrev fitted : Ty × Operand → Bool
  fitted o = operand_fits m (value_type f) o.0 o.1

  pub fitted_call : ℕ → Ty × Operand → Bool
  fitted_call = fits_call m (λ o. operand_fits m (value_type f) o.0 o.1) callee

  -- its names and types fit
  no_call_fault : call_fault m fitted (signature_of m callee) ret callee args ≡ None
  unfolding fitted_call
  no_call_fault =
      let there : slice_get (insts_at m n b) p ≡ Some inst = ap (λ o. slice_get (unwrap_or (option_map (λ k. k.insts) (slice_get (unwrap_or (option_map (λ g. g.blocks) o) []) b)) []) p) at ∙ due in
      ap (op_fault m f (λ o. operand_fits m (value_type f) o.0 o.1)) (sym calls) ∙ (fits_at m valid n b p f inst at there).types_agree

  called : has_name (called_names m) callee ≡ true
  called =
      let block = block_there f b p inst due in
      let here : has_name (callees inst.op) callee ≡ true = ap (λ o. has_name (callees o) callee) calls ∙ ap (λ t. t || false) (name_same callee) in
      flat_has (λ g. flat_map (λ i. callees i.op) (func_insts g)) m.funcs n f callee at
      (flat_of_flat (λ i. callees i.op) (λ k. k.insts) f.blocks b p block.0 inst callee block.1 block.2 here)

  -- a callee that is declared, and isn't `printf`
  declared_call : (s : Signature) → is_printf m callee ≡ false → call_fault m fitted (Some s) ret callee args ≡ None
      → (argument_fault fitted_call 0 s.params args ≡ None) × (result_type_eq ret s.ret ≡ true)
  unfolding fitted_call
  declared_call s apart e =
      let parts = both_none (if is_printf m callee then printf_fault fitted args else argument_fault fitted_call 0 s.params args) (fault_unless (result_type_eq ret s.ret)) e in
      (sym (ap (λ t. if t then printf_fault fitted args else argument_fault fitted_call 0 s.params args) apart) ∙ parts.0, holds_unless (result_type_eq ret s.ret) parts.1)

  not_printf : name_eq callee printf_name ≡ false → is_printf m callee ≡ false
  unfolding printf_name
  not_printf e = ap (λ t. t && is_some (declared_signature m.decls callee)) e

  -- a callee that is declared alone: its declaration fits
  outside : (table : Signature) → defined_signature m.funcs callee ≡ None → name_eq callee printf_name ≡ false
      → ((k : ℕ) (d : Decl) → slice_get m.decls k ≡ Some d → d.name ≡ callee → signature_eq (decl_signature d) table ≡ true) → CallsAs ret args table
  outside table none apart fits =
      by_signature (declared_signature m.decls callee) refl
      (ap (λ o. call_fault m fitted (option_or o (declared_signature m.decls callee)) ret callee args) (sym none) ∙ no_call_fault)
    where
      by_signature : (o : Option Signature) → declared_signature m.decls callee ≡ o → call_fault m fitted o ret callee args ≡ None → CallsAs ret args table
      by_signature None e h = absurd (some_second (first_misfit fitted 0 args) 0 h)
      by_signature (Some s) e h =
          let decl = declared m.decls callee s e in
          let same = and_parts (result_type_eq (decl_signature decl.1).ret table.ret) (types_eq (decl_signature decl.1).params table.params) (fits decl.0 decl.1 decl.2 decl.3) in
          let both = declared_call s (not_printf apart) h in record {
            words = λ words have. matched_have IsBelow 0 words (decl_signature decl.1).params table.params (λ k t l. types_match (decl_signature decl.1).params table.params k t same.1 l)
                (matched_have IsBelow 0 words (map (λ a. a.0) args) (decl_signature decl.1).params
                (λ k t l. args_match fitted_call 0 (decl_signature decl.1).params args k t (ap (λ z. argument_fault fitted_call 0 z.params args) decl.4 ∙ both.0) l) have);
            widths = args_widths fitted_call 0 (decl_signature decl.1).params args (ap (λ z. argument_fault fitted_call 0 z.params args) decl.4 ∙ both.0) ∙ types_widths (decl_signature decl.1).params table.params same.1;
            fits = fitted_call;
            declared_params = (decl_signature decl.1).params;
            arguments = ap (λ z. argument_fault fitted_call 0 z.params args) decl.4 ∙ both.0;
            params = same.1;
            declared_ret = (decl_signature decl.1).ret;
            first = ap (λ z. result_type_eq ret z.ret) decl.4 ∙ both.1;
            second = same.0;
          }

  decl_there : (k : ℕ) (d : Decl) → slice_get m.decls k ≡ Some d → decl_fits (called_names m) d ≡ true
  decl_there k d e = decl_passes (called_names m) m.decls k d (fits_outside m valid).declarations_fit e

  -- its declaration is that of an external
  declared_external : (e : External) → is_reserved callee ≡ false → lookup externals callee ≡ Some e
      → (k : ℕ) (d : Decl) → slice_get m.decls k ≡ Some d → d.name ≡ callee → signature_eq (decl_signature d) (external_signature e) ≡ true
  declared_external e free found k d l same =
      sym (ap (λ o. elim o [ Some r ↦ signature_eq (decl_signature d) (external_signature r) | None ↦ false ]) (ap (lookup externals) same ∙ found))
      ∙ passed (is_external d)
      (sym (ap (λ t. not t || is_external d) (ap (has_name (called_names m)) same ∙ called))
      ∙ sym (ap (λ t. if t then is_runtime d else (not (has_name (called_names m) d.name) || is_external d)) (ap is_reserved same ∙ free))
      ∙ decl_there k d l)
    where
      passed : (t : Bool) → (not true || t) ≡ true → t ≡ true
      passed t h = h

  -- an external that is called and isn't defined is declared so, and called
  pub external_declared : (e : External) → func_index m.funcs callee ≡ None → lookup externals callee ≡ Some e
      → (s : Signature) × (signature_of m callee ≡ Some s) × (signature_eq s (external_signature e) ≡ true) × (has_name (called_names m) callee ≡ true)
  external_declared e none found =
      by_signature (declared_signature m.decls callee) refl
      (ap (λ o. call_fault m fitted (option_or o (declared_signature m.decls callee)) ret callee args) (sym (undefined m.funcs callee none)) ∙ no_call_fault)
    where
      free : is_reserved callee ≡ false
      free = not_true (is_reserved callee) (and_parts (not (is_reserved callee)) (if is_variadic e then name_eq callee printf_name else not (name_eq callee printf_name)) (external_apart callee e found)).0

      by_signature : (o : Option Signature) → declared_signature m.decls callee ≡ o → call_fault m fitted o ret callee args ≡ None
          → (s : Signature) × (signature_of m callee ≡ Some s) × (signature_eq s (external_signature e) ≡ true) × (has_name (called_names m) callee ≡ true)
      by_signature None f h = absurd (some_second (first_misfit fitted 0 args) 0 h)
      by_signature (Some s) f h =
          let decl = declared m.decls callee s f in
          (s, ap₂ option_or (undefined m.funcs callee none) f, ap (λ z. signature_eq z (external_signature e)) (sym decl.4) ∙ declared_external e free found decl.0 decl.1 decl.2 decl.3, called)

  -- `printf`
  printf_call : name_eq callee printf_name ≡ true → defined_signature m.funcs callee ≡ None
      → ((k : ℕ) (d : Decl) → slice_get m.decls k ≡ Some d → d.name ≡ callee → signature_eq (decl_signature d) (external_signature external.Printf) ≡ true)
      → CallsAs ret args (called_signature external.Printf (map (λ a. a.0) args))
  unfolding printf_name fitted_call
  printf_call named none fits =
      by_signature (declared_signature m.decls callee) refl
      (ap (λ o. call_fault m fitted (option_or o (declared_signature m.decls callee)) ret callee args) (sym none) ∙ no_call_fault)
    where
      by_signature : (o : Option Signature) → declared_signature m.decls callee ≡ o → call_fault m fitted o ret callee args ≡ None
          → CallsAs ret args (called_signature external.Printf (map (λ a. a.0) args))
      by_signature None e h = absurd (some_second (first_misfit fitted 0 args) 0 h)
      by_signature (Some s) e h =
          let decl = declared m.decls callee s e in
          let table = external_signature external.Printf in
          let same = and_parts (result_type_eq (decl_signature decl.1).ret table.ret) (types_eq (decl_signature decl.1).params table.params) (fits decl.0 decl.1 decl.2 decl.3) in
          let both = both_none (if is_printf m callee then printf_fault fitted args else argument_fault fitted_call 0 s.params args) (fault_unless (result_type_eq ret s.ret)) h in
          let is_it : is_printf m callee ≡ true = ap₂ (λ t o. t && is_some o) named e in
          let wanted : List Ty = Ptr ∷ drop 1 (map (λ a. a.0) args) in
          let found = printf_arguments fitted args (sym (ap (λ t. if t then printf_fault fitted args else argument_fault fitted_call 0 s.params args) is_it) ∙ both.0) in record {
            words = λ words have. matched_have IsBelow 0 words (map (λ a. a.0) args) wanted (λ k t l. args_match (λ n. fitted) 0 wanted args k t found.0 l) have;
            widths = args_widths (λ n. fitted) 0 wanted args found.0;
            fits = λ n. fitted;
            declared_params = wanted;
            arguments = found.0;
            params = found.1;
            declared_ret = (decl_signature decl.1).ret;
            first = ap (λ z. result_type_eq ret z.ret) decl.4 ∙ holds_unless (result_type_eq ret s.ret) both.1;
            second = same.0;
          }

  -- an external
  pub external_call : (e : External) → func_index m.funcs callee ≡ None → lookup externals callee ≡ Some e → CallsAs ret args (called_signature e (map (λ a. a.0) args))
  external_call e none found =
      let apart = and_parts (not (is_reserved callee)) (if is_variadic e then name_eq callee printf_name else not (name_eq callee printf_name)) (external_apart callee e found) in
      let free = not_true (is_reserved callee) apart.0 in
      by_kind free (is_variadic e) refl apart.1
    where
      by_kind : is_reserved callee ≡ false → (t : Bool) → is_variadic e ≡ t → (if t then name_eq callee printf_name else not (name_eq callee printf_name)) ≡ true
          → CallsAs ret args (called_signature e (map (λ a. a.0) args))
      by_kind free true k named =
          let is = one_variadic e k in
          subst (λ x. CallsAs ret args (called_signature x (map (λ a. a.0) args))) is
          (printf_call named (undefined m.funcs callee none) (declared_external external.Printf free (found ∙ ap Some (sym is))))
      by_kind free false k other =
          subst (CallsAs ret args) (fixed_signature e (map (λ a. a.0) args) k)
          (outside (external_signature e) (undefined m.funcs callee none) (not_true (name_eq callee printf_name) other) (declared_external e free found))

  -- what a marked call reaches is declared with its types
  runtime_declared : (r : RuntimeFn) → lookup runtime_functions callee ≡ Some r
      → (k : ℕ) (d : Decl) → slice_get m.decls k ≡ Some d → d.name ≡ callee → signature_eq (decl_signature d) (runtime_signature r) ≡ true
  runtime_declared (runtime.Move i) found k d l same =
      let named = runtime_named callee (runtime.Move i) found in
      declared_external (move_external i) (ap is_reserved named ∙ move_free i) (ap (lookup externals) named ∙ move_known i) k d l same
  runtime_declared r found k d l same =
      let kept : is_reserved callee ≡ true = ap is_reserved (runtime_named callee r found) in
      sym (ap (λ o. elim o [ Some q ↦ signature_eq (decl_signature d) (runtime_signature q) | None ↦ false ]) (ap (lookup runtime_functions) same ∙ found))
      ∙ (sym (ap (λ t. if t then is_runtime d else (not (has_name (called_names m) d.name) || is_external d)) (ap is_reserved same ∙ kept)) ∙ decl_there k d l)

  -- a runtime function
  pub runtime_call : (r : RuntimeFn) → lookup runtime_functions callee ≡ Some r → CallsAs ret args (runtime_signature r)
  runtime_call r found =
      outside (runtime_signature r) (unkept m.funcs callee (runtime_kept callee r found) (λ k g e. is_false (is_kept g.name) ((fits_outside m valid).functions_fit k g e)))
      (not_true (name_eq callee printf_name) (runtime_apart callee r found)) (runtime_declared r found)
    where
      is_false : (t : Bool) → IsFalse t → t ≡ false
      is_false t h = h

  -- a function of the module
  pub defined_call : (g : Func) (k : ℕ) → func_index m.funcs callee ≡ Some k → func_at m k ≡ Some g → argument_fault fitted_call 0 (map (λ q. q.0) g.params) args ≡ None
  defined_call g k found there =
      let func = func_found m.funcs callee k found in
      let symbols = global_names m ++ declared_names m in
      let later = (both_empty (percent_sign (repeats [] (type_names m))) (at_sign (repeats [] symbols) ++ function_duplicates symbols m.funcs) valid.names_once).1 in
      let once = (both_empty (at_sign (repeats [] symbols)) (function_duplicates symbols m.funcs) later).1 in
      let unseen : has_name symbols callee ≡ false = ap (has_name symbols) (sym func.2) ∙ unseen_func symbols m.funcs k func.0 once func.1 in
      let not_declared = (or_parts (has_name (global_names m) callee) (has_name (declared_names m) callee) (sym (list_any-append (λ y. name_eq y callee) (global_names m) (declared_names m)) ∙ unseen)).1 in
      let apart : is_printf m callee ≡ false = ap (λ o. name_eq callee (Text (codes "printf")) && is_some o) (undeclared m.decls callee not_declared) ∙ and_false (name_eq callee (Text (codes "printf"))) in
      let same : func.0 ≡ g = ap (λ o. unwrap_or o g) (sym func.1 ∙ there) in
      ap (λ h. argument_fault fitted_call 0 (map (λ q. q.0) h.params) args) (sym same)
      ∙ (declared_call (func_signature func.0) apart (ap (λ o. call_fault m fitted (option_or o (declared_signature m.decls callee)) ret callee args) (sym func.3) ∙ no_call_fault)).0
    where
      and_false : (t : Bool) → (t && false) ≡ false
      and_false true = refl
      and_false false = refl

  pub defined_answer : (g : Func) (k : ℕ) → func_index m.funcs callee ≡ Some k → func_at m k ≡ Some g → result_type_eq ret g.ret ≡ true
  defined_answer g k found there =
      let func = func_found m.funcs callee k found in
      let symbols = global_names m ++ declared_names m in
      let later = (both_empty (percent_sign (repeats [] (type_names m))) (at_sign (repeats [] symbols) ++ function_duplicates symbols m.funcs) valid.names_once).1 in
      let once = (both_empty (at_sign (repeats [] symbols)) (function_duplicates symbols m.funcs) later).1 in
      let unseen : has_name symbols callee ≡ false = ap (has_name symbols) (sym func.2) ∙ unseen_func symbols m.funcs k func.0 once func.1 in
      let not_declared = (or_parts (has_name (global_names m) callee) (has_name (declared_names m) callee) (sym (list_any-append (λ y. name_eq y callee) (global_names m) (declared_names m)) ∙ unseen)).1 in
      let apart : is_printf m callee ≡ false = ap (λ o. name_eq callee (Text (codes "printf")) && is_some o) (undeclared m.decls callee not_declared) ∙ and_false (name_eq callee (Text (codes "printf"))) in
      let same : func.0 ≡ g = ap (λ o. unwrap_or o g) (sym func.1 ∙ there) in
      ap (λ (h : Func). result_type_eq ret h.ret) (sym same)
      ∙ (declared_call (func_signature func.0) apart (ap (λ o. call_fault m fitted (option_or o (declared_signature m.decls callee)) ret callee args) (sym func.3) ∙ no_call_fault)).1
    where
      and_false : (t : Bool) → (t && false) ≡ false
      and_false true = refl
      and_false false = refl

  -- a callee of an unmarked call that the module doesn't define is an external
  pub known_external : inst.marked ≡ false → func_index m.funcs callee ≡ None → (e : External) × (lookup externals callee ≡ Some e)
  known_external unmarked none =
      by_signature (declared_signature m.decls callee) refl
      (ap (λ o. call_fault m fitted (option_or o (declared_signature m.decls callee)) ret callee args) (sym (undefined m.funcs callee none)) ∙ no_call_fault)
    where
      there : slice_get (insts_at m n b) p ≡ Some inst
      there = ap (λ o. slice_get (unwrap_or (option_map (λ k. k.insts) (slice_get (unwrap_or (option_map (λ g. g.blocks) o) []) b)) []) p) at ∙ due

      plain_marks : (all_results (λ x. not (is_inserted_name x)) inst.result && not (list_any (is_inserted (marked_results f)) (mentions inst.op))) ≡ true
      plain_marks =
          sym (ap (λ t. if t then may_be_marked inst.op && all_results is_inserted_name inst.result
          else all_results (λ x. not (is_inserted_name x)) inst.result && not (list_any (is_inserted (marked_results f)) (mentions inst.op))) unmarked)
          ∙ (fits_at m valid n b p f inst at there).marks_fit

      free : is_reserved callee ≡ false
      free =
          let none_inserted = not_true (list_any (is_inserted (marked_results f)) (mentions inst.op))
          (and_parts (all_results (λ x. not (is_inserted_name x)) inst.result) (not (list_any (is_inserted (marked_results f)) (mentions inst.op))) plain_marks).1 in
          (or_parts (is_reserved callee) (list_any (is_inserted (marked_results f)) (operands_mentions args)) (ap (λ o. list_any (is_inserted (marked_results f)) (mentions o)) (sym calls) ∙ none_inserted)).0

      in_table : (d : Decl) (q : Option External) → lookup externals callee ≡ q
          → elim q [ Some r ↦ signature_eq (decl_signature d) (external_signature r) | None ↦ false ] ≡ true → (e : External) × (lookup externals callee ≡ Some e)
      in_table d (Some e) found h = (e, found)
      in_table d None found h = absurd (true≢false (sym h))

      by_signature : (o : Option Signature) → declared_signature m.decls callee ≡ o → call_fault m fitted o ret callee args ≡ None → (e : External) × (lookup externals callee ≡ Some e)
      by_signature None e h = absurd (some_second (first_misfit fitted 0 args) 0 h)
      by_signature (Some s) e h =
          let decl = declared m.decls callee s e in
          let d = decl.1 in
          let is_one : is_external d ≡ true =
          sym (ap (λ t. not t || is_external d) (ap (has_name (called_names m)) decl.3 ∙ called))
          ∙ sym (ap (λ t. if t then is_runtime d else (not (has_name (called_names m) d.name) || is_external d)) (ap is_reserved decl.3 ∙ free))
          ∙ decl_there decl.0 d decl.2 in
          in_table d (lookup externals callee) refl
          (sym (ap (λ o. elim o [ Some r ↦ signature_eq (decl_signature d) (external_signature r) | None ↦ false ]) (ap (lookup externals) decl.3)) ∙ is_one)
