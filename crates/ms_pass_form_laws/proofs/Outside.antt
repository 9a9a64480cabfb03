-- What the instrumented module has outside its instructions.
use Rattle.std.proofs.Common.{◌≡◌, ℕ, zero, suc, ◌+◌, List, [], ◌∷◌, ◌++◌, Bool, true, false, Option, Some, None, refl, sym, ap, subst, ◌∙◌, arith, inl, inr, ⊎_elim, true≢false}
use Rattle.std.specs.Prelude.{◌&&◌, ◌||◌, not, map, flat_map, slice_get, unwrap_or, if◌then◌else◌, IsTrue, IsFalse, codes, is_some, option_map}
use Rattle.std.specs.List.{list_any, list_all}
use Rattle.std.specs.Option.{option_or}
use Rattle.std.proofs.Math.Path.{ap₂}
use Rattle.ms_ir.specs.declared.syntax.Name.{Name}
use Rattle.ms_ir.specs.declared.syntax.Ty.{Int, Ptr}
use Rattle.ms_ir.specs.declared.syntax.Operand.{Operand}
use Rattle.ms_ir.specs.declared.syntax.Operand.TheVariants as operand
use Rattle.ms_ir.specs.declared.syntax.Name.TheVariants.{Text}
use Rattle.ms_check_valid.proofs.TypeShapes.{type_mentions-array}
use Rattle.ms_check_valid.proofs.ByParts.{fits_outside}
use Rattle.ms_pass_form_laws.proofs.Checked.{MayCall}
use Rattle.ms_pass_form_laws.proofs.Inserted.{type_same, ConstGood}
use Rattle.ms_ir.specs.declared.syntax.Func.{Func}
use Rattle.ms_ir.specs.declared.syntax.Decl.{Decl}
use Rattle.ms_ir.specs.declared.syntax.Module.{Module}
use Rattle.ms_ir.specs.declared.calls.RuntimeFn.{RuntimeFn}
use Rattle.ms_ir.specs.declared.calls.RuntimeFn.TheVariants as function
use Rattle.ms_ir.specs.Names.{name_eq, lookup, is_reserved, is_kept, externals, runtime_name}
use Rattle.ms_ir.specs.Instructions.{func_at, over_blocks, one_unmarked, roots_in, func_index}
use Rattle.ms_check_valid.specs.TypesAgree.{is_variable, is_printf, is_start, is_create}
use Rattle.ms_ir.specs.Equal.{has_name}
use Rattle.ms_ir.specs.Written.{Mention, OfType, OfLocal, OfGlobal, type_mentions}
use Rattle.ms_ir.specs.Locals.{symbols, global_names, declared_names, function_names, type_names, locals}
use Rattle.ms_check_valid.specs.NamesKnown.{knows, unknown_of, global_mentions}
use Rattle.ms_check_valid.specs.ExternalsFit.{name_unless, global_fits}
use Rattle.std.proofs.lemmas.List.{map-append}
use Rattle.ms_pass_form_laws.proofs.Own.{unknown_kept}
use Rattle.ms_check_valid.specs.NamesOnce.{repeats, at_sign, percent_sign, function_duplicates, duplicates}
use Rattle.ms_check_valid.specs.HasMain.{is_main, defines_main}
use Rattle.ms_ir.specs.Signatures.{Signature, signature_eq, answers, decl_signature, func_signature, runtime_signature, defined_signature, declared_signature, signature_of, slot_globals, runtime_declarations}
use Rattle.ms_ir.proofs.RootKinds.{name_same}
use Rattle.ms_check_valid.specs.ReadLimits.{mentioned, func_names}
use Rattle.ms_check_valid.specs.Uninstrumented.{IsUninstrumented}
use Rattle.ms_check_valid.specs.Valid.{Valid}
use Rattle.ms_check_valid.proofs.NameTests.{name_within, within_name}
use Rattle.ms_check_valid.proofs.Finding.{both_empty}
use Rattle.ms_pass_tasks.specs.Environments.{Given}
use Rattle.ms_pass_form_laws.proofs.SlotSizes.{hundred}
use Rattle.ms_pass_laws.specs.Pass.{Numbering, pass_funcs, pass}
use Rattle.ms_pass_form_laws.proofs.Paths.{In, to_in, from_in, in_left, in_right, in_either}
use Rattle.ms_pass_form_laws.proofs.Once.{distinct_join, distinct_both, to_distinct, to_once, distinct_from, once_from}
use Rattle.ms_pass_form_laws.proofs.FuncClauses.{ModuleReady}
use Rattle.ms_pass_form_laws.proofs.PlainModules.{all_left}
use Rattle.ms_pass_form_laws.proofs.Within.{given_by}
use Rattle.std.proofs.lemmas.Grind.{flat_map-append}
use Rattle.std.proofs.lemmas.Bool.{and_parts}
use Rattle.ms_runs_good_laws.proofs.CallTypes.{not_true}

-- ---- functions keep their names

pub funcs_named : (given : Given) (numbers : ℕ → Numbering) (fs : List Func) (site root : ℕ) → map (λ f. f.name) (pass_funcs given numbers fs site root) ≡ map (λ f. f.name) fs
funcs_named given numbers [] site root = refl
funcs_named given numbers (f ∷ fs) site root =
    ap (λ l. f.name ∷ l) (funcs_named given (λ k. numbers (k + 1)) fs (site + over_blocks one_unmarked f.blocks) (root + over_blocks (roots_in given.func) f.blocks))

funcs_main : (given : Given) (numbers : ℕ → Numbering) (fs : List Func) (site root : ℕ) → list_any is_main (pass_funcs given numbers fs site root) ≡ list_any is_main fs
funcs_main given numbers [] site root = refl
funcs_main given numbers (f ∷ fs) site root =
    ap (λ b. is_main f || b) (funcs_main given (λ k. numbers (k + 1)) fs (site + over_blocks one_unmarked f.blocks) (root + over_blocks (roots_in given.func) f.blocks))

pub main_kept : (numbers : ℕ → Numbering) (m : Module) → IsTrue (defines_main m) → IsTrue (defines_main (pass numbers m))
main_kept numbers m e = funcs_main (given_by m) numbers m.funcs 1 0 ∙ e

-- ---- names

pub symbols_free : (m : Module) → IsUninstrumented m → (x : Name) → In (symbols m) x → is_reserved x ≡ false
symbols_free m u x i =
    let q = λ (y : Name). not (is_reserved y) in
    let rest = map mentioned (flat_map (λ t. type_mentions t.1) m.types ++ flat_map global_mentions m.globals) ++ flat_map func_names m.funcs in
    not_true (is_reserved x) (all_left q (type_names m ++ symbols m) rest x u.free (in_right (type_names m) (symbols m) x i))

module _ (numbers : ℕ → Numbering) (m : Module) (u : IsUninstrumented m) where
  abbrev j : Module
  j = pass numbers m

  globals_named : global_names j ≡ global_names m ++ map (λ g. g.name) slot_globals
  globals_named = map-append (λ g. g.name) m.globals slot_globals

  decls_named : declared_names j ≡ declared_names m ++ map (λ d. d.name) runtime_declarations
  decls_named = map-append (λ d. d.name) m.decls runtime_declarations

  names_of_funcs : function_names j ≡ function_names m
  names_of_funcs = funcs_named (given_by m) numbers m.funcs 1 0

  symbols_named : symbols j ≡ (global_names m ++ map (λ g. g.name) slot_globals) ++ ((declared_names m ++ map (λ d. d.name) runtime_declarations) ++ function_names m)
  symbols_named = ap₂ (λ a b. a ++ b) globals_named (ap₂ (λ a b. a ++ b) decls_named names_of_funcs)

  variable_kept : (x : Name) → has_name (global_names m) x ≡ true → has_name (global_names j) x ≡ true
  variable_kept x e =
      within_name (global_names j) x (from_in (global_names j) x (subst (λ l. In l x) (sym globals_named)
      (in_left (global_names m) (map (λ g. g.name) slot_globals) x (to_in (global_names m) x (name_within (global_names m) x e)))))

  symbol_in : (x : Name) → In (symbols m) x → In (symbols j) x
  symbol_in x i =
      let g = global_names m in let d = declared_names m in let f = function_names m in
      let s = map (λ g. g.name) slot_globals in let r = map (λ d. d.name) runtime_declarations in
      subst (λ l. In l x) (sym symbols_named)
      (⊎_elim (λ h. in_left (g ++ s) ((d ++ r) ++ f) x (in_left g s x h))
      (λ h. in_right (g ++ s) ((d ++ r) ++ f) x (⊎_elim (λ k. in_left (d ++ r) f x (in_left d r x k)) (λ k. in_right (d ++ r) f x k) (in_either d f x h)))
      (in_either g (d ++ f) x i))

  symbol_kept : (x : Name) → has_name (symbols m) x ≡ true → has_name (symbols j) x ≡ true
  symbol_kept x e = within_name (symbols j) x (from_in (symbols j) x (symbol_in x (to_in (symbols m) x (name_within (symbols m) x e))))

  in_symbols : (x : Name) → has_name (map (λ d. d.name) runtime_declarations) x ≡ true → has_name (symbols j) x ≡ true
  in_symbols x e =
      let g = global_names m ++ map (λ g. g.name) slot_globals in let d = declared_names m in let f = function_names m in let r = map (λ d. d.name) runtime_declarations in
      within_name (symbols j) x (from_in (symbols j) x (subst (λ l. In l x) (sym symbols_named)
      (in_right g ((d ++ r) ++ f) x (in_left (d ++ r) f x (in_right d r x (to_in r x (name_within r x e)))))))

  runtime_known : (fn : RuntimeFn) → MayCall (ConstGood m j) fn → has_name (symbols j) (runtime_name fn) ≡ true
  runtime_known (function.Move k) c = c.symbol
  runtime_known fn c = in_symbols (runtime_name fn) refl

  slot_known : (x : Name) → has_name (map (λ g. g.name) slot_globals) x ≡ true → (is_variable j x ≡ true) × (has_name (symbols j) x ≡ true)
  slot_known x e =
      let s = map (λ g. g.name) slot_globals in
      let i : In (global_names m ++ s) x = in_right (global_names m) s x (to_in s x (name_within s x e)) in (
        within_name (global_names j) x (from_in (global_names j) x (subst (λ l. In l x) (sym globals_named) i)),
        within_name (symbols j) x (from_in (symbols j) x (subst (λ l. In l x) (sym symbols_named)
            (in_left (global_names m ++ s) ((declared_names m ++ map (λ d. d.name) runtime_declarations) ++ function_names m) x i))),
      )

  -- ---- signatures

  symbol_free : (x : Name) → has_name (symbols m) x ≡ true → is_reserved x ≡ false
  symbol_free x e = symbols_free m u x (to_in (symbols m) x (name_within (symbols m) x e))

  runtime_apart : (y x : Name) → is_reserved y ≡ true → is_reserved x ≡ false → name_eq y x ≡ false
  runtime_apart y x kept free = by_test (name_eq y x) refl
    where
      by_test : (c : Bool) → name_eq y x ≡ c → name_eq y x ≡ false
      by_test true e = absurd (true≢false (sym kept ∙ ap is_reserved (name_same y x e) ∙ free))
      by_test false e = e

  no_decl : (ds : List Decl) (x : Name) → is_reserved x ≡ false → list_all (λ d. is_reserved d.name) ds ≡ true → declared_signature ds x ≡ None
  no_decl [] x free e = refl
  no_decl (d ∷ ds) x free e =
      let p = and_parts (is_reserved d.name) (list_all (λ d. is_reserved d.name) ds) e in
      ap (λ c. if c then Some (decl_signature d) else declared_signature ds x) (runtime_apart d.name x p.0 free) ∙ no_decl ds x free p.1

  own_decls : (ds : List Decl) (x : Name) → is_reserved x ≡ false → declared_signature (ds ++ runtime_declarations) x ≡ declared_signature ds x
  own_decls [] x free = no_decl runtime_declarations x free refl
  own_decls (d ∷ ds) x free = ap (λ o. if name_eq d.name x then Some (decl_signature d) else o) (own_decls ds x free)

  own_funcs : (given : Given) (nums : ℕ → Numbering) (fs : List Func) (site root : ℕ) (x : Name) → defined_signature (pass_funcs given nums fs site root) x ≡ defined_signature fs x
  own_funcs given nums [] site root x = refl
  own_funcs given nums (f ∷ fs) site root x =
      ap (λ o. if name_eq f.name x then Some (func_signature f) else o)
      (own_funcs given (λ k. nums (k + 1)) fs (site + over_blocks one_unmarked f.blocks) (root + over_blocks (roots_in given.func) f.blocks) x)

  own_index : (given : Given) (nums : ℕ → Numbering) (fs : List Func) (site root : ℕ) (x : Name) → func_index (pass_funcs given nums fs site root) x ≡ func_index fs x
  own_index given nums [] site root x = refl
  own_index given nums (f ∷ fs) site root x =
      ap (λ o. if name_eq f.name x then Some 0 else option_map suc o)
      (own_index given (λ k. nums (k + 1)) fs (site + over_blocks one_unmarked f.blocks) (root + over_blocks (roots_in given.func) f.blocks) x)

  own_called : (x : Name) → has_name (symbols m) x ≡ true → (signature_of j x ≡ signature_of m x) × (is_printf j x ≡ is_printf m x) × (is_create j x ≡ is_create m x)
  own_called x e =
      let ds = own_decls m.decls x (symbol_free x e) in
      (ap₂ option_or (own_funcs (given_by m) numbers m.funcs 1 0 x) ds, ap (λ o. name_eq x (Text (codes "printf")) && is_some o) ds, ap (λ o. name_eq x (Text (codes "pthread_create")) && is_some o) ds)

  own_starts : (o : Operand) → is_start j o ≡ is_start m o
  own_starts (operand.Global x) = ap (λ (o : Option Signature). elim o [ Some s ↦ signature_eq s (answers Ptr (Ptr ∷ [])) | None ↦ false ]) (own_funcs (given_by m) numbers m.funcs 1 0 x)
  own_starts (operand.Local x) = refl
  own_starts (operand.Int n) = refl
  own_starts operand.Null = refl
  own_starts operand.Undef = refl
  own_starts operand.Poison = refl
  own_starts (operand.Offset x steps) = refl

  other_name : (y x : Name) → is_reserved y ≡ false → is_reserved x ≡ true → name_eq y x ≡ false
  other_name y x free kept = by_test (name_eq y x) refl
    where
      by_test : (c : Bool) → name_eq y x ≡ c → name_eq y x ≡ false
      by_test true e = absurd (true≢false (sym kept ∙ ap is_reserved (sym (name_same y x e)) ∙ free))
      by_test false e = e

  no_function : (fs : List Func) (x : Name) → is_reserved x ≡ true → ((y : Name) → In (map (λ f. f.name) fs) y → is_reserved y ≡ false) → defined_signature fs x ≡ None
  no_function [] x kept free = refl
  no_function (f ∷ fs) x kept free =
      ap (λ c. if c then Some (func_signature f) else defined_signature fs x) (other_name f.name x (free f.name (inl refl)) kept) ∙ no_function fs x kept (λ y i. free y (inr i))

  past_decls : (ds more : List Decl) (x : Name) → is_reserved x ≡ true → ((y : Name) → In (map (λ d. d.name) ds) y → is_reserved y ≡ false) → declared_signature (ds ++ more) x ≡ declared_signature more x
  past_decls [] more x kept free = refl
  past_decls (d ∷ ds) more x kept free =
      ap (λ c. if c then Some (decl_signature d) else declared_signature (ds ++ more) x) (other_name d.name x (free d.name (inl refl)) kept) ∙ past_decls ds more x kept (λ y i. free y (inr i))

  funcs_free : (y : Name) → In (function_names j) y → is_reserved y ≡ false
  funcs_free y i =
      symbols_free m u y (in_right (global_names m) (declared_names m ++ function_names m) y (in_right (declared_names m) (function_names m) y (subst (λ l. In l y) names_of_funcs i)))

  decls_free : (y : Name) → In (declared_names m) y → is_reserved y ≡ false
  decls_free y i = symbols_free m u y (in_right (global_names m) (declared_names m ++ function_names m) y (in_left (declared_names m) (function_names m) y i))

  globals_free : (y : Name) → In (global_names m) y → is_reserved y ≡ false
  globals_free y i = symbols_free m u y (in_left (global_names m) (declared_names m ++ function_names m) y i)

  signature_there : (fn : RuntimeFn) → MayCall (ConstGood m j) fn → signature_of j (runtime_name fn) ≡ Some (runtime_signature fn)
  signature_there (function.Move k) c = c.declared
  signature_there fn c = ap₂ option_or (no_function j.funcs (runtime_name fn) refl funcs_free) (past_decls m.decls runtime_declarations (runtime_name fn) refl decls_free)

  pub module_ready : ModuleReady m j
  module_ready = record {
    types = refl;
    type_known = λ x e. e;
    variable = variable_kept;
    symbol = symbol_kept;
    declared = signature_there;
    runtime_symbol = runtime_known;
    own_call = own_called;
    starts = own_starts;
    own_external = λ x. ap (λ o. if is_some o then None else lookup externals x) (own_index (given_by m) numbers m.funcs 1 0 x);
    slot = slot_known;
  }

  -- ---- names stand once

  in_all : (q : Name → Bool) (l : List Name) (y : Name) → list_all q l ≡ true → In l y → q y ≡ true
  in_all q [] y e i = absurd i
  in_all q (x ∷ l) y e (inl s) = subst (λ z. q z ≡ true) s (and_parts (q x) (list_all q l) e).0
  in_all q (x ∷ l) y e (inr i) = in_all q l y (and_parts (q x) (list_all q l) e).1 i

  slot_reserved : (y : Name) → In (map (λ g. g.name) slot_globals) y → is_reserved y ≡ true
  slot_reserved y i = in_all is_reserved (map (λ g. g.name) slot_globals) y refl i

  runtime_reserved : (y : Name) → In (map (λ d. d.name) runtime_declarations) y → is_reserved y ≡ true
  runtime_reserved y i = in_all is_reserved (map (λ d. d.name) runtime_declarations) y refl i

  clash : (y : Name) → is_reserved y ≡ false → is_reserved y ≡ true → ⊥
  clash y free kept = true≢false (sym kept ∙ free)

  inserted_once : repeats [] (map (λ g. g.name) slot_globals ++ map (λ d. d.name) runtime_declarations) ≡ []
  inserted_once = refl

  outer_once : repeats [] (global_names m ++ declared_names m) ≡ [] → repeats [] (global_names j ++ declared_names j) ≡ []
  outer_once e =
      let g = global_names m in let d = declared_names m in
      let s = map (λ g. g.name) slot_globals in let r = map (λ d. d.name) runtime_declarations in
      let own = distinct_both g d (to_distinct (g ++ d) e) in
      let new = distinct_both s r (to_distinct (s ++ r) inserted_once) in
      subst (λ l. repeats [] l ≡ []) (sym (ap₂ (λ a b. a ++ b) globals_named decls_named))
      (to_once ((g ++ s) ++ (d ++ r))
      (distinct_join (g ++ s) (d ++ r)
      (distinct_join g s own.0 new.0 (λ x p q. clash x (globals_free x p) (slot_reserved x q)))
      (distinct_join d r own.1 new.1 (λ x p q. clash x (decls_free x p) (runtime_reserved x q)))
      (λ x p q. ⊎_elim
      (λ a. ⊎_elim (λ b. own.2 x a b) (λ b. clash x (globals_free x a) (runtime_reserved x b)) (in_either d r x q))
      (λ a. ⊎_elim (λ b. clash x (decls_free x b) (slot_reserved x a)) (λ b. new.2 x a b) (in_either d r x q))
      (in_either g s x p))))

  -- functions and their locals
  seen_first : (c : Bool) (x : Name) (rest : List Name) → at_sign (if c then x ∷ rest else []) ≡ [] → c ≡ false
  seen_first true x rest e = grind arith
  seen_first false x rest e = refl

  names_from : (seen : List Name) (fs : List Func) → function_duplicates seen fs ≡ [] → repeats seen (map (λ f. f.name) fs) ≡ []
  names_from seen [] e = refl
  names_from seen (f ∷ fs) e =
      let h = both_empty (at_sign (repeats seen (f.name ∷ []))) (percent_sign (repeats [] (locals f)) ++ function_duplicates (f.name ∷ seen) fs) e in
      let k = both_empty (percent_sign (repeats [] (locals f))) (function_duplicates (f.name ∷ seen) fs) h.1 in
      ap (λ c. if c then f.name ∷ repeats (f.name ∷ seen) (map (λ f. f.name) fs) else repeats (f.name ∷ seen) (map (λ f. f.name) fs)) (seen_first (has_name seen f.name) f.name [] h.0)
      ∙ names_from (f.name ∷ seen) fs k.1

  unless_seen : (c : Bool) (x : Name) (rest : List Name) → (if c then x ∷ rest else rest) ≡ [] → (c ≡ false) × (rest ≡ [])
  unless_seen true x rest e = grind arith
  unless_seen false x rest e = (refl, e)

  none_twice : (seen : List Name) (gs : List Func) → ((n : ℕ) (g : Func) → slice_get gs n ≡ Some g → repeats [] (locals g) ≡ []) → repeats seen (map (λ f. f.name) gs) ≡ []
      → function_duplicates seen gs ≡ []
  none_twice seen [] once e = refl
  none_twice seen (g ∷ gs) once e =
      let h = unless_seen (has_name seen g.name) g.name (repeats (g.name ∷ seen) (map (λ f. f.name) gs)) e in
      ap₂ (λ a b. a ++ b) (ap (λ c. at_sign (if c then g.name ∷ [] else [])) h.0)
      (ap₂ (λ a b. percent_sign a ++ b) (once 0 g refl) (none_twice (g.name ∷ seen) gs (λ n k at. once (suc n) k at) h.1))

  funcs_once : repeats (global_names m ++ declared_names m) (function_names m) ≡ [] → repeats (global_names j ++ declared_names j) (function_names j) ≡ []
  funcs_once e =
      let d = distinct_from (global_names m ++ declared_names m) (function_names m) e in
      subst (λ l. repeats (global_names j ++ declared_names j) l ≡ []) (sym names_of_funcs)
      (once_from (global_names j ++ declared_names j) (function_names m) d.0 (λ x i k. not_there x (d.1 x i) (subst (λ l. In l x) (sym names_of_funcs) i) k))
    where
      not_there : (x : Name) → has_name (global_names m ++ declared_names m) x ≡ false → In (function_names j) x → In (global_names j ++ declared_names j) x → ⊥
      not_there x unseen fn i =
          let g = global_names m in let d = declared_names m in
          let s = map (λ g. g.name) slot_globals in let r = map (λ d. d.name) runtime_declarations in
          let seen = λ (h : In (g ++ d) x). true≢false (sym (within_name (g ++ d) x (from_in (g ++ d) x h)) ∙ unseen) in
          ⊎_elim
          (λ a. ⊎_elim (λ b. seen (in_left g d x b)) (λ b. clash x (funcs_free x fn) (slot_reserved x b)) (in_either g s x (subst (λ l. In l x) globals_named a)))
          (λ a. ⊎_elim (λ b. seen (in_right g d x b)) (λ b. clash x (funcs_free x fn) (runtime_reserved x b)) (in_either d r x (subst (λ l. In l x) decls_named a)))
          (in_either (global_names j) (declared_names j) x i)

  pub module_once : Valid m → ((n : ℕ) (g : Func) → func_at j n ≡ Some g → repeats [] (locals g) ≡ []) → duplicates j ≡ []
  module_once v once =
      let h = both_empty (percent_sign (repeats [] (type_names m))) (at_sign (repeats [] (global_names m ++ declared_names m)) ++ function_duplicates (global_names m ++ declared_names m) m.funcs) v.names_once in
      let k = both_empty (at_sign (repeats [] (global_names m ++ declared_names m))) (function_duplicates (global_names m ++ declared_names m) m.funcs) h.1 in
      ap₂ (λ a b. a ++ b) h.0
      (ap₂ (λ a b. a ++ b) (ap at_sign (outer_once (no_spelled (repeats [] (global_names m ++ declared_names m)) k.0)))
      (none_twice (global_names j ++ declared_names j) j.funcs once (funcs_once (names_from (global_names m ++ declared_names m) m.funcs k.1))))
    where
      no_spelled : (xs : List Name) → at_sign xs ≡ [] → xs ≡ []
      no_spelled [] e = refl
      no_spelled (x ∷ xs) e = grind arith

  -- ---- the rest

  knows_too : (x : Mention) → knows m [] x ≡ true → knows j [] x ≡ true
  knows_too (OfType x) e = e
  knows_too (OfLocal x) e = e
  knows_too (OfGlobal x) e = symbol_kept x e

  pub types_known : Valid m → unknown_of j [] 0 (flat_map (λ t. type_mentions t.1) j.types) ≡ []
  types_known v = unknown_kept m j [] [] 0 0 (flat_map (λ t. type_mentions t.1) m.types) knows_too (both_empty _ _ v.names_known).0

  append_none : {A : Type 0} (l : List A) → l ++ [] ≡ l
  append_none [] = refl
  append_none (x ∷ l) = ap (λ k. x ∷ k) (append_none l)

  -- a slot's type is an array of integers or an integer, which names no type
  slots_name_nothing : flat_map global_mentions slot_globals ≡ []
  slots_name_nothing = ap₂ (λ a b. (a ++ []) ++ ((b ++ []) ++ [])) (type_mentions-array 100 (Int 64)) (type_mentions-array 100 (Int 32))

  pub globals_known : Valid m → unknown_of j [] 0 (flat_map global_mentions j.globals) ≡ []
  globals_known v =
      ap (unknown_of j [] 0) (flat_map-append global_mentions m.globals slot_globals ∙ ap (λ l. flat_map global_mentions m.globals ++ l) slots_name_nothing ∙ append_none (flat_map global_mentions m.globals))
      ∙ unknown_kept m j [] [] 0 0 (flat_map global_mentions m.globals) knows_too (both_empty _ _ (both_empty _ _ v.names_known).1).0

  slots_fit : flat_map (λ g. name_unless (global_fits g) g.name) slot_globals ≡ []
  slots_fit =
      ap₂ (λ a b. name_unless ((a && true) || false) (Text (codes "__msan_param_tls")) ++ (name_unless ((b && true) || false) (Text (codes "__msan_param_origin_tls")) ++ []))
      (type_same (hundred 64)) (type_same (hundred 32))

  pub globals_fit : Valid m → flat_map (λ g. name_unless (global_fits g) g.name) j.globals ≡ []
  globals_fit v =
      flat_map-append (λ g. name_unless (global_fits g) g.name) m.globals slot_globals
      ∙ ap₂ (λ a b. a ++ b) (both_empty _ _ v.externals_fit).0 slots_fit

  func_named : (fs : List Func) (n : ℕ) (f : Func) → slice_get fs n ≡ Some f → In (map (λ f. f.name) fs) f.name
  func_named [] n f e = grind arith
  func_named (k ∷ fs) zero f e = inl (ap (λ o. (unwrap_or o k).name) e)
  func_named (k ∷ fs) (suc n) f e = inr (func_named fs n f e)

  not_kept_in : (fs : List Func) → ((n : ℕ) (f : Func) → slice_get fs n ≡ Some f → is_kept f.name ≡ false) → (x : Name) → In (map (λ f. f.name) fs) x → is_kept x ≡ false
  not_kept_in [] h x i = absurd i
  not_kept_in (f ∷ fs) h x (inl e) = subst (λ y. is_kept y ≡ false) e (h 0 f refl)
  not_kept_in (f ∷ fs) h x (inr i) = not_kept_in fs (λ n g e. h (suc n) g e) x i

  pub functions_fit : Valid m → (n : ℕ) (f : Func) → func_at j n ≡ Some f → IsFalse (is_kept f.name)
  functions_fit v n f e =
      not_kept_in m.funcs (λ k g h. (fits_outside m v).functions_fit k g h) f.name (subst (λ l. In l f.name) names_of_funcs (func_named j.funcs n f e))
