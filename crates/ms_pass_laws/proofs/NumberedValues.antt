-- The values of a function are numbered, each by one number, and have no reserved names.
use Rattle.std.proofs.Common.{◌≡◌, ℕ, zero, suc, ◌<◌, List, [], ◌∷◌, ◌++◌, length, Bool, true, false, Option, Some, None, refl, sym, ap, ◌∙◌, arith, inl, inr}
use Rattle.std.specs.Prelude.{◌⊎◌, ◌||◌, ◌&&◌, not, map, flat_map, filter_map, if◌then◌else◌, option_map, unwrap_or, slice_get}
use Rattle.std.specs.List.{cons_option, list_all}
use Rattle.std.proofs.lemmas.Bool.{and_parts, or_left, or_right}
use Rattle.std.proofs.lemmas.List.Folds.{list_any-append}
use Rattle.ms_ir.specs.declared.syntax.Name.{Name}
use Rattle.ms_ir.specs.declared.syntax.Ty.{Ty}
use Rattle.ms_ir.specs.declared.syntax.Inst.{Inst}
use Rattle.ms_ir.specs.declared.syntax.Block.{Block}
use Rattle.ms_ir.specs.declared.syntax.Func.{Func}
use Rattle.ms_ir.specs.declared.syntax.Module.{Module}
use Rattle.ms_ir.specs.Names.{name_eq, lookup, is_reserved}
use Rattle.ms_ir.specs.Instructions.{func_at}
use Rattle.ms_ir.specs.Equal.{has_name}
use Rattle.ms_ir.specs.Written.{result_type, mentions, type_mentions}
use Rattle.ms_ir.specs.Locals.{results, block_locals, parameter_names, locals, func_insts, typed_result, values, value_type, type_names, symbols}
use Rattle.ms_ir.proofs.RootKinds.{name_same}
use Rattle.ms_check_valid.specs.ReadLimits.{mentioned, func_names}
use Rattle.ms_check_valid.specs.Uninstrumented.{names_are_free}
use Rattle.ms_check_valid.specs.NamesKnown.{global_mentions}
use Rattle.ms_pass_tasks.specs.Known.{KnownName, OneName, FewNumbers}
use Rattle.ms_pass_laws.specs.Numbers.{value_index, values_at, numbering}
use Rattle.ms_runs_good_laws.proofs.CallTypes.{not_true}
use Rattle.ms_runs_good_laws.proofs.JumpFrames.{passes_too}

-- ---- tests of all

pub all_append : {A : Type 0} (P : A → Bool) (xs ys : List A) → list_all P (xs ++ ys) ≡ true → (list_all P xs ≡ true) × (list_all P ys ≡ true)
all_append P [] ys e = (refl, e)
all_append P (x ∷ xs) ys e =
    let h = and_parts (P x) (list_all P (xs ++ ys)) e in let r = all_append P xs ys h.1 in (ap (λ b. b && list_all P xs) h.0 ∙ r.0, r.1)

pub all_flat : {A B : Type 0} (P : B → Bool) (g : A → List B) (xs : List A) (k : ℕ) (y : A) → list_all P (flat_map g xs) ≡ true → slice_get xs k ≡ Some y → list_all P (g y) ≡ true
all_flat P g [] k y e h = absurd (grind arith)
all_flat P g (x ∷ xs) zero y e h = ap (λ o. list_all P (g (unwrap_or o x))) (sym h) ∙ (all_append P (g x) (flat_map g xs) e).0
all_flat P g (x ∷ xs) (suc k) y e h = all_flat P g xs k y (all_append P (g x) (flat_map g xs) e).1 h

-- ---- numbers

-- a number is one more than one that is there
abbrev Suc : Option ℕ → ℕ → Type 0
Suc o v = (k : ℕ) × (o ≡ Some k) × (v ≡ suc k)

suc_of : (o : Option ℕ) (v : ℕ) → option_map suc o ≡ Some v → Suc o v
suc_of None v e = absurd (grind arith)
suc_of (Some k) v e = (k, refl, sym (ap (λ q. unwrap_or q v) e))

zero_of : (v : ℕ) → Some 0 ≡ Some v → v ≡ 0
zero_of v e = sym (ap (λ q. unwrap_or q v) e)

pub few_index : (vs : List (Name × Ty)) (x : Name) (v : ℕ) → value_index vs x ≡ Some v → v < length vs
few_index [] x v e = absurd (grind arith)
few_index (w ∷ vs) x v e = by_name (name_eq w.0 x) e (λ k h. few_index vs x k h)
  where
    by_name : (b : Bool) → (if b then Some 0 else option_map suc (value_index vs x)) ≡ Some v → ((k : ℕ) → value_index vs x ≡ Some k → k < length vs) → v < length (w ∷ vs)
    by_name true e later = let z = zero_of v e in omega (arith, z)
    by_name false e later = let s = suc_of (value_index vs x) v e in let r = later s.0 s.1 in omega (arith, s.2, r)

pub one_index : (vs : List (Name × Ty)) (x y : Name) (v : ℕ) → value_index vs x ≡ Some v → value_index vs y ≡ Some v → x ≡ y
one_index [] x y v e h = absurd (grind arith)
one_index (w ∷ vs) x y v e h = by_names (name_eq w.0 x) refl (name_eq w.0 y) refl e h (λ k a b. one_index vs x y k a b)
  where
    no_zero : (k : ℕ) → v ≡ 0 → v ≡ suc k → ⊥
    no_zero k a b = omega (arith, a, b)

    by_names : (b : Bool) → name_eq w.0 x ≡ b → (c : Bool) → name_eq w.0 y ≡ c → (if b then Some 0 else option_map suc (value_index vs x)) ≡ Some v
        → (if c then Some 0 else option_map suc (value_index vs y)) ≡ Some v → ((k : ℕ) → value_index vs x ≡ Some k → value_index vs y ≡ Some k → x ≡ y) → x ≡ y
    by_names true p true q e h later = sym (name_same w.0 x p) ∙ name_same w.0 y q
    by_names true p false q e h later = let s = suc_of (value_index vs y) v h in absurd (no_zero s.0 (zero_of v e) s.2)
    by_names false p true q e h later = let s = suc_of (value_index vs x) v e in absurd (no_zero s.0 (zero_of v h) s.2)
    by_names false p false q e h later =
        let s = suc_of (value_index vs x) v e in
        let t = suc_of (value_index vs y) v h in
        let same : t.0 ≡ s.0 = let a = s.2 in let b = t.2 in omega (arith, a, b) in
        later s.0 s.1 (t.1 ∙ ap Some same)

pub index_found : (vs : List (Name × Ty)) (x : Name) (t : Ty) → lookup vs x ≡ Some t → (k : ℕ) × (value_index vs x ≡ Some k)
index_found [] x t e = absurd (grind arith)
index_found (w ∷ vs) x t e = by_name (name_eq w.0 x) e (λ h. index_found vs x t h)
  where
    by_name : (b : Bool) → (if b then Some w.1 else lookup vs x) ≡ Some t → (lookup vs x ≡ Some t → (k : ℕ) × (value_index vs x ≡ Some k)) → (k : ℕ) × ((if b then Some 0 else option_map suc (value_index vs x)) ≡ Some k)
    by_name true e later = (0, refl)
    by_name false e later = let r = later e in (suc r.0, ap (option_map suc) r.1)

-- ---- a value is a local

in_params : (ps : List (Ty × Name)) (more : List (Name × Ty)) (x : Name) (t : Ty) → lookup (map (λ p. (p.1, p.0)) ps ++ more) x ≡ Some t → (has_name (map (λ p. p.1) ps) x ≡ true) ⊎ (lookup more x ≡ Some t)
in_params [] more x t e = inr e
in_params (p ∷ ps) more x t e = by_name (name_eq p.1 x) e (λ h. in_params ps more x t h)
  where
    by_name : (b : Bool) → (if b then Some p.0 else lookup (map (λ p. (p.1, p.0)) ps ++ more) x) ≡ Some t
        → (lookup (map (λ p. (p.1, p.0)) ps ++ more) x ≡ Some t → (has_name (map (λ p. p.1) ps) x ≡ true) ⊎ (lookup more x ≡ Some t))
        → ((b || has_name (map (λ p. p.1) ps) x) ≡ true) ⊎ (lookup more x ≡ Some t)
    by_name true e later = inl refl
    by_name false e later = later e

in_results : (xs ys : List Inst) (x : Name) (t : Ty) → lookup (filter_map typed_result (xs ++ ys)) x ≡ Some t → (has_name (results xs) x ≡ true) ⊎ (lookup (filter_map typed_result ys) x ≡ Some t)
in_results [] ys x t e = inr e
in_results (i ∷ xs) ys x t e = by_result i.result (result_type i.op) e (λ h. in_results xs ys x t h)
  where
    by_name : (y : Name) (u : Ty) (b : Bool) → (if b then Some u else lookup (filter_map typed_result (xs ++ ys)) x) ≡ Some t
        → (lookup (filter_map typed_result (xs ++ ys)) x ≡ Some t → (has_name (results xs) x ≡ true) ⊎ (lookup (filter_map typed_result ys) x ≡ Some t))
        → ((b || has_name (results xs) x) ≡ true) ⊎ (lookup (filter_map typed_result ys) x ≡ Some t)
    by_name y u true e later = inl refl
    by_name y u false e later = later e

    past : (b : Bool) → (has_name (results xs) x ≡ true) ⊎ (lookup (filter_map typed_result ys) x ≡ Some t) → ((b || has_name (results xs) x) ≡ true) ⊎ (lookup (filter_map typed_result ys) x ≡ Some t)
    past true h = inl refl
    past false h = h

    by_result : (o : Option Name) (r : Option Ty) → lookup (cons_option (elim o [ Some z ↦ option_map (λ t. (z, t)) r | None ↦ None ]) (filter_map typed_result (xs ++ ys))) x ≡ Some t
        → (lookup (filter_map typed_result (xs ++ ys)) x ≡ Some t → (has_name (results xs) x ≡ true) ⊎ (lookup (filter_map typed_result ys) x ≡ Some t))
        → (has_name (cons_option o (results xs)) x ≡ true) ⊎ (lookup (filter_map typed_result ys) x ≡ Some t)
    by_result None r e later = later e
    by_result (Some y) None e later = past (name_eq y x) (later e)
    by_result (Some y) (Some u) e later = by_name y u (name_eq y x) e later

has_append : (xs ys : List Name) (x : Name) → has_name (xs ++ ys) x ≡ has_name xs x || has_name ys x
has_append xs ys x = list_any-append (λ y. name_eq y x) xs ys

in_blocks : (bs : List Block) (x : Name) (t : Ty) → lookup (filter_map typed_result (flat_map (λ b. b.insts) bs)) x ≡ Some t → has_name (flat_map block_locals bs) x ≡ true
in_blocks [] x t e = absurd (grind arith)
in_blocks (b ∷ bs) x t e =
    has_append (block_locals b) (flat_map block_locals bs) x ∙ by_part (in_results b.insts (flat_map (λ b. b.insts) bs) x t e) (λ h. in_blocks bs x t h)
  where
    by_part : (has_name (results b.insts) x ≡ true) ⊎ (lookup (filter_map typed_result (flat_map (λ b. b.insts) bs)) x ≡ Some t)
        → (lookup (filter_map typed_result (flat_map (λ b. b.insts) bs)) x ≡ Some t → has_name (flat_map block_locals bs) x ≡ true) → (has_name (block_locals b) x || has_name (flat_map block_locals bs) x) ≡ true
    by_part (inl h) later = or_left (has_name (block_locals b) x) (has_name (flat_map block_locals bs) x) (or_right (name_eq b.name x) (has_name (results b.insts) x) h)
    by_part (inr h) later = or_right (has_name (block_locals b) x) (has_name (flat_map block_locals bs) x) (later h)

pub value_local : (f : Func) (x : Name) (t : Ty) → value_type f x ≡ Some t → has_name (locals f) x ≡ true
value_local f x t e = has_append (parameter_names f) (flat_map block_locals f.blocks) x ∙ by_part (in_params f.params (filter_map typed_result (func_insts f)) x t e)
  where
    by_part : (has_name (parameter_names f) x ≡ true) ⊎ (lookup (filter_map typed_result (func_insts f)) x ≡ Some t) → (has_name (parameter_names f) x || has_name (flat_map block_locals f.blocks) x) ≡ true
    by_part (inl h) = or_left (has_name (parameter_names f) x) (has_name (flat_map block_locals f.blocks) x) h
    by_part (inr h) = or_right (has_name (parameter_names f) x) (has_name (flat_map block_locals f.blocks) x) (in_blocks f.blocks x t h)

-- ---- modules

module _ (m : Module) (free : names_are_free m ≡ true) where
  pub locals_free : (n : ℕ) (f : Func) → func_at m n ≡ Some f → (x : Name) → has_name (locals f) x ≡ true → is_reserved x ≡ false
  locals_free n f at x h =
      let P : Name → Bool = λ x. not (is_reserved x) in
      let a = all_append P (type_names m ++ symbols m) (map mentioned (flat_map (λ t. type_mentions t.1) m.types ++ flat_map global_mentions m.globals) ++ flat_map func_names m.funcs) free in
      let b = all_append P (map mentioned (flat_map (λ t. type_mentions t.1) m.types ++ flat_map global_mentions m.globals)) (flat_map func_names m.funcs) a.1 in
      let c = all_flat P func_names m.funcs n f b.1 at in
      not_true (is_reserved x) (passes_too P (locals f) x (all_append P (locals f) (map mentioned (flat_map (λ inst. mentions inst.op) (func_insts f))) c).0 h)

  pub values_are : (n : ℕ) (f : Func) → func_at m n ≡ Some f → values_at m n ≡ values f
  values_are n f at = ap (λ o. unwrap_or (option_map values o) []) at

  pub known_value : (n : ℕ) (f : Func) → func_at m n ≡ Some f → (x : Name) (t : Ty) → value_type f x ≡ Some t → KnownName (numbering m n).env (numbering m n).size x
  known_value n f at x t e =
      let r = index_found (values f) x t e in
      let numbered : value_index (values_at m n) x ≡ Some r.0 = ap (λ vs. value_index vs x) (values_are n f at) ∙ r.1 in
      record { own = locals_free n f at x (value_local f x t e); place = r.0; numbered = numbered; below = few_index (values_at m n) x r.0 numbered }

  pub numbers_one : (n : ℕ) → OneName (numbering m n).env
  numbers_one n x y v e h = one_index (values_at m n) x y v e h

  pub numbers_few : (n : ℕ) → FewNumbers (numbering m n).env (numbering m n).size
  numbers_few n x v e = few_index (values_at m n) x v e
