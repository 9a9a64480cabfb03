-- Where the locals of a function stand once, a value has the type of its parameter or of the instruction that gives it.
use Rattle.std.proofs.Common.{◌≡◌, ℕ, zero, suc, List, [], ◌∷◌, ◌++◌, Bool, true, false, Option, Some, None, refl, sym, ap, subst, ◌∙◌, arith, inl, inr, ⊎_elim}
use Rattle.std.specs.Prelude.{◌⊎◌, map, flat_map, filter_map, option_map, unwrap_or, slice_get, if◌then◌else◌}
use Rattle.std.specs.List.{cons_option}
use Rattle.ms_ir.specs.declared.syntax.Name.{Name}
use Rattle.ms_ir.specs.declared.syntax.Ty.{Ty}
use Rattle.ms_ir.specs.declared.syntax.Inst.{Inst}
use Rattle.ms_ir.specs.declared.syntax.Block.{Block}
use Rattle.ms_ir.specs.declared.syntax.Func.{Func}
use Rattle.ms_ir.specs.Names.{name_eq, lookup}
use Rattle.ms_ir.specs.Written.{result_type}
use Rattle.ms_ir.specs.Locals.{results, block_locals, parameter_names, locals, func_insts, typed_result, value_type}
use Rattle.ms_ir.proofs.RootKinds.{name_same as name_sound}
use Rattle.ms_check_valid.specs.NamesOnce.{repeats}
use Rattle.ms_check_valid.proofs.NameTests.{name_same}
use Rattle.ms_pass_form_laws.proofs.Lists.{TypedIn, typed_left, typed_right}
use Rattle.ms_pass_form_laws.proofs.Paths.{In, in_left, in_right, in_either, results_append}
use Rattle.ms_pass_form_laws.proofs.Once.{Distinct, distinct_join, distinct_both, to_distinct}
use Rattle.std.proofs.lemmas.List.{map-append}

-- ---- tables

abbrev names : List (Name × Ty) → List Name
names rows = map (λ r. r.0) rows

-- a name stands in a table with a type
abbrev Row : List (Name × Ty) → Name → Ty → Type 0
Row [] x t = ⊥
Row (r ∷ rows) x t = ((r.0 ≡ x) × (r.1 ≡ t)) ⊎ Row rows x t

row_named : (rows : List (Name × Ty)) (x : Name) (t : Ty) → Row rows x t → In (names rows) x
row_named [] x t p = p
row_named (r ∷ rows) x t (inl p) = inl p.0
row_named (r ∷ rows) x t (inr p) = inr (row_named rows x t p)

row_left : (a b : List (Name × Ty)) (x : Name) (t : Ty) → Row a x t → Row (a ++ b) x t
row_left [] b x t p = absurd p
row_left (r ∷ a) b x t (inl p) = inl p
row_left (r ∷ a) b x t (inr p) = inr (row_left a b x t p)

row_right : (a b : List (Name × Ty)) (x : Name) (t : Ty) → Row b x t → Row (a ++ b) x t
row_right [] b x t p = p
row_right (r ∷ a) b x t p = inr (row_right a b x t p)

-- in a table of distinct names it is found
row_found : (rows : List (Name × Ty)) (x : Name) (t : Ty) → Distinct (names rows) → Row rows x t → lookup rows x ≡ Some t
row_found [] x t d p = absurd p
row_found (r ∷ rows) x t d (inl p) = ap (λ b. if b then Some r.1 else lookup rows x) (ap (λ y. name_eq y x) p.0 ∙ name_same x) ∙ ap Some p.1
row_found (r ∷ rows) x t d (inr p) = by_test (name_eq r.0 x) refl (row_found rows x t d.1 p)
  where
    by_test : (b : Bool) → name_eq r.0 x ≡ b → lookup rows x ≡ Some t → (if b then Some r.1 else lookup rows x) ≡ Some t
    by_test true e go = absurd (d.0 (subst (In (names rows)) (sym (name_sound r.0 x e)) (row_named rows x t p)))
    by_test false e go = go

-- ---- results with their types

typed_named : (is : List Inst) (y : Name) → In (names (filter_map typed_result is)) y → In (results is) y
typed_named [] y p = p
typed_named (i ∷ is) y p = by_result i.result (result_type i.op) p (typed_named is y)
  where
    by_result : (o : Option Name) (t : Option Ty)
        → In (names (cons_option (elim o as (λ w. Option (Name × Ty)) [ Some x ↦ option_map (λ u. (x, u)) t | None ↦ None ]) (filter_map typed_result is))) y
        → (In (names (filter_map typed_result is)) y → In (results is) y) → In (cons_option o (results is)) y
    by_result None t q go = go q
    by_result (Some x) None q go = inr (go q)
    by_result (Some x) (Some u) (inl e) go = inl e
    by_result (Some x) (Some u) (inr q) go = inr (go q)

typed_distinct : (is : List Inst) → Distinct (results is) → Distinct (names (filter_map typed_result is))
typed_distinct [] d = tt
typed_distinct (i ∷ is) d = by_result i.result (result_type i.op) d (typed_distinct is)
  where
    by_result : (o : Option Name) (t : Option Ty) → Distinct (cons_option o (results is)) → (Distinct (results is) → Distinct (names (filter_map typed_result is)))
        → Distinct (names (cons_option (elim o as (λ w. Option (Name × Ty)) [ Some x ↦ option_map (λ u. (x, u)) t | None ↦ None ]) (filter_map typed_result is)))
    by_result None t q go = go q
    by_result (Some x) None q go = go q.1
    by_result (Some x) (Some u) q go = (λ k. q.0 (typed_named is x k), go q.1)

typed_row : (is : List Inst) (x : Name) (t : Ty) → TypedIn is x t → Row (filter_map typed_result is) x t
typed_row [] x t p = p
typed_row (i ∷ is) x t p = by_result i.result (result_type i.op) refl refl p (typed_row is x t)
  where
    by_result : (o : Option Name) (r : Option Ty) → i.result ≡ o → result_type i.op ≡ r → TypedIn (i ∷ is) x t → (TypedIn is x t → Row (filter_map typed_result is) x t)
        → Row (cons_option (elim o as (λ w. Option (Name × Ty)) [ Some y ↦ option_map (λ u. (y, u)) r | None ↦ None ]) (filter_map typed_result is)) x t
    by_result None r e g (inl q) go = let z : None ≡ Some x = sym e ∙ q.0 in grind arith
    by_result None r e g (inr q) go = go q
    by_result (Some y) None e g (inl q) go = let z : None ≡ Some t = sym g ∙ q.1 in grind arith
    by_result (Some y) None e g (inr q) go = go q
    by_result (Some y) (Some u) e g (inl q) go = inl (ap (λ o. unwrap_or o y) (sym e ∙ q.0), ap (λ o. unwrap_or o u) (sym g ∙ q.1))
    by_result (Some y) (Some u) e g (inr q) go = inr (go q)

-- ---- functions

-- the results of a function are among the locals of its blocks
results_in : (bs : List Block) (y : Name) → In (results (flat_map (λ k. k.insts) bs)) y → In (flat_map block_locals bs) y
results_in [] y p = p
results_in (b ∷ bs) y p =
    ⊎_elim (λ l. inr (in_left (results b.insts) (flat_map block_locals bs) y l)) (λ r. inr (in_right (results b.insts) (flat_map block_locals bs) y (results_in bs y r)))
    (in_either (results b.insts) (results (flat_map (λ k. k.insts) bs)) y (subst (λ l. In l y) (results_append b.insts (flat_map (λ k. k.insts) bs)) p))

results_distinct : (bs : List Block) → Distinct (flat_map block_locals bs) → Distinct (results (flat_map (λ k. k.insts) bs))
results_distinct [] d = tt
results_distinct (b ∷ bs) d =
    let parts = distinct_both (results b.insts) (flat_map block_locals bs) d.1 in
    subst Distinct (sym (results_append b.insts (flat_map (λ k. k.insts) bs)))
    (distinct_join (results b.insts) (results (flat_map (λ k. k.insts) bs)) parts.0 (results_distinct bs parts.1) (λ y i j. parts.2 y i (results_in bs y j)))

params_names : (ps : List (Ty × Name)) → names (map (λ p. (p.1, p.0)) ps) ≡ map (λ p. p.1) ps
params_names [] = refl
params_names (p ∷ ps) = ap (λ l. p.1 ∷ l) (params_names ps)

insts_typed : (is : List Inst) (q : ℕ) (i : Inst) (x : Name) (t : Ty) → slice_get is q ≡ Some i → i.result ≡ Some x → result_type i.op ≡ Some t → TypedIn is x t
insts_typed [] q i x t e r g = grind arith
insts_typed (j ∷ is) zero i x t e r g = let same : j ≡ i = ap (λ o. unwrap_or o j) e in inl (ap (λ k. k.result) same ∙ r, ap (λ k. result_type k.op) same ∙ g)
insts_typed (j ∷ is) (suc q) i x t e r g = inr (insts_typed is q i x t e r g)

blocks_typed : (bs : List Block) (b : ℕ) (k : Block) (x : Name) (t : Ty) → slice_get bs b ≡ Some k → TypedIn k.insts x t → TypedIn (flat_map (λ k. k.insts) bs) x t
blocks_typed [] b k x t e p = grind arith
blocks_typed (c ∷ bs) zero k x t e p = typed_left c.insts (flat_map (λ k. k.insts) bs) x t (subst (λ z. TypedIn z.insts x t) (sym (ap (λ o. unwrap_or o c) e)) p)
blocks_typed (c ∷ bs) (suc b) k x t e p = typed_right c.insts (flat_map (λ k. k.insts) bs) x t (blocks_typed bs b k x t e p)

params_row : (ps : List (Ty × Name)) (k : ℕ) (t : Ty) (x : Name) → slice_get ps k ≡ Some (t, x) → Row (map (λ p. (p.1, p.0)) ps) x t
params_row [] k t x e = grind arith
params_row (p ∷ ps) zero t x e = let same : p ≡ (t, x) = ap (λ o. unwrap_or o p) e in inl (ap (λ q. q.1) same, ap (λ q. q.0) same)
params_row (p ∷ ps) (suc k) t x e = inr (params_row ps k t x e)

module _ (f : Func) (once : repeats [] (locals f) ≡ []) where
  -- the values of a function with their types
  abbrev params : List (Name × Ty)
  params = map (λ p. (p.1, p.0)) f.params

  abbrev given : List (Name × Ty)
  given = filter_map typed_result (func_insts f)

  values_distinct : Distinct (names (params ++ given))
  values_distinct =
      let parts = distinct_both (parameter_names f) (flat_map block_locals f.blocks) (to_distinct (locals f) once) in
      subst Distinct (sym (map-append (λ r. r.0) params given ∙ ap (λ l. l ++ names given) (params_names f.params)))
      (distinct_join (parameter_names f) (names given) parts.0 (typed_distinct (func_insts f) (results_distinct f.blocks parts.1))
      (λ y i j. parts.2 y i (results_in f.blocks y (typed_named (func_insts f) y j))))

  -- a result has the type of what its instruction answers
  pub result_typed : (b p : ℕ) (k : Block) (inst : Inst) (x : Name) (t : Ty) → slice_get f.blocks b ≡ Some k → slice_get k.insts p ≡ Some inst → inst.result ≡ Some x
      → result_type inst.op ≡ Some t → value_type f x ≡ Some t
  result_typed b p k inst x t is e named gives =
      row_found (params ++ given) x t values_distinct
      (row_right params given x t (typed_row (func_insts f) x t (blocks_typed f.blocks b k x t is (insts_typed k.insts p inst x t e named gives))))

  -- a parameter has its type
  pub param_typed : (k : ℕ) (t : Ty) (x : Name) → slice_get f.params k ≡ Some (t, x) → value_type f x ≡ Some t
  param_typed k t x e = row_found (params ++ given) x t values_distinct (row_left params given x t (params_row f.params k t x e))
