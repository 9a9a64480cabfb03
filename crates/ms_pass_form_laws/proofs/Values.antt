-- Where the type of a value comes from.
use Rattle.std.proofs.Common.{◌≡◌, ℕ, suc, List, [], ◌∷◌, ◌++◌, Bool, true, false, Option, Some, None, refl, ap, ◌∙◌, arith, inl, inr, ⊎_elim}
use Rattle.std.specs.Prelude.{◌⊎◌, map, flat_map, filter_map, slice_get, option_map, if◌then◌else◌}
use Rattle.std.specs.List.{cons_option}
use Rattle.std.proofs.Math.Path.{ap₂}
use Rattle.std.proofs.lemmas.Option.{same_Some}
use Rattle.ms_ir.specs.declared.syntax.Name.{Name}
use Rattle.ms_ir.specs.declared.syntax.Ty.{Ty}
use Rattle.ms_ir.specs.declared.syntax.Inst.{Inst}
use Rattle.ms_ir.specs.declared.syntax.Block.{Block}
use Rattle.ms_ir.specs.declared.syntax.Func.{Func}
use Rattle.ms_ir.specs.Names.{name_eq, lookup}
use Rattle.ms_ir.specs.Written.{result_type}
use Rattle.ms_ir.specs.Locals.{func_insts, typed_result, value_type}
use Rattle.ms_ir.proofs.RootKinds.{name_same}
use Rattle.ms_check_valid.specs.Paths.{insts_of}
use Rattle.ms_pass_form_laws.proofs.Lists.{TypedIn, typed_at}
use Rattle.ms_pass_form_laws.proofs.Paths.{insts_in}

-- an instruction gives a name, with its type
pub record ResultAt (f : Func) (x : Name) (t : Ty) : Type 0 where
  pub block : ℕ
  pub place : ℕ
  pub inst : Inst
  pub at : slice_get (insts_of f block) place ≡ Some inst
  pub named : inst.result ≡ Some x
  pub gives : result_type inst.op ≡ Some t

lookup_either : (a b : List (Name × Ty)) (x : Name) (t : Ty) → lookup (a ++ b) x ≡ Some t → (lookup a x ≡ Some t) ⊎ (lookup b x ≡ Some t)
lookup_either [] b x t e = inr e
lookup_either (r ∷ a) b x t e = by_test (name_eq r.0 x) e (lookup_either a b x t)
  where
    by_test : (c : Bool) → (if c then Some r.1 else lookup (a ++ b) x) ≡ Some t → (lookup (a ++ b) x ≡ Some t → (lookup a x ≡ Some t) ⊎ (lookup b x ≡ Some t))
        → ((if c then Some r.1 else lookup a x) ≡ Some t) ⊎ (lookup b x ≡ Some t)
    by_test true h go = inl h
    by_test false h go = go h

in_params : (ps : List (Ty × Name)) (x : Name) (t : Ty) → lookup (map (λ p. (p.1, p.0)) ps) x ≡ Some t → (k : ℕ) × (slice_get ps k ≡ Some (t, x))
in_params [] x t e = grind arith
in_params (p ∷ ps) x t e = by_test (name_eq p.1 x) refl e (in_params ps x t)
  where
    by_test : (c : Bool) → name_eq p.1 x ≡ c → (if c then Some p.0 else lookup (map (λ q. (q.1, q.0)) ps) x) ≡ Some t
        → (lookup (map (λ q. (q.1, q.0)) ps) x ≡ Some t → (k : ℕ) × (slice_get ps k ≡ Some (t, x))) → (k : ℕ) × (slice_get (p ∷ ps) k ≡ Some (t, x))
    by_test true s h go = (0, ap₂ (λ a b. Some (a, b)) (same_Some p.0 t h) (name_same p.1 x s))
    by_test false s h go = let r = go h in (suc r.0, r.1)

in_results : (is : List Inst) (x : Name) (t : Ty) → lookup (filter_map typed_result is) x ≡ Some t → TypedIn is x t
in_results [] x t e = grind arith
in_results (i ∷ is) x t e = by_result i.result refl e (in_results is x t)
  where
    by_test : (y : Name) (u : Ty) (c : Bool) → name_eq y x ≡ c → i.result ≡ Some y → result_type i.op ≡ Some u
        → (if c then Some u else lookup (filter_map typed_result is) x) ≡ Some t → (lookup (filter_map typed_result is) x ≡ Some t → TypedIn is x t) → TypedIn (i ∷ is) x t
    by_test y u true s r g h go = inl (r ∙ ap Some (name_same y x s), g ∙ h)
    by_test y u false s r g h go = inr (go h)

    by_type : (y : Name) (o : Option Ty) → result_type i.op ≡ o → i.result ≡ Some y → lookup (cons_option (option_map (λ u. (y, u)) o) (filter_map typed_result is)) x ≡ Some t
        → (lookup (filter_map typed_result is) x ≡ Some t → TypedIn is x t) → TypedIn (i ∷ is) x t
    by_type y None g r h go = inr (go h)
    by_type y (Some u) g r h go = by_test y u (name_eq y x) refl r g h go

    by_result : (o : Option Name) → i.result ≡ o
        → lookup (cons_option (elim o as (λ w. Option (Name × Ty)) [ Some y ↦ option_map (λ u. (y, u)) (result_type i.op) | None ↦ None ]) (filter_map typed_result is)) x ≡ Some t
        → (lookup (filter_map typed_result is) x ≡ Some t → TypedIn is x t) → TypedIn (i ∷ is) x t
    by_result None r h go = inr (go h)
    by_result (Some y) r h go = by_type y (result_type i.op) refl r h go

typed_either : (a b : List Inst) (x : Name) (t : Ty) → TypedIn (a ++ b) x t → TypedIn a x t ⊎ TypedIn b x t
typed_either [] b x t p = inr p
typed_either (i ∷ a) b x t (inl p) = inl (inl p)
typed_either (i ∷ a) b x t (inr p) = ⊎_elim (λ l. inl (inr l)) (λ r. inr r) (typed_either a b x t p)

in_block : (bs : List Block) (x : Name) (t : Ty) → TypedIn (flat_map (λ k. k.insts) bs) x t → (b : ℕ) × TypedIn (insts_in bs b) x t
in_block [] x t p = absurd p
in_block (k ∷ bs) x t p = ⊎_elim (λ l. (0, l)) (λ r. let s = in_block bs x t r in (suc s.0, s.1)) (typed_either k.insts (flat_map (λ k. k.insts) bs) x t p)

-- a value with a type is a parameter or the result of an instruction
pub value_from : (f : Func) (x : Name) (t : Ty) → value_type f x ≡ Some t → ((k : ℕ) × (slice_get f.params k ≡ Some (t, x))) ⊎ ResultAt f x t
value_from f x t e =
    ⊎_elim
    (λ l. inl (in_params f.params x t l))
    (λ r. let s = in_block f.blocks x t (in_results (func_insts f) x t r) in let a = typed_at (insts_of f s.0) x t s.1 in
    inr (record { block = s.0; place = a.0; inst = a.1; at = a.2; named = a.3; gives = a.4 }))
    (lookup_either (map (λ p. (p.1, p.0)) f.params) (filter_map typed_result (func_insts f)) x t e)
