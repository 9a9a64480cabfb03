-- The edges of the phis of masks and origins.
use Rattle.std.proofs.Common.{◌≡◌, ℕ, zero, suc, ◌+◌, ◌<◌, List, [], ◌∷◌, ◌++◌, Bool, true, false, Option, Some, None, map, take, length, get_or, unwrap_or, option_map, if◌then◌else◌, refl, sym, ap, ◌∙◌, arith, add-one}
use Rattle.std.proofs.lemmas.List.{map-append}
use Rattle.ms_ir.specs.declared.syntax.Name.{Name}
use Rattle.ms_ir.specs.declared.syntax.Ty.{Ty}
use Rattle.ms_ir.specs.declared.syntax.Inst.{Inst}
use Rattle.ms_ir.specs.declared.syntax.Operand.{Operand}
use Rattle.ms_ir.specs.declared.syntax.Operand.TheVariants as constant
use Rattle.ms_ir.specs.Names.{name_eq}
use Rattle.ms_ir.specs.Layout.{width_of}
use Rattle.ms_ir.specs.Instructions.{one_undef}
use Rattle.ms_check_tables.proofs.Items.{take_item}
use Rattle.ms_check_tables.specs.FirstPlace.{first_place, at_place}
use Rattle.ms_pass_tasks.specs.Environments.{Env, tracked, origin_operand}
use Rattle.ms_pass_tasks.specs.PassLists.{mask_edges, origin_from, origins_by, origin_edges, phi_pair, phi_code}
use Rattle.ms_rules_builder.specs.Steps.{tracked_of, shadow_mask, shadow_origin}
use Rattle.ms_rules_builder.specs.declared.tracked.TrackedOperand.{TrackedOperand}
use Rattle.ms_rules.specs.declared.scopes.Scope.{Scope}
use Rattle.ms_rules.specs.Scopes.{env_of, unclean_number}
use Rattle.ms_rules.specs.Edges.{masks, origins, with_operands, first_operand, with_first, shadow_phis}
use Rattle.ms_rules.proofs.Unclean.{number_first}

-- ---- edges in turn

take-zero : {A : Type 0} (xs : List A) → take 0 xs ≡ []
take-zero [] = refl
take-zero (x ∷ xs) = refl

more : (ts : List TrackedOperand) (es : List (Operand × Name)) (k : ℕ) (t : TrackedOperand) (e : Operand × Name) → k < length es → length ts ≡ length es → e ≡ get_or es k e
    → with_operands (masks ts) (take (suc k) es) ≡ with_operands (masks ts) (take k es) ++ (shadow_mask (get_or ts k t).shadow, e.1) ∷ []
more ts [] k t e l same e_is = absurd (omega (arith, l))
more [] (d ∷ es) k t e l same e_is = absurd (omega (arith, same))
more (s ∷ ts) (d ∷ es) zero t e l same e_is =
    ap (λ xs. (shadow_mask s.shadow, d.1) ∷ with_operands (masks ts) xs) (take-zero es) ∙ (λ j. (shadow_mask s.shadow, (sym e_is j).1) ∷ [])
more (s ∷ ts) (d ∷ es) (suc k) t e l same e_is = ap (λ xs. (shadow_mask s.shadow, d.1) ∷ xs) (more ts es k t e (omega (arith, l)) (omega (arith, same)) e_is)

pub edges_more : (ts : List TrackedOperand) (es : List (Operand × Name)) (k : ℕ) (t : TrackedOperand) (e : Operand × Name) → k < length es → length ts ≡ length es → e ≡ get_or es k e
    → with_operands (masks ts) (take (k + 1) es) ≡ with_operands (masks ts) (take k es) ++ (shadow_mask (get_or ts k t).shadow, e.1) ∷ []
edges_more ts es k t e l same e_is = ap (λ n. with_operands (masks ts) (take n es)) (add-one k) ∙ more ts es k t e l same e_is

-- the same of edges with the operands of the first ones
pub firsts_more : (os : List Operand) (labels : List Name) (es : List (Operand × Name)) (k : ℕ) (e : Operand × Name) → k < length es → e ≡ get_or es k e
    → with_first os labels (take (k + 1) es) ≡ with_first os labels (take k es) ++ (first_operand os labels e.1, e.1) ∷ []
firsts_more os labels es k e l is = ap (with_first os labels) (take_item es k e l is) ∙ map-append (λ d. (first_operand os labels d.1, d.1)) (take k es) (e ∷ [])

-- ---- what they come to

masks_tracked : (ts : List TrackedOperand) → masks ts ≡ map (λ y. y.mask) (map tracked_of ts)
masks_tracked [] = refl
masks_tracked (t ∷ ts) = ap (λ os. shadow_mask t.shadow ∷ os) (masks_tracked ts)

origins_tracked : (ts : List TrackedOperand) → origins ts ≡ map (λ y. y.origin) (map tracked_of ts)
origins_tracked [] = refl
origins_tracked (t ∷ ts) = ap (λ os. shadow_origin t.shadow ∷ os) (origins_tracked ts)

module _ (env : Env) (t : Ty) where
  masks_by : (root : ℕ) (es : List (Operand × Name)) → with_operands (map (λ x. x.mask) (tracked env root (map (λ e. (t, e.0)) es))) es ≡ mask_edges env (width_of t) es
  masks_by root [] = refl
  masks_by root (e ∷ es) = ap (λ xs. mask_edges env (width_of t) (e ∷ []) ++ xs) (masks_by (root + one_undef e.0) es)

  at_next : (o : Operand) (os : List Operand) (p : Option ℕ) → at_place (o ∷ os) (option_map suc p) ≡ at_place os p
  at_next o os None = refl
  at_next o os (Some k) = refl

  split : (hit : Bool) (o : Operand) (os : List Operand) (p : Option ℕ) (rest : Operand) → unwrap_or (at_place os p) (constant.Int 0) ≡ rest
      → unwrap_or (at_place (o ∷ os) (if hit then Some 0 else option_map suc p)) (constant.Int 0) ≡ (if hit then o else rest)
  split true o os p rest e = refl
  split false o os p rest e = ap (λ r. unwrap_or r (constant.Int 0)) (at_next o os p) ∙ e

  first_from : (root : ℕ) (es : List (Operand × Name)) (x : Name)
      → first_operand (map (λ y. y.origin) (tracked env root (map (λ e. (t, e.0)) es))) (map (λ e. e.1) es) x ≡ origin_from env root es x
  first_from root [] x = refl
  first_from root (e ∷ es) x =
      split (name_eq e.1 x) (origin_operand env root e.0) (map (λ y. y.origin) (tracked env (root + one_undef e.0) (map (λ e. (t, e.0)) es))) (first_place (map (λ e. e.1) es) x)
      (origin_from env (root + one_undef e.0) es x) (first_from (root + one_undef e.0) es x)

  origins_from : (root : ℕ) (all es : List (Operand × Name)) → with_first (map (λ y. y.origin) (tracked env root (map (λ e. (t, e.0)) all))) (map (λ e. e.1) all) es ≡ origins_by env root all es
  origins_from root all [] = refl
  origins_from root all (e ∷ es) = λ j. (first_from root all e.1 j, e.1) ∷ origins_from root all es j

  module _ (root : ℕ) (ts : List TrackedOperand) (es : List (Operand × Name)) (are : map tracked_of ts ≡ tracked env root (map (λ e. (t, e.0)) es)) where
    pub masks_are : with_operands (masks ts) es ≡ mask_edges env (width_of t) es
    masks_are = ap (λ os. with_operands os es) (masks_tracked ts ∙ ap (map (λ y. y.mask)) are) ∙ masks_by root es

    pub origins_are : with_first (origins ts) (map (λ e. e.1) es) es ≡ origin_edges env root es
    origins_are = ap (λ os. with_first os (map (λ e. e.1) es) es) (origins_tracked ts ∙ ap (map (λ y. y.origin)) are) ∙ origins_from root es es

-- the phis after a phi
pub phis_are : (s : Scope) (v root : ℕ) (n : Option Name) (x : Name) (t : Ty) (es : List (Operand × Name)) (ts : List TrackedOperand) → n ≡ Some x → Some v ≡ unclean_number (env_of s) x
    → map tracked_of ts ≡ tracked (env_of s) root (map (λ e. (t, e.0)) es)
    → shadow_phis v t (with_operands (masks ts) es) (with_first (origins ts) (map (λ e. e.1) es) es) ≡ phi_code (env_of s) root n t es
phis_are s v root n x t es ts named numbered are =
    (λ j. shadow_phis v t (masks_are (env_of s) t root ts es are j) (origins_are (env_of s) t root ts es are j))
    ∙ number_first {A = List Inst} (λ v. phi_pair (env_of s) v root t es) [] ((env_of s).clean x) ((env_of s).number x) (Some v) numbered
    ∙ ap (λ m. phi_code (env_of s) root m t es) (sym named)
