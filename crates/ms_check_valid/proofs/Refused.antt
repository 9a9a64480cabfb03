-- A module that is refused isn't valid.
use Rattle.std.proofs.Common.{◌≡◌, ℕ, List, [], ◌∷◌, Bool, true, false, refl, sym, ap, subst, ◌∙◌, arith, inl, inr, ⊎_elim, true≢false}
use Rattle.std.specs.Prelude.{◌⊎◌, All, IsTrue, Some, None, slice_get}
use Rattle.ms_ir.specs.declared.syntax.Func.{Func}
use Rattle.ms_ir.specs.declared.syntax.Module.{Module}
use Rattle.ms_check_valid.specs.NamesOnce.{duplicates}
use Rattle.ms_check_valid.specs.NamesKnown.{unknowns}
use Rattle.ms_check_valid.specs.TypesAgree.{mismatches}
use Rattle.ms_check_valid.specs.PhisFit.{bad_edges}
use Rattle.ms_check_valid.specs.HasMain.{defines_main}
use Rattle.ms_check_valid.specs.ExternalsFit.{bad_externals}
use Rattle.ms_check_valid.specs.MarksFit.{bad_marks}
use Rattle.ms_check_valid.specs.SizesFit.{unsized}
use Rattle.ms_check_valid.specs.Paths.{ValueUse, Path, IsDefined, Misses}
use Rattle.ms_check_valid.specs.UsesDefined.{IsUseDefined, UsesDefined}
use Rattle.ms_check_valid.specs.Valid.{Valid}
use Rattle.ms_check_valid.specs.Refusals.{Fault, Duplicate, Unknown, TypeMismatch, BadPhi, NoMain, BadExternal, Undefined, BadMark, BadSize, IsFirstUndefined, IsRefused}
use Rattle.ms_check_valid.proofs.AtInstructions.{all_parts}

-- an empty list has no first item
no_first : {A : Type 0} (xs : List A) (x : A) → xs ≡ [] → slice_get xs 0 ≡ Some x → ⊥
no_first xs x e h = let none : None ≡ Some x = sym (ap (λ l. slice_get l 0) e) ∙ h in grind arith

-- a use that a path misses isn't defined
pub missed : (f : Func) (u : ValueUse) (path : List ℕ) → Misses f u path → IsDefined f u → ⊥
missed f u path h d = ⊎_elim h.own (λ all. h.avoids (all h.before (subst (Path f) h.ends h.leads))) d

-- a module with a use that isn't defined isn't valid
pub undefined : (m : Module) (site : ℕ) (path : List ℕ) → IsFirstUndefined m site path → UsesDefined m → ⊥
undefined m site path h all =
    let parts = all_parts IsUseDefined h.earlier (h.«use» ∷ h.later) (subst (All IsUseDefined) h.splits all) in
    missed h.«use».func h.«use».value path h.misses (parts.1 0 h.«use» (omega arith))

pub invalid : (m : Module) (fault : Fault) → IsRefused m fault → Valid m → ⊥
invalid m (Duplicate x) h v = no_first _ _ v.names_once h
invalid m (Unknown site x) h v = no_first _ _ v.names_known h.1
invalid m (TypeMismatch site operand) h v = no_first _ _ v.types_agree h.1
invalid m (BadPhi site) h v = no_first _ _ v.phis_fit h.1
invalid m NoMain h v = h.1 v.has_main
invalid m (BadExternal x) h v = no_first _ _ v.externals_fit h.1
invalid m (Undefined site path) h v = undefined m site path h.1 v.uses_defined
invalid m (BadMark site) h v = no_first _ _ v.marks_fit h.1
invalid m (BadSize x) h v = no_first _ _ v.sizes_fit h.1

-- a list is empty or has a first item
empty_or_first : {A : Type 0} (xs : List A) → (xs ≡ []) ⊎ ((x : A) × (slice_get xs 0 ≡ Some x))
empty_or_first [] = inl refl
empty_or_first (x ∷ rest) = inr (x, refl)

-- a test passes or doesn't
passes_or_not : (b : Bool) → IsTrue b ⊎ (¬ IsTrue b)
passes_or_not true = inl refl
passes_or_not false = inr (λ e. true≢false (sym e))

-- once it is known whether each use is defined, a module is valid or refused
pub decided : (m : Module) → UsesDefined m ⊎ ((site : ℕ) × (path : List ℕ) × IsFirstUndefined m site path) → Valid m ⊎ ((fault : Fault) × IsRefused m fault)
decided m known =
    next (empty_or_first (duplicates m)) (λ x h. (Duplicate x, h)) (λ once.
    next (empty_or_first (unknowns m)) (λ x h. (Unknown x.0 x.1, (once, h))) (λ names.
    next (empty_or_first (mismatches m)) (λ x h. (TypeMismatch x.0 x.1, ((once, names), h))) (λ types.
    next (empty_or_first (bad_edges m)) (λ x h. (BadPhi x, (((once, names), types), h))) (λ edges.
    ⊎_elim (λ main.
    next (empty_or_first (bad_externals m)) (λ x h. (BadExternal x, (((((once, names), types), edges), main), h))) (λ externals.
    ⊎_elim (λ uses.
    next (empty_or_first (bad_marks m)) (λ x h. (BadMark x, (((((((once, names), types), edges), main), externals), uses), h))) (λ marks.
    next (empty_or_first (unsized m)) (λ x h. (BadSize x, ((((((((once, names), types), edges), main), externals), uses), marks), h))) (λ sizes.
    inl (record {
      names_once = once;
      names_known = names;
      types_agree = types;
      phis_fit = edges;
      has_main = main;
      externals_fit = externals;
      uses_defined = uses;
      marks_fit = marks;
      sizes_fit = sizes;
    }))))
    (λ h. inr (Undefined h.0 h.1, ((((((once, names), types), edges), main), externals), h.2))) known))
    (λ h. inr (NoMain, ((((once, names), types), edges), h))) (passes_or_not (defines_main m))))))
  where
    next : {A : Type 0} {xs : List A} → (xs ≡ []) ⊎ ((x : A) × (slice_get xs 0 ≡ Some x)) → ((x : A) → slice_get xs 0 ≡ Some x → (fault : Fault) × IsRefused m fault)
        → (xs ≡ [] → Valid m ⊎ ((fault : Fault) × IsRefused m fault)) → Valid m ⊎ ((fault : Fault) × IsRefused m fault)
    next either refused go = ⊎_elim go (λ h. inr (refused h.0 h.1)) either
