-- Arguments and their parameters, one by one.
use Rattle.std.proofs.Common.{◌≡◌, ℕ, zero, suc, ◌+◌, ◌<◌, ◌≤◌, List, [], ◌∷◌, length, Bool, true, false, Option, Some, None, refl, sym, ap, ◌∙◌, arith, drop, get_or, add-one}
use Rattle.std.specs.Prelude.{slice_get, if◌then◌else◌}
use Rattle.ms_ir.specs.declared.syntax.Ty.{Ty}
use Rattle.ms_ir.specs.declared.syntax.Operand.{Operand}
use Rattle.ms_ir.proofs.Sizes.{drop_next}
use Rattle.ms_check_valid.specs.TypesAgree.{argument_fault}
use Rattle.ms_check_types.specs.Arguments.{fits_parameter}

-- ---- lists from a place on

pub drop_end : {A : Type 0} (xs : List A) (i : ℕ) → length xs ≤ i → drop i xs ≡ []
drop_end [] zero l = refl
drop_end [] (suc i) l = refl
drop_end (x ∷ xs) zero l = absurd (omega arith)
drop_end (x ∷ xs) (suc i) l = drop_end xs i (omega arith)

get_drop : {A : Type 0} (xs : List A) (k : ℕ) → slice_get (drop k xs) 0 ≡ slice_get xs k
get_drop [] zero = refl
get_drop [] (suc k) = refl
get_drop (x ∷ xs) zero = refl
get_drop (x ∷ xs) (suc k) = get_drop xs k

drop_one : {A : Type 0} (xs : List A) (k : ℕ) → drop 1 (drop k xs) ≡ drop (suc k) xs
drop_one [] zero = refl
drop_one [] (suc k) = refl
drop_one (x ∷ xs) zero = refl
drop_one (x ∷ xs) (suc k) = drop_one xs k

below_get : {A : Type 0} (xs : List A) (k : ℕ) (x : A) → slice_get xs k ≡ Some x → k < length xs
below_get [] k x e = grind arith
below_get (y ∷ xs) zero x e = omega arith
below_get (y ∷ xs) (suc k) x e = let b = below_get xs k x e in omega arith

-- ---- the first argument at fault

module _ (fits : ℕ → Ty × Operand → Bool) where
  arg_on : (k : ℕ) (ps : List Ty) (a : Ty × Operand) (rest : List (Ty × Operand)) → fits_parameter (fits k) (slice_get ps 0) a ≡ true
      → argument_fault fits k ps (a ∷ rest) ≡ argument_fault fits (suc k) (drop 1 ps) rest
  arg_on k [] a rest ok = grind arith
  arg_on k (t ∷ ts) a rest ok = ap (λ b. if b then argument_fault fits (suc k) ts rest else Some k) ok

  arg_stop : (k : ℕ) (ps : List Ty) (a : Ty × Operand) (rest : List (Ty × Operand)) → fits_parameter (fits k) (slice_get ps 0) a ≡ false → argument_fault fits k ps (a ∷ rest) ≡ Some k
  arg_stop k [] a rest bad = refl
  arg_stop k (t ∷ ts) a rest bad = ap (λ b. if b then argument_fault fits (suc k) ts rest else Some k) bad

  module _ (params : List Ty) (args : List (Ty × Operand)) where
    pub argument_passed : (k : ℕ) (a : Ty × Operand) (whole : Option ℕ) → k < length args → a ≡ get_or args k a → fits_parameter (fits k) (slice_get params k) a ≡ true
        → argument_fault fits k (drop k params) (drop k args) ≡ whole → argument_fault fits (k + 1) (drop (k + 1) params) (drop (k + 1) args) ≡ whole
    argument_passed k a whole l is ok inv =
        let e = drop_next args k a l is in
        let p : fits_parameter (fits k) (slice_get (drop k params) 0) a ≡ true = ap (λ o. fits_parameter (fits k) o a) (get_drop params k) ∙ ok in
        ap (λ n. argument_fault fits n (drop n params) (drop (k + 1) args)) (add-one k)
        ∙ ap (λ ps. argument_fault fits (suc k) ps (drop (k + 1) args)) (sym (drop_one params k))
        ∙ sym (arg_on k (drop k params) a (drop (k + 1) args) p) ∙ ap (argument_fault fits k (drop k params)) (sym e) ∙ inv

    pub argument_found : (k : ℕ) (a : Ty × Operand) (whole : Option ℕ) → k < length args → a ≡ get_or args k a → fits_parameter (fits k) (slice_get params k) a ≡ false
        → argument_fault fits k (drop k params) (drop k args) ≡ whole → Some k ≡ whole
    argument_found k a whole l is bad inv =
        let e = drop_next args k a l is in
        let p : fits_parameter (fits k) (slice_get (drop k params) 0) a ≡ false = ap (λ o. fits_parameter (fits k) o a) (get_drop params k) ∙ bad in
        sym (arg_stop k (drop k params) a (drop (k + 1) args) p) ∙ ap (argument_fault fits k (drop k params)) (sym e) ∙ inv

    missing_at : (k : ℕ) (ps : List Ty) → 0 < length ps → argument_fault fits k ps [] ≡ Some k
    missing_at k [] l = absurd (omega arith)
    missing_at k (t ∷ ts) l = refl

    left_over : (ps : List Ty) (k : ℕ) → k < length ps → 0 < length (drop k ps)
    left_over [] k l = absurd (omega arith)
    left_over (t ∷ ts) zero l = omega arith
    left_over (t ∷ ts) (suc k) l = left_over ts k (omega arith)

    pub argument_missing : (k : ℕ) (whole : Option ℕ) → length args ≤ k → k < length params → argument_fault fits k (drop k params) (drop k args) ≡ whole → Some k ≡ whole
    argument_missing k whole done more inv =
        sym (missing_at k (drop k params) (left_over params k more)) ∙ ap (argument_fault fits k (drop k params)) (sym (drop_end args k done)) ∙ inv

    pub arguments_done : (k : ℕ) (whole : Option ℕ) → length args ≤ k → length params ≤ k → argument_fault fits k (drop k params) (drop k args) ≡ whole → None ≡ whole
    arguments_done k whole done few inv =
        sym (ap (λ ts. argument_fault fits k ts (drop k args)) (drop_end params k few) ∙ ap (argument_fault fits k []) (drop_end args k done)) ∙ inv

    pub known_parameter : (k : ℕ) (a : Ty × Operand) → fits_parameter (fits k) (slice_get params k) a ≡ true → k + 1 ≤ length params
    known_parameter k a ok = by_option (slice_get params k) refl ok
      where
        by_option : (o : Option Ty) → slice_get params k ≡ o → fits_parameter (fits k) o a ≡ true → k + 1 ≤ length params
        by_option None e h = grind arith
        by_option (Some t) e h = let b = below_get params k t e in omega arith
