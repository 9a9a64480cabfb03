-- A module is refused for one fault alone, but for the path that shows an undefined use.
use Rattle.std.proofs.Common.{◌≡◌, ℕ, zero, suc, ◌<◌, List, [], ◌∷◌, ◌++◌, refl, sym, ap, subst, ◌∙◌, arith, below_none, below_more}
use Rattle.std.specs.Prelude.{All, IsTrue, Some, None, slice_get}
use Rattle.ms_ir.specs.declared.syntax.Module.{Module}
use Rattle.ms_check_valid.specs.NamesOnce.{duplicates}
use Rattle.ms_check_valid.specs.NamesKnown.{unknowns}
use Rattle.ms_check_valid.specs.TypesAgree.{mismatches}
use Rattle.ms_check_valid.specs.PhisFit.{bad_edges}
use Rattle.ms_check_valid.specs.HasMain.{defines_main}
use Rattle.ms_check_valid.specs.ExternalsFit.{bad_externals}
use Rattle.ms_check_valid.specs.MarksFit.{bad_marks}
use Rattle.ms_check_valid.specs.SizesFit.{unsized}
use Rattle.ms_check_valid.specs.UsesDefined.{IsUseDefined, UsesDefined}
use Rattle.ms_check_valid.specs.Refusals.{Fault, Duplicate, Unknown, TypeMismatch, BadPhi, NoMain, BadExternal, Undefined, BadMark, BadSize, IsFirstUndefined, IsRefused, UpToNames, UpToTypes, UpToPhis, UpToMain, UpToExternals, UpToUses, UpToMarks}
use Rattle.ms_check_valid.proofs.Refused.{missed, undefined}
use Rattle.ms_check.specs.Faults.{without_path}

-- ---- lists

-- an empty list has no first item
no_first : {A : Type 0} (xs : List A) (x : A) → slice_get xs 0 ≡ Some x → xs ≡ [] → ⊥
no_first xs x h e = let none : None ≡ Some x = sym (ap (λ l. slice_get l 0) e) ∙ h in grind arith

-- a list has one first item
one_first : {A : Type 0} (xs : List A) (x y : A) → slice_get xs 0 ≡ Some x → slice_get xs 0 ≡ Some y → x ≡ y
one_first xs x y h k = let both : Some x ≡ Some y = sym h ∙ k in cc

-- two items are the same where each is the first that a fact doesn't hold of
first_unlike : {A : Type 0} (P : A → Type 0) (before others after rest : List A) (x y : A) → before ++ x ∷ after ≡ others ++ y ∷ rest
    → All P before → All P others → (P x → ⊥) → (P y → ⊥) → x ≡ y
first_unlike P [] [] after rest x y e h k n o = let both : x ∷ after ≡ y ∷ rest = e in cc
first_unlike P [] (z ∷ others) after rest x y e h k n o =
    let both : x ∷ after ≡ z ∷ (others ++ y ∷ rest) = e in
    let same : z ≡ x = cc in
    absurd (n (subst P same (k 0 z (omega arith))))
first_unlike P (z ∷ before) [] after rest x y e h k n o =
    let both : z ∷ (before ++ x ∷ after) ≡ y ∷ rest = e in
    let same : z ≡ y = cc in
    absurd (o (subst P same (h 0 z (omega arith))))
first_unlike P (z ∷ before) (w ∷ others) after rest x y e h k n o =
    let both : z ∷ (before ++ x ∷ after) ≡ w ∷ (others ++ y ∷ rest) = e in
    let tails : before ++ x ∷ after ≡ others ++ y ∷ rest = cc in
    first_unlike P before others after rest x y tails (λ i d l. h (suc i) d (omega (arith, l))) (λ i d l. k (suc i) d (omega (arith, l))) n o

-- ---- undefined uses

-- the first use that isn't defined has one site
one_site : (m : Module) (s t : ℕ) (p q : List ℕ) → IsFirstUndefined m s p → IsFirstUndefined m t q → s ≡ t
one_site m s t p q h k =
    let same : h.«use» ≡ k.«use» = first_unlike IsUseDefined h.earlier k.earlier h.later k.later h.«use» k.«use» (sym h.splits ∙ k.splits) h.defined k.defined
    (λ d. missed h.«use».func h.«use».value p h.misses d) (λ d. missed k.«use».func k.«use».value q k.misses d) in
    sym h.stands ∙ ap (λ u. u.site) same ∙ k.stands

-- ---- clauses

-- the clause with a number, counted from 0
abbrev Clause : Module → ℕ → Type 0
Clause m zero = duplicates m ≡ []
Clause m (suc zero) = unknowns m ≡ []
Clause m (suc (suc zero)) = mismatches m ≡ []
Clause m (suc (suc (suc zero))) = bad_edges m ≡ []
Clause m (suc (suc (suc (suc zero)))) = IsTrue (defines_main m)
Clause m (suc (suc (suc (suc (suc zero))))) = bad_externals m ≡ []
Clause m (suc (suc (suc (suc (suc (suc zero)))))) = UsesDefined m
Clause m (suc (suc (suc (suc (suc (suc (suc zero))))))) = bad_marks m ≡ []
Clause m (suc (suc (suc (suc (suc (suc (suc (suc n)))))))) = unsized m ≡ []

-- the number of the clause that a fault breaks
abbrev broken : Fault → ℕ
broken (Duplicate x) = 0
broken (Unknown site x) = 1
broken (TypeMismatch site operand) = 2
broken (BadPhi site) = 3
broken NoMain = 4
broken (BadExternal x) = 5
broken (Undefined site path) = 6
broken (BadMark site) = 7
broken (BadSize x) = 8

-- the clauses below a number hold
abbrev Below : Module → ℕ → Type 0
Below m n = (k : ℕ) → k < n → Clause m k

up_to_names : (m : Module) → UpToNames m → Below m 2
up_to_names m h = below_more (Clause m) 1 (below_more (Clause m) 0 (below_none (Clause m)) h.0) h.1

up_to_types : (m : Module) → UpToTypes m → Below m 3
up_to_types m h = below_more (Clause m) 2 (up_to_names m h.0) h.1

up_to_phis : (m : Module) → UpToPhis m → Below m 4
up_to_phis m h = below_more (Clause m) 3 (up_to_types m h.0) h.1

up_to_main : (m : Module) → UpToMain m → Below m 5
up_to_main m h = below_more (Clause m) 4 (up_to_phis m h.0) h.1

up_to_externals : (m : Module) → UpToExternals m → Below m 6
up_to_externals m h = below_more (Clause m) 5 (up_to_main m h.0) h.1

up_to_uses : (m : Module) → UpToUses m → Below m 7
up_to_uses m h = below_more (Clause m) 6 (up_to_externals m h.0) h.1

up_to_marks : (m : Module) → UpToMarks m → Below m 8
up_to_marks m h = below_more (Clause m) 7 (up_to_uses m h.0) h.1

-- the clauses before the broken one hold
before : (m : Module) (x : Fault) → IsRefused m x → Below m (broken x)
before m (Duplicate x) h = below_none (Clause m)
before m (Unknown site x) h = below_more (Clause m) 0 (below_none (Clause m)) h.0
before m (TypeMismatch site operand) h = up_to_names m h.0
before m (BadPhi site) h = up_to_types m h.0
before m NoMain h = up_to_phis m h.0
before m (BadExternal x) h = up_to_main m h.0
before m (Undefined site path) h = up_to_externals m h.0
before m (BadMark site) h = up_to_uses m h.0
before m (BadSize x) h = up_to_marks m h.0

-- the broken one doesn't
breaks : (m : Module) (x : Fault) → IsRefused m x → Clause m (broken x) → ⊥
breaks m (Duplicate x) h e = no_first (duplicates m) x h e
breaks m (Unknown site x) h e = no_first (unknowns m) (site, x) h.1 e
breaks m (TypeMismatch site operand) h e = no_first (mismatches m) (site, operand) h.1 e
breaks m (BadPhi site) h e = no_first (bad_edges m) site h.1 e
breaks m NoMain h e = h.1 e
breaks m (BadExternal x) h e = no_first (bad_externals m) x h.1 e
breaks m (Undefined site path) h e = undefined m site path h.1 e
breaks m (BadMark site) h e = no_first (bad_marks m) site h.1 e
breaks m (BadSize x) h e = no_first (unsized m) x h.1 e

-- two faults of a module break the same clause
one_clause : (m : Module) (x y : Fault) → IsRefused m x → IsRefused m y → broken x ≡ broken y
one_clause m x y h k =
    let lower : broken x < broken y → ⊥ = λ l. breaks m x h (before m y k (broken x) l) in
    let higher : broken y < broken x → ⊥ = λ l. breaks m y k (before m x h (broken y) l) in
    omega (arith, lower, higher)

-- and are the same but for the path
same_fault : (m : Module) (x y : Fault) → IsRefused m x → IsRefused m y → broken x ≡ broken y → without_path x ≡ without_path y
same_fault m (Duplicate x) (Duplicate y) h k e = ap Duplicate (one_first (duplicates m) x y h k)
same_fault m (Unknown s x) (Unknown t y) h k e = ap (λ p. Unknown p.0 p.1) (one_first (unknowns m) (s, x) (t, y) h.1 k.1)
same_fault m (TypeMismatch s x) (TypeMismatch t y) h k e = ap (λ p. TypeMismatch p.0 p.1) (one_first (mismatches m) (s, x) (t, y) h.1 k.1)
same_fault m (BadPhi s) (BadPhi t) h k e = ap BadPhi (one_first (bad_edges m) s t h.1 k.1)
same_fault m NoMain NoMain h k e = refl
same_fault m (BadExternal x) (BadExternal y) h k e = ap BadExternal (one_first (bad_externals m) x y h.1 k.1)
same_fault m (Undefined s p) (Undefined t q) h k e = ap (λ site. Undefined site []) (one_site m s t p q h.1 k.1)
same_fault m (BadMark s) (BadMark t) h k e = ap BadMark (one_first (bad_marks m) s t h.1 k.1)
same_fault m (BadSize x) (BadSize y) h k e = ap BadSize (one_first (unsized m) x y h.1 k.1)
same_fault m x y h k e = absurd (omega (arith, e))

pub one_answer : (m : Module) (x y : Fault) → IsRefused m x → IsRefused m y → without_path x ≡ without_path y
one_answer m x y h k = same_fault m x y h k (one_clause m x y h k)
