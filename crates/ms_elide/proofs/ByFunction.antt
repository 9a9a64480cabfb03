-- Lists of names, one for each function, as they grow.
use Rattle.std.proofs.Common.{◌≡◌, ℕ, zero, suc, ◌+◌, ◌<◌, ◌≤◌, ◌↔◌, List, [], ◌∷◌, ◌++◌, length, get_or, Some, None, IsTrue, sym, ap, ◌∙◌, subst, arith, length-append, ⊎_elim}
use Rattle.std.specs.Prelude.{slice_get}
use Rattle.std.proofs.lemmas.Bool.{cases_eq}
use Rattle.std.proofs.lemmas.List.{get_or_at, get_or_append_left, get_or_past}
use Rattle.ms_ir.specs.declared.syntax.Name.{Name}
use Rattle.ms_ir.specs.declared.syntax.Func.{Func}
use Rattle.ms_ir.specs.declared.syntax.Module.{Module}
use Rattle.ms_ir.specs.Instructions.{func_at}
use Rattle.ms_ir.specs.Equal.{has_name}
use Rattle.ms_check_valid.specs.CleanValues.{IsClean}
use Rattle.ms_elide.specs.CleanSets.{is_in, IsExact}
use Rattle.ms_runs_good_laws.proofs.Starts.{place_within}

pub there : {A : Type 0} (xs : List A) (k : ℕ) (x : A) → k < length xs → x ≡ get_or xs k x → slice_get xs k ≡ Some x
there [] k x lt e = absurd (omega arith)
there (y ∷ xs) zero x lt e = ap Some (sym e)
there (y ∷ xs) (suc k) x lt e = there xs k x (omega arith) e

none_past : {A : Type 0} (xs : List A) (k : ℕ) → slice_get xs k ≡ None → length xs ≤ k
none_past [] k e = omega arith
none_past (y ∷ xs) zero e = absurd (cc)
none_past (y ∷ xs) (suc k) e = let past = none_past xs k e in omega arith

pub one_longer : {A : Type 0} (xs : List A) (x : A) (n : ℕ) → length xs ≡ n → length (xs ++ x ∷ []) ≡ n + 1
one_longer xs x n size = omega (arith, length-append xs (x ∷ []))

-- the values of the first functions
abbrev pub AreFirst : Module → List (List Name) → ℕ → Type 0
AreFirst m set n = (k : ℕ) (f : Func) → k < n → func_at m k ≡ Some f → (x : Name) → IsTrue (is_in set k x) ↔ IsClean m f x

pub first_more : (m : Module) (set : List (List Name)) (n : ℕ) (f : Func) (names : List Name) → length set ≡ n → func_at m n ≡ Some f → ((x : Name) → IsTrue (has_name names x) ↔ IsClean m f x)
    → AreFirst m set n → AreFirst m (set ++ names ∷ []) (n + 1)
first_more m set n f names size at exact before k g lt here x =
    let Row : List Name → Type 0 = λ xs. IsTrue (has_name xs x) ↔ IsClean m g x in
    ⊎_elim
    (λ e.
    let last : get_or (set ++ names ∷ []) k [] ≡ names = get_or_at set names [] [] k (size ∙ sym e) in
    let same : f ≡ g = let it = ap (func_at m) e in cc in
    let Of : Func → Type 0 = λ h. IsTrue (has_name names x) ↔ IsClean m h x in
    subst Row (sym last) (subst Of same (exact x)))
    (λ ne.
    let below : k < n = omega arith in
    let old : get_or (set ++ names ∷ []) k [] ≡ get_or set k [] = get_or_append_left set (names ∷ []) [] k (omega arith) in
    subst Row (sym old) (before k g below here x))
    (cases_eq k n)

pub first_all : (m : Module) (set : List (List Name)) (n : ℕ) → length set ≡ n → length m.funcs ≡ n → AreFirst m set n → IsExact m set
first_all m set n size all first = record {
  values = λ k f at. first k f (let below = place_within m.funcs k f at in omega arith) at;
  functions = λ k none x. ap (λ xs. has_name xs x) (get_or_past set k [] (let past = none_past m.funcs k none in omega arith));
}
