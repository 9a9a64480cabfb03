-- The first place of a name, where names are appended to a list.
use Rattle.std.proofs.Common.{◌≡◌, ℕ, suc, Bool, true, false, List, [], ◌∷◌, ◌++◌, Option, Some, None, length, option_map, is_some, refl, ◌∙◌, ap, subst, arith, if◌then◌else◌}
use Rattle.std.specs.Prelude.{◌||◌, ◌<◌, slice_get}
use Rattle.ms_ir.specs.declared.syntax.Name.{Name}
use Rattle.ms_ir.specs.Names.{name_eq}
use Rattle.ms_ir.specs.Equal.{has_name}
use Rattle.ms_ir.proofs.RootKinds.{name_same}
use Rattle.ms_check_tables.specs.FirstPlace.{first_place}

-- the place of a name in a list with one more at its end, which is that name or isn't
abbrev with_last : Option ℕ → Bool → ℕ → Option ℕ
with_last (Some k) hit n = Some k
with_last None true n = Some n
with_last None false n = None

with_last_suc : (place : Option ℕ) (hit : Bool) (n : ℕ) → option_map suc (with_last place hit n) ≡ with_last (option_map suc place) hit (suc n)
with_last_suc (Some k) hit n = refl
with_last_suc None true n = refl
with_last_suc None false n = refl

first_place-append : (names : List Name) (y x : Name) → first_place (names ++ y ∷ []) x ≡ with_last (first_place names x) (name_eq y x) (length names)
first_place-append [] y x = split (name_eq y x)
  where
    split : (hit : Bool) → (if hit then Some 0 else None) ≡ with_last None hit 0
    split true = refl
    split false = refl
first_place-append (z ∷ names) y x = split (name_eq z x) (first_place-append names y x)
  where
    split : (hit : Bool) → first_place (names ++ y ∷ []) x ≡ with_last (first_place names x) (name_eq y x) (length names)
        → (if hit then Some 0 else option_map suc (first_place (names ++ y ∷ []) x))
        ≡ with_last (if hit then Some 0 else option_map suc (first_place names x)) (name_eq y x) (suc (length names))
    split true rest = refl
    split false rest = ap (option_map suc) rest ∙ with_last_suc (first_place names x) (name_eq y x) (length names)

-- a name that a list has already changes no place
pub place_known : (names : List Name) (y : Name) (k : ℕ) → first_place names y ≡ Some k → (x : Name) → first_place (names ++ y ∷ []) x ≡ first_place names x
place_known names y k known x = first_place-append names y x ∙ split (first_place names x) refl (name_eq y x) refl
  where
    split : (place : Option ℕ) → first_place names x ≡ place → (hit : Bool) → name_eq y x ≡ hit → with_last place hit (length names) ≡ place
    split (Some n) at hit e = refl
    split None at false e = refl
    split None at true e = absurd (let same : first_place names y ≡ first_place names x = ap (first_place names) (name_same y x e) in cc)

-- a name that it has not yet is found at the end
pub place_new : (names : List Name) (y : Name) → first_place names y ≡ None → (x : Name) → first_place (names ++ y ∷ []) x ≡ (if name_eq y x then Some (length names) else first_place names x)
place_new names y absent x = first_place-append names y x ∙ split (first_place names x) refl (name_eq y x) refl
  where
    split : (place : Option ℕ) → first_place names x ≡ place → (hit : Bool) → name_eq y x ≡ hit → with_last place hit (length names) ≡ (if hit then Some (length names) else place)
    split None at true e = refl
    split None at false e = refl
    split (Some n) at false e = refl
    split (Some n) at true e = absurd (let same : first_place names y ≡ first_place names x = ap (first_place names) (name_same y x e) in cc)

-- a list has a name exactly where the name has a place
pub place_tells : (names : List Name) (x : Name) → is_some (first_place names x) ≡ has_name names x
place_tells [] x = refl
place_tells (y ∷ names) x = split (name_eq y x) (place_tells names x)
  where
    kept : (place : Option ℕ) → is_some (option_map suc place) ≡ is_some place
    kept (Some k) = refl
    kept None = refl

    split : (hit : Bool) → is_some (first_place names x) ≡ has_name names x
        → is_some (if hit then Some 0 else option_map suc (first_place names x)) ≡ (hit || has_name names x)
    split true rest = refl
    split false rest = kept (first_place names x) ∙ rest

-- a place is within the list
pub place_below : (names : List Name) (x : Name) (k : ℕ) → first_place names x ≡ Some k → k < length names
place_below [] x k e = absurd (cc)
place_below (y ∷ names) x k e = split (name_eq y x) (first_place names x) (place_below names x) e
  where
    split : (hit : Bool) (place : Option ℕ) → ((j : ℕ) → place ≡ Some j → j < length names) → (if hit then Some 0 else option_map suc place) ≡ Some k → k < length (y ∷ names)
    split true place rest is = let zero : 0 ≡ k = cc in omega arith
    split false (Some j) rest is = let next : suc j ≡ k = cc in let below : j < length names = rest j refl in omega arith
    split false None rest is = absurd (cc)

-- the name itself stands there
pub place_holds : (names : List Name) (x : Name) (k : ℕ) → first_place names x ≡ Some k → slice_get names k ≡ Some x
place_holds [] x k e = absurd (cc)
place_holds (y ∷ names) x k e = split (name_eq y x) refl (first_place names x) (place_holds names x) e
  where
    split : (hit : Bool) → name_eq y x ≡ hit → (place : Option ℕ) → ((j : ℕ) → place ≡ Some j → slice_get names j ≡ Some x) → (if hit then Some 0 else option_map suc place) ≡ Some k → slice_get (y ∷ names) k ≡ Some x
    split true same place rest is = let zero : 0 ≡ k = cc in subst (λ n. slice_get (y ∷ names) n ≡ Some x) zero (ap Some (name_same y x same))
    split false same (Some j) rest is = let next : suc j ≡ k = cc in subst (λ n. slice_get (y ∷ names) n ≡ Some x) next (rest j refl)
    split false same None rest is = absurd (cc)
