-- Names of which a list repeats none.
use Rattle.std.proofs.Common.{◌≡◌, ℕ, zero, suc, Bool, true, false, List, [], ◌∷◌, ◌++◌, Some, option_map, refl, sym, append-nil, ◌∙◌, ap, subst, if◌then◌else◌}
use Rattle.std.specs.Prelude.{◌||◌, slice_get}
use Rattle.ms_ir.specs.declared.syntax.Name.{Name}
use Rattle.ms_ir.specs.Names.{name_eq}
use Rattle.std.specs.Option.{option_or}
use Rattle.std.proofs.lemmas.List.Folds.{list_any-append}
use Rattle.ms_ir.specs.Equal.{has_name}
use Rattle.ms_check_valid.specs.NamesOnce.{repeats}
use Rattle.ms_check_valid.proofs.NameTests.{name_same}
use Rattle.ms_check_tables.specs.FirstPlace.{first_place}

-- of the names that were seen it matters only which they are
pub repeats_same : (seen other names : List Name) → ((x : Name) → has_name seen x ≡ has_name other x) → repeats seen names ≡ repeats other names
repeats_same seen other [] same = refl
repeats_same seen other (x ∷ names) same =
    let rest : repeats (x ∷ seen) names ≡ repeats (x ∷ other) names = repeats_same (x ∷ seen) (x ∷ other) names (λ y. ap (λ b. name_eq x y || b) (same y)) in
    ap (λ b. if b then x ∷ repeats (x ∷ seen) names else repeats (x ∷ seen) names) (same x) ∙ ap (λ r. if has_name other x then x ∷ r else r) rest

-- a list and a further one have the names of both
pub has_name-append : (names more : List Name) (x : Name) → has_name (names ++ more) x ≡ (has_name names x || has_name more x)
has_name-append names more x = list_any-append (λ y. name_eq y x) names more

-- it doesn't matter where a name stands
moved : (seen names : List Name) (x y : Name) → has_name (x ∷ (seen ++ names)) y ≡ has_name (seen ++ x ∷ names) y
moved seen names x y = swap (name_eq x y) (has_name seen y) (has_name-append seen names y) (has_name-append seen (x ∷ names) y)
  where
    swap : (hit old : Bool) → has_name (seen ++ names) y ≡ (old || has_name names y) → has_name (seen ++ x ∷ names) y ≡ (old || (hit || has_name names y)) → (hit || has_name (seen ++ names) y) ≡ has_name (seen ++ x ∷ names) y
    swap true true e f = sym f
    swap true false e f = sym f
    swap false old e f = e ∙ sym f

-- the first repeated name of two lists: that of the one, and else that of the other, before which the names of the one
-- were seen
pub first_repeat-append : (seen names more : List Name) → slice_get (repeats seen (names ++ more)) 0 ≡ option_or (slice_get (repeats seen names) 0) (slice_get (repeats (seen ++ names) more) 0)
first_repeat-append seen [] more = ap (λ old. slice_get (repeats old more) 0) (sym (append-nil seen))
first_repeat-append seen (x ∷ names) more = split (has_name seen x)
    (first_repeat-append (x ∷ seen) names more ∙ ap (λ r. option_or (slice_get (repeats (x ∷ seen) names) 0) (slice_get r 0)) (repeats_same (x ∷ (seen ++ names)) (seen ++ x ∷ names) more (moved seen names x)))
  where
    split : (old : Bool) → slice_get (repeats (x ∷ seen) (names ++ more)) 0 ≡ option_or (slice_get (repeats (x ∷ seen) names) 0) (slice_get (repeats (seen ++ x ∷ names) more) 0)
        → slice_get (if old then x ∷ repeats (x ∷ seen) (names ++ more) else repeats (x ∷ seen) (names ++ more)) 0
        ≡ option_or (slice_get (if old then x ∷ repeats (x ∷ seen) names else repeats (x ∷ seen) names) 0) (slice_get (repeats (seen ++ x ∷ names) more) 0)
    split true rest = refl
    split false rest = rest

-- a list that repeats no name, and none of those seen
pub record Fresh (seen names : List Name) (k : ℕ) (x : Name) : Type 0 where
  pub unseen : has_name seen x ≡ false
  pub first : first_place names x ≡ Some k

apart : (seen names : List Name) (y x : Name) (n : ℕ) (hit : Bool) → name_eq y x ≡ hit → (hit || has_name seen x) ≡ false → first_place names x ≡ Some n → Fresh seen (y ∷ names) (suc n) x
apart seen names y x n true is unseen first = absurd (cc)
apart seen names y x n false is unseen first = record {
  unseen = unseen;
  first = ap (λ b. if b then Some 0 else option_map suc (first_place names x)) is ∙ ap (option_map suc) first;
}

-- such a list has a name first where it stands
pub fresh_at : (seen names : List Name) → repeats seen names ≡ [] → (k : ℕ) (x : Name) → slice_get names k ≡ Some x → Fresh seen names k x
fresh_at seen [] none k x at = absurd (cc)
fresh_at seen (y ∷ names) none k x at = split (has_name seen y) refl (λ fresh n stands. fresh_at (y ∷ seen) names fresh n x stands) none k at
  where
    here : has_name seen y ≡ false → Some y ≡ Some x → Fresh seen (y ∷ names) 0 x
    here unseen e = let same : y ≡ x = cc in record {
      unseen = subst (λ z. has_name seen z ≡ false) same unseen;
      first = ap (λ b. if b then Some 0 else option_map suc (first_place names x)) (subst (λ z. name_eq y z ≡ true) same (name_same y));
    }

    split : (old : Bool) → has_name seen y ≡ old → (repeats (y ∷ seen) names ≡ [] → (n : ℕ) → slice_get names n ≡ Some x → Fresh (y ∷ seen) names n x)
        → (if old then y ∷ repeats (y ∷ seen) names else repeats (y ∷ seen) names) ≡ [] → (n : ℕ) → slice_get (y ∷ names) n ≡ Some x → Fresh seen (y ∷ names) n x
    split true is rest fresh n stands = absurd (cc)
    split false is rest fresh zero stands = here is stands
    split false is rest fresh (suc n) stands = let more : Fresh (y ∷ seen) names n x = rest fresh n stands in apart seen names y x n (name_eq y x) refl more.unseen more.first

-- in a list without repeats a name's place is where it stands
pub place_once : (names : List Name) → repeats [] names ≡ [] → (k : ℕ) (x : Name) → slice_get names k ≡ Some x → first_place names x ≡ Some k
place_once names none k x at = (fresh_at [] names none k x at).first
