-- The items of a list that pass a test, each seen through a function.
use Rattle.std.proofs.Common.{◌≡◌, ℕ, zero, suc, ◌<◌, List, [], ◌∷◌, ◌++◌, Bool, true, false, cond, refl, sym, ap, subst, ◌∙◌, arith, length, take, map}
use Rattle.std.specs.Prelude.{Some, slice_get, filter, flat_map}
use Rattle.std.proofs.Math.Path.{ap₂}

module _ {A B : Type 0} (p : A → Bool) (g : A → B) where
  abbrev pub kept : List A → List B
  kept xs = map g (filter p xs)

  pub kept_here : (x : A) (xs : List A) → p x ≡ true → kept (x ∷ xs) ≡ g x ∷ kept xs
  kept_here x xs e = ap (λ t. map g (cond t (x ∷ filter p xs) (filter p xs))) e

  pub kept_past : (x : A) (xs : List A) → p x ≡ false → kept (x ∷ xs) ≡ kept xs
  kept_past x xs e = ap (λ t. map g (cond t (x ∷ filter p xs) (filter p xs))) e

  pub kept-append : (xs ys : List A) → kept (xs ++ ys) ≡ kept xs ++ kept ys
  kept-append [] ys = refl
  kept-append (x ∷ xs) ys = by_test (p x) (kept-append xs ys)
    where
      by_test : (t : Bool) → kept (xs ++ ys) ≡ kept xs ++ kept ys
          → map g (cond t (x ∷ filter p (xs ++ ys)) (filter p (xs ++ ys))) ≡ map g (cond t (x ∷ filter p xs) (filter p xs)) ++ kept ys
      by_test true e = ap (λ l. g x ∷ l) e
      by_test false e = e

  -- what each item of a list gives is kept of all that they give
  pub kept_of_each : {C : Type 0} (h : C → List A) (k : C → List B) → ((c : C) → k c ≡ kept (h c)) → (cs : List C) → flat_map k cs ≡ kept (flat_map h cs)
  kept_of_each h k same [] = refl
  kept_of_each h k same (c ∷ cs) = ap₂ (λ l r. l ++ r) (same c) (kept_of_each h k same cs) ∙ sym (kept-append (h c) (flat_map h cs))

  -- where the item at a place among those that are kept comes from
  pub record KeptAt (xs : List A) (w : ℕ) : Type 0 where
    pub earlier : List A
    pub item : A
    pub later : List A
    pub splits : xs ≡ earlier ++ item ∷ later
    pub passes : p item ≡ true
    pub before : kept earlier ≡ take w (kept xs)
    pub here : slice_get (kept xs) w ≡ Some (g item)

  past : (x : A) (xs : List A) (w : ℕ) → p x ≡ false → KeptAt xs w → KeptAt (x ∷ xs) w
  past x xs w e r = record {
    earlier = x ∷ r.earlier;
    item = r.item;
    later = r.later;
    splits = ap (λ l. x ∷ l) r.splits;
    passes = r.passes;
    before = kept_past x r.earlier e ∙ r.before ∙ ap (take w) (sym (kept_past x xs e));
    here = ap (λ l. slice_get l w) (kept_past x xs e) ∙ r.here;
  }

  first : (x : A) (xs : List A) → p x ≡ true → KeptAt (x ∷ xs) 0
  first x xs e = record {
    earlier = [];
    item = x;
    later = xs;
    splits = refl;
    passes = e;
    before = refl;
    here = ap (λ l. slice_get l 0) (kept_here x xs e);
  }

  next : (x : A) (xs : List A) (w : ℕ) → p x ≡ true → KeptAt xs w → KeptAt (x ∷ xs) (suc w)
  next x xs w e r = record {
    earlier = x ∷ r.earlier;
    item = r.item;
    later = r.later;
    splits = ap (λ l. x ∷ l) r.splits;
    passes = r.passes;
    before = kept_here x r.earlier e ∙ ap (λ l. g x ∷ l) r.before ∙ ap (take (suc w)) (sym (kept_here x xs e));
    here = ap (λ l. slice_get l (suc w)) (kept_here x xs e) ∙ r.here;
  }

  pub kept_at : (xs : List A) (w : ℕ) → w < length (kept xs) → KeptAt xs w
  kept_at [] w l = absurd (omega (arith, l))
  kept_at (x ∷ xs) w l = by_test (p x) refl w l (kept_at xs)
    where
      by_test : (t : Bool) → p x ≡ t → (v : ℕ) → v < length (kept (x ∷ xs)) → ((u : ℕ) → u < length (kept xs) → KeptAt xs u) → KeptAt (x ∷ xs) v
      by_test false e v below rest = past x xs v e (rest v (subst (λ l. v < length l) (kept_past x xs e) below))
      by_test true e zero below rest = first x xs e
      by_test true e (suc v) below rest =
          let within : suc v < length (g x ∷ kept xs) = subst (λ l. suc v < length l) (kept_here x xs e) below in
          next x xs v e (rest v (omega (arith, within)))
