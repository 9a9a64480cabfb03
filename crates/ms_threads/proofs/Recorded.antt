-- A recorder that holds some picks, and one more.
use Rattle.std.proofs.Common.{◌≡◌, ◌<◌, ◌≤◌, ◌+◌, ◌⊎◌, inl, inr, ℕ, zero, suc, true, List, [], ◌∷◌, ◌++◌, length, map, take, refl, sym, ap, ◌∙◌, arith}
use Rattle.std.specs.Prelude.{ltb}
use Rattle.std.proofs.lemmas.List.{length-map, length-append}
use Rattle.std.proofs.lemmas.Bool.{lt-ltb, le-ltb}
use Rattle.ms_threads_schedules_laws.specs.Picks.{Pick}
use Rattle.ms_threads.specs.declared.recorder.Choice.{Choice as Kept}
use Rattle.ms_threads.specs.declared.recorder.Recorder.{Recorder}
use Rattle.ms_threads.specs.Recording.{pick_of, kept_picks, Records, RecordsNext}

-- a list is cut, or too short for it
cut : {X : Type 0} (n : ℕ) (xs : List X) → ((length (take n xs) ≡ n) × (n ≤ length xs)) ⊎ ((take n xs ≡ xs) × (length xs < n))
cut zero xs = inl (refl, omega arith)
cut (suc n) [] = inr (refl, omega arith)
cut {X} (suc n) (x ∷ xs) = at (cut n xs)
  where
    at : ((length (take n xs) ≡ n) × (n ≤ length xs)) ⊎ ((take n xs ≡ xs) × (length xs < n)) → ((suc (length (take n xs)) ≡ suc n) × (suc n ≤ suc (length xs))) ⊎ (((x ∷ take n xs) ≡ (x ∷ xs)) × (suc (length xs) < suc n))
    at (inl h) = let le = h.1 in inl (ap suc h.0, omega (arith, le))
    at (inr h) = let lt = h.1 in inr (ap (λ l. x ∷ l) h.0, omega (arith, lt))

-- what comes after a list that is cut isn't seen
cut_same : {X : Type 0} (n : ℕ) (xs ys : List X) → n ≤ length xs → take n (xs ++ ys) ≡ take n xs
cut_same zero xs ys le = refl
cut_same (suc n) [] ys le = absurd (omega (arith, le))
cut_same (suc n) (x ∷ xs) ys le = ap (λ l. x ∷ l) (cut_same n xs ys (omega (arith, le)))

uncut : {X : Type 0} (n : ℕ) (xs : List X) → length xs ≤ n → take n xs ≡ xs
uncut zero [] le = refl
uncut zero (x ∷ xs) le = absurd (omega (arith, le))
uncut (suc n) [] le = refl
uncut (suc n) (x ∷ xs) le = ap (λ l. x ∷ l) (uncut n xs (omega (arith, le)))

map_last : (ps : List Kept) (p : Kept) → map pick_of (ps ++ p ∷ []) ≡ map pick_of ps ++ pick_of p ∷ []
map_last [] p = refl
map_last (q ∷ ps) p = ap (λ l. pick_of q ∷ l) (map_last ps p)

-- how many were made, by how many are held
module _ (n : ℕ) (items : List Kept) (made : List Pick) (held : map pick_of items ≡ take n made) where
  same_length : length items ≡ length (take n made)
  same_length = sym (length-map items pick_of) ∙ ap length held

  met : n ≤ length items → n ≤ length made
  met le = at (cut n made)
    where
      at : ((length (take n made) ≡ n) × (n ≤ length made)) ⊎ ((take n made ≡ made) × (length made < n)) → n ≤ length made
      at (inl h) = h.1
      at (inr h) = let e : length items ≡ length made = same_length ∙ ap length h.0 in let lt = h.1 in omega (arith, e, lt, le)

  unmet : length items < n → length made < n
  unmet lt = at (cut n made)
    where
      at : ((length (take n made) ≡ n) × (n ≤ length made)) ⊎ ((take n made ≡ made) × (length made < n)) → length made < n
      at (inl h) = let e : length items ≡ n = same_length ∙ h.0 in absurd (omega (arith, e, lt))
      at (inr h) = h.1

  -- one more is held
  held_next : (p : Kept) → length items < n → map pick_of (items ++ p ∷ []) ≡ take n (made ++ pick_of p ∷ [])
  held_next p lt =
      let few = unmet lt in
      let one : length (made ++ pick_of p ∷ []) ≡ length made + 1 = length-append made (pick_of p ∷ []) in
      map_last items p ∙ ap (λ l. l ++ pick_of p ∷ []) (held ∙ uncut n made (let le : length made ≤ n = omega (arith, few) in le)) ∙ sym (uncut n (made ++ pick_of p ∷ []) (omega (arith, one, few)))

  -- or there is no room
  held_same : (p : Pick) → n ≤ length items → map pick_of items ≡ take n (made ++ p ∷ [])
  held_same p le = held ∙ sym (cut_same n made (p ∷ []) (met le))

  over : (p : Pick) → n ≤ length items → ltb n (length (made ++ p ∷ [])) ≡ true
  over p le = let one : length (made ++ p ∷ []) ≡ length made + 1 = length-append made (p ∷ []) in let some = met le in lt-ltb n (length (made ++ p ∷ [])) (omega (arith, one, some))

  within : (p : Pick) → length items < n → ltb n (length (made ++ p ∷ [])) ≡ ltb n (length made)
  within p lt =
      let one : length (made ++ p ∷ []) ≡ length made + 1 = length-append made (p ∷ []) in
      let few = unmet lt in
      le-ltb n (length (made ++ p ∷ [])) (omega (arith, one, few)) ∙ sym (le-ltb n (length made) (omega (arith, few)))

pub full_next : (p : Pick) (old new : Recorder) → new.picks ≡ old.picks → new.more ≡ true → kept_picks ≤ length old.picks.items → RecordsNext p old new
full_next p old new same more le = λ made r. record {
  picks = ap (λ v. map pick_of v.items) same ∙ held_same kept_picks old.picks.items made r.picks p le;
  more = more ∙ sym (over kept_picks old.picks.items made r.picks p le);
}

pub kept_next : (p : Kept) (old new : Recorder) → new.picks.items ≡ old.picks.items ++ p ∷ [] → new.more ≡ old.more → length old.picks.items < kept_picks → RecordsNext (pick_of p) old new
kept_next p old new items more lt = λ made r. record {
  picks = ap (map pick_of) items ∙ held_next kept_picks old.picks.items made r.picks p lt;
  more = more ∙ r.more ∙ sym (within kept_picks old.picks.items made r.picks (pick_of p) lt);
}
