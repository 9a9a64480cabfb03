-- One blind use more among those that are kept by their places.
use Rattle.std.proofs.Common.{◌≡◌, ◌≢◌, ◌<◌, ◌≤◌, ◌+◌, ◌-◌, ℕ, zero, suc, Bool, true, false, not, cond, eqb, ltb, ◌||◌, if◌then◌else◌, List, [], ◌∷◌, ◌++◌, length, map, replicate, get_or, set, refl, sym, ap, ◌∙◌, subst, arith, ⊎_elim, append-nil}
use Rattle.std.specs.List.{list_any, position_or_len}
use Rattle.std.proofs.lemmas.Bool.{cases_eq, eq-eqb, ne_eqb, lt-ltb, le-ltb}
use Rattle.ms_runs.specs.declared.runs.BlindPlace.{BlindPlace}
use Rattle.ms_runs.specs.Calls.{tell_to, counted_at, places_after, places_of}
use Rattle.ms_runtime.specs.Places.{site_in, CountsBelow}

-- with one use more
abbrev pub one_more : BlindPlace → BlindPlace
one_more p = record { site = p.site; count = p.count + 1 }

turned : (a b : ℕ) → eqb a b ≡ eqb b a
turned a b = ⊎_elim
    (λ (e : a ≡ b). eq-eqb a b e ∙ sym (eq-eqb b a (sym e)))
    (λ (e : a ≢ b). ne_eqb a b e ∙ sym (ne_eqb b a (λ f. e (sym f))))
    (cases_eq a b)

-- ---- where it is kept

module _ (site : ℕ) where
  -- the place of its site, or their number
  abbrev pub place_in : List BlindPlace → ℕ
  place_in ps = position_or_len (eqb site) (map site_in ps)

  -- by the test of the first
  abbrev onward : BlindPlace → List BlindPlace → Bool → List BlindPlace
  onward p ps b = if b then one_more p ∷ ps else p ∷ counted_at site ps

  -- it is counted where its site stands
  pub counted_there : (ps : List BlindPlace) (i : ℕ) (v : BlindPlace) → i ≡ place_in ps → i < length ps → v ≡ get_or ps i v → set ps i (one_more v) ≡ counted_at site ps
  counted_there [] i v e lt is = absurd (omega (arith, lt))
  counted_there (p ∷ ps) i v e lt is = by_test (eqb site p.site) i e lt is (λ j f l same. counted_there ps j v f l same) ∙ ap (onward p ps) (turned site p.site)
    where
      by_test : (b : Bool) (i : ℕ) → i ≡ cond (not b) (1 + place_in ps) 0 → i < suc (length ps) → v ≡ get_or (p ∷ ps) i v
          → ((j : ℕ) → j ≡ place_in ps → j < length ps → v ≡ get_or ps j v → set ps j (one_more v) ≡ counted_at site ps) → set (p ∷ ps) i (one_more v) ≡ onward p ps b
      by_test true zero e lt is rest = ap (λ (q : BlindPlace). one_more q ∷ ps) is
      by_test true (suc i) e lt is rest = absurd (omega (arith, e))
      by_test false zero e lt is rest = absurd (omega (arith, e))
      by_test false (suc i) e lt is rest = ap (λ (l : List BlindPlace). p ∷ l) (rest i (omega (arith, e)) (omega (arith, lt)) is)

  -- or after all where it stands nowhere
  pub counted_last : (ps : List BlindPlace) → length ps ≤ place_in ps → ps ++ (let p : BlindPlace = record { site = site; count = 1 } in p) ∷ [] ≡ counted_at site ps
  counted_last [] le = refl
  counted_last (p ∷ ps) le = by_test (eqb site p.site) le (counted_last ps) ∙ ap (onward p ps) (turned site p.site)
    where
      by_test : (b : Bool) → suc (length ps) ≤ cond (not b) (1 + place_in ps) 0 → (length ps ≤ place_in ps → ps ++ (let p : BlindPlace = record { site = site; count = 1 } in p) ∷ [] ≡ counted_at site ps)
          → p ∷ ps ++ (let p : BlindPlace = record { site = site; count = 1 } in p) ∷ [] ≡ onward p ps b
      by_test true le rest = absurd (omega (arith, le))
      by_test false le rest = ap (λ (l : List BlindPlace). p ∷ l) (rest (omega (arith, le)))

  -- a site more is kept where it isn't one of them
  pub sites_counted : (ps : List BlindPlace) → (if list_any (eqb site) (map site_in ps) then map site_in ps else map site_in ps ++ site ∷ []) ≡ map site_in (counted_at site ps)
  sites_counted [] = refl
  sites_counted (p ∷ ps) = by_test (eqb site p.site) (list_any (eqb site) (map site_in ps)) (sites_counted ps) ∙ ap (λ (b : Bool). map site_in (onward p ps b)) (turned site p.site)
    where
      by_test : (b c : Bool) → (if c then map site_in ps else map site_in ps ++ site ∷ []) ≡ map site_in (counted_at site ps)
          → (if b || c then p.site ∷ map site_in ps else p.site ∷ map site_in ps ++ site ∷ []) ≡ map site_in (onward p ps b)
      by_test true c rest = refl
      by_test false true rest = ap (λ (l : List ℕ). p.site ∷ l) rest
      by_test false false rest = ap (λ (l : List ℕ). p.site ∷ l) rest

-- ---- how many there are

pub counts_wider : (n k : ℕ) (ps : List BlindPlace) → n ≤ k → CountsBelow n ps → CountsBelow k ps
counts_wider n k [] le h = tt
counts_wider n k (p ∷ ps) le h = (omega (arith, le, h.0), counts_wider n k ps le h.1)

pub count_at : (n : ℕ) (ps : List BlindPlace) (i : ℕ) (v : BlindPlace) → CountsBelow n ps → i < length ps → v ≡ get_or ps i v → v.count < n
count_at n [] i v h lt is = absurd (omega (arith, lt))
count_at n (p ∷ ps) zero v h lt is = subst (λ (q : BlindPlace). q.count < n) (sym is) h.0
count_at n (p ∷ ps) (suc i) v h lt is = count_at n ps i v h.1 (omega (arith, lt)) is

counts_more : (n site : ℕ) (ps : List BlindPlace) → 0 < n → CountsBelow n ps → CountsBelow (n + 1) (counted_at site ps)
counts_more n site [] some h = (omega (arith, some), tt)
counts_more n site (p ∷ ps) some h = by_test (eqb p.site site) (counts_more n site ps some h.1)
  where
    by_test : (b : Bool) → CountsBelow (n + 1) (counted_at site ps) → CountsBelow (n + 1) (if b then one_more p ∷ ps else p ∷ counted_at site ps)
    by_test true rest = (omega (arith, h.0), counts_wider n (n + 1) ps (omega arith) h.1)
    by_test false rest = (omega (arith, h.0), rest)

counts_after : (sites : List ℕ) (n : ℕ) (ps : List BlindPlace) → 0 < n → CountsBelow n ps → CountsBelow (n + length sites) (places_after ps sites)
counts_after [] n ps some h = counts_wider n (n + 0) ps (omega arith) h
counts_after (k ∷ ks) n ps some h =
    counts_wider (n + 1 + length ks) (n + length (k ∷ ks)) (places_after ps (k ∷ ks)) (let e : length (k ∷ ks) ≡ length ks + 1 = omega arith in omega (arith, e))
    (counts_after ks (n + 1) (counted_at k ps) (omega arith) (counts_more n k ps some h))

-- no place of some uses counts more than them
pub counts_few : (sites : List ℕ) → CountsBelow (1 + length sites) (places_of sites)
counts_few sites = counts_after sites 1 [] (omega arith) tt

-- ---- the places of one use more

after_more : (sites : List ℕ) (site : ℕ) (ps : List BlindPlace) → places_after ps (sites ++ site ∷ []) ≡ counted_at site (places_after ps sites)
after_more [] site ps = refl
after_more (k ∷ ks) site ps = after_more ks site (counted_at k ps)

-- where there is one more at most
pub places_told : (site n : ℕ) (sites : List ℕ) → n ≤ length sites + 1 → (if ltb (length sites) n then counted_at site (places_of sites) else places_of sites) ≡ places_of (tell_to site n sites)
places_told site n sites le = by_rest (n - length sites) refl
  where
    by_rest : (d : ℕ) → n - length sites ≡ d → (if ltb (length sites) n then counted_at site (places_of sites) else places_of sites) ≡ places_of (sites ++ replicate d site)
    by_rest zero e =
        ap (λ (b : Bool). if b then counted_at site (places_of sites) else places_of sites) (le-ltb (length sites) n (omega (arith, e)))
        ∙ ap places_of (sym (append-nil sites))
    by_rest (suc zero) e =
        ap (λ (b : Bool). if b then counted_at site (places_of sites) else places_of sites) (lt-ltb (length sites) n (omega (arith, e))) ∙ sym (after_more sites site [])
    by_rest (suc (suc d)) e = absurd (omega (arith, e, le))
