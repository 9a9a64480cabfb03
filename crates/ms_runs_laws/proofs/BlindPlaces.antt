-- Places of blind uses count each site as often as it stands, and have none twice.
use Rattle.std.proofs.Common.{◌≡◌, ℕ, ◌+◌, Bool, true, false, ◌||◌, List, [], ◌∷◌, length, eqb, refl, sym, ap, ◌∙◌, arith, if◌then◌else◌}
use Rattle.std.proofs.lemmas.Bool.{eqb-true, eqb-false, ne_eqb}
use Rattle.ms_runs.specs.declared.runs.BlindPlace.{BlindPlace}
use Rattle.ms_runs.specs.Calls.{counted_at, places_after, places_of}
use Rattle.ms_runs_laws.specs.Places.{uses_at, uses_of, times, has_place, EachOnce}

-- ---- all of them

uses_more : (site : ℕ) (ps : List BlindPlace) → uses_at (counted_at site ps) ≡ uses_at ps + 1
uses_more site [] = refl
uses_more site (p ∷ ps) = by_test (eqb p.site site) (uses_more site ps)
  where
    by_test : (b : Bool) → uses_at (counted_at site ps) ≡ uses_at ps + 1
        → uses_at (if b then (let q : BlindPlace = record { site = p.site; count = p.count + 1 } in q) ∷ ps else p ∷ counted_at site ps) ≡ p.count + uses_at ps + 1
    by_test true rest = let e : p.count + 1 + uses_at ps ≡ p.count + uses_at ps + 1 = omega arith in e
    by_test false rest = let e : p.count + uses_at (counted_at site ps) ≡ p.count + uses_at ps + 1 = omega (arith, rest) in e

uses_after : (sites : List ℕ) (ps : List BlindPlace) → uses_at (places_after ps sites) ≡ uses_at ps + length sites
uses_after [] ps = omega arith
uses_after (k ∷ ks) ps = let n : length (k ∷ ks) ≡ length ks + 1 = omega arith in omega (arith, n, uses_after ks (counted_at k ps), uses_more k ps)

pub all_counted : (sites : List ℕ) → uses_at (places_of sites) ≡ length sites
all_counted sites = omega (arith, uses_after sites [])

-- ---- those of a site

module _ (k : ℕ) where
  one_more : (b : Bool) (n t : ℕ) → (if b then n + 1 else 0) + t ≡ (if b then n else 0) + t + (if b then 1 else 0)
  one_more true n t = omega arith
  one_more false n t = omega arith

  times_more : (site : ℕ) (ps : List BlindPlace) → uses_of k (counted_at site ps) ≡ uses_of k ps + (if eqb site k then 1 else 0)
  times_more site [] = omega arith
  times_more site (p ∷ ps) = by_test (eqb p.site site) refl (times_more site ps)
    where
      by_test : (b : Bool) → eqb p.site site ≡ b → uses_of k (counted_at site ps) ≡ uses_of k ps + (if eqb site k then 1 else 0)
          → uses_of k (if b then (let q : BlindPlace = record { site = p.site; count = p.count + 1 } in q) ∷ ps else p ∷ counted_at site ps)
          ≡ (if eqb p.site k then p.count else 0) + uses_of k ps + (if eqb site k then 1 else 0)
      by_test true e rest =
          one_more (eqb p.site k) p.count (uses_of k ps)
          ∙ ap (λ (b : Bool). (if eqb p.site k then p.count else 0) + uses_of k ps + (if b then 1 else 0)) (ap (λ (i : ℕ). eqb i k) (eqb-true p.site site e))
      by_test false e rest =
          let n : (if eqb p.site k then p.count else 0) + uses_of k (counted_at site ps) ≡ (if eqb p.site k then p.count else 0) + uses_of k ps + (if eqb site k then 1 else 0) = omega (arith, rest) in n

  times_after : (sites : List ℕ) (ps : List BlindPlace) → uses_of k (places_after ps sites) ≡ uses_of k ps + times k sites
  times_after [] ps = omega arith
  times_after (j ∷ js) ps =
      let n : times k (j ∷ js) ≡ (if eqb j k then 1 else 0) + times k js = refl in
      omega (arith, n, times_after js (counted_at j ps), times_more j ps)

pub site_counted : (sites : List ℕ) (site : ℕ) → uses_of site (places_of sites) ≡ times site sites
site_counted sites site = omega (arith, times_after site sites [])

-- ---- none twice

or_false : (b : Bool) → (b || false) ≡ b
or_false true = refl
or_false false = refl

has_more : (k site : ℕ) (ps : List BlindPlace) → has_place k (counted_at site ps) ≡ (has_place k ps || eqb site k)
has_more k site [] = or_false (eqb site k)
has_more k site (p ∷ ps) = by_test (eqb p.site site) refl (has_more k site ps)
  where
    again : (a h : Bool) → (a || h) ≡ (a || h || a)
    again true h = refl
    again false h = sym (or_false h)

    within : (a h b : Bool) → (a || (h || b)) ≡ (a || h || b)
    within true h b = refl
    within false h b = refl

    by_test : (b : Bool) → eqb p.site site ≡ b → has_place k (counted_at site ps) ≡ (has_place k ps || eqb site k)
        → has_place k (if b then (let q : BlindPlace = record { site = p.site; count = p.count + 1 } in q) ∷ ps else p ∷ counted_at site ps) ≡ (eqb p.site k || has_place k ps || eqb site k)
    by_test true e rest = again (eqb p.site k) (has_place k ps) ∙ ap (λ (i : ℕ). eqb p.site k || has_place k ps || eqb i k) (eqb-true p.site site e)
    by_test false e rest = ap (λ (b : Bool). eqb p.site k || b) rest ∙ within (eqb p.site k) (has_place k ps) (eqb site k)

once_more : (site : ℕ) (ps : List BlindPlace) → EachOnce ps → EachOnce (counted_at site ps)
once_more site [] h = (refl, tt)
once_more site (p ∷ ps) h = by_test (eqb p.site site) refl (once_more site ps h.1)
  where
    by_test : (b : Bool) → eqb p.site site ≡ b → EachOnce (counted_at site ps)
        → EachOnce (if b then (let q : BlindPlace = record { site = p.site; count = p.count + 1 } in q) ∷ ps else p ∷ counted_at site ps)
    by_test true e rest = h
    by_test false e rest =
        (has_more p.site site ps ∙ ap (λ (b : Bool). b || eqb site p.site) h.0 ∙ ne_eqb site p.site (λ z. eqb-false p.site site e (sym z)), rest)

once_after : (sites : List ℕ) (ps : List BlindPlace) → EachOnce ps → EachOnce (places_after ps sites)
once_after [] ps h = h
once_after (k ∷ ks) ps h = once_after ks (counted_at k ps) (once_more k ps h)

pub each_once : (sites : List ℕ) → EachOnce (places_of sites)
each_once sites = once_after sites [] tt
