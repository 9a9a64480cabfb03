-- The depth of an origin, and a pair more.
use Rattle.std.proofs.Common.{◌≡◌, ◌≢◌, ℕ, zero, suc, ◌+◌, ◌-◌, ◌<◌, ◌≤◌, Bool, true, false, List, [], ◌∷◌, ◌++◌, length, take, get_or, refl, sym, ap, ◌∙◌, subst, arith, ⊎_elim, if◌then◌else◌, cond, eqb, leb, ltb, ◌&&◌, ◌||◌, nat_eq, Option, Some, None, option_map, slice_get, is_some}
use Rattle.std.specs.List.{list_any, position_or_len}
use Rattle.std.proofs.lemmas.Bool.{cases_lt, cases_eq, eq-eqb, ne_eqb, lt-ltb, le-ltb, le-leb, lt-leb}
use Rattle.std.proofs.lemmas.List.Recursion.{is_position_or_len}
use Rattle.std.proofs.lemmas.Option.{slice_get-get_or}
use Rattle.std.proofs.lemmas.List.{length-take-le, length-append, get_or_append_left, get_or-take}
use Rattle.std.proofs.Math.Seq.{get_or-append_seam}
use Rattle.ms_runs.specs.declared.runs.Origin.{Origin}
use Rattle.ms_runs.specs.declared.runs.Origin.TheVariants.{Root, Chain}
use Rattle.ms_runs.specs.World.{World, Setting}
use Rattle.ms_runs.specs.Origins.{trail, trail_within, pair_index, pair_limit, depth_limit, keeps_old, chain, Chained as Made}
use Rattle.ms_depot.specs.Depots.{DepotState, Rows, IsNumber, IsDepot, IsPair, depth_in, IsChained}
use Rattle.ms_depot.proofs.Trails.{shown}

-- ---- the length of a trail

abbrev after : ℕ → Rows → Option (ℕ × ℕ) → List Origin
after n d o = elim o [ Some p ↦ Chain p.0 p.1 ∷ trail_within n d.roots d.pairs p.0 | None ↦ [] ]

root-step : (d : Rows) (n id : ℕ) → 0 < id → id ≤ d.roots → length (trail_within (suc n) d.roots d.pairs id) ≡ depth_in d.roots d.depths id + 1
root-step d n id some root =
    ap (λ (b : Bool). length (if b then [] else (if leb id d.roots then Root id ∷ [] else after n d (slice_get d.pairs (id - d.roots - 1))))) (ne_eqb id 0 (λ e. omega (arith, e, some)))
    ∙ ap (λ (b : Bool). length (if b then Root id ∷ [] else after n d (slice_get d.pairs (id - d.roots - 1)))) (le-leb id d.roots root)
    ∙ ap (λ (b : Bool). (if b then 0 else get_or d.depths (id - d.roots - 1) 0) + 1) (sym (le-leb id d.roots root))

pair-step : (d : Rows) (n id : ℕ) → IsDepot d → d.roots < id → id ≤ d.roots + length d.pairs →
    length (trail_within n d.roots d.pairs (get_or d.pairs (id - d.roots - 1) (0, 0)).0) ≡ depth_in d.roots d.depths (get_or d.pairs (id - d.roots - 1) (0, 0)).0 + 1 → length (trail_within (suc n) d.roots d.pairs id) ≡ depth_in d.roots d.depths id + 1
pair-step d n id is pair known more =
    let k : ℕ = id - d.roots - 1 in
    let inside : id - d.roots - 1 < length d.pairs = omega (arith, pair, known) in
    let p : IsPair d.roots d.depths (id - d.roots - 1) (get_or d.pairs (id - d.roots - 1) (0, 0)) = is.pairs (id - d.roots - 1) (0, 0) inside in
    ap (λ (b : Bool). length (if b then [] else (if leb id d.roots then Root id ∷ [] else after n d (slice_get d.pairs (id - d.roots - 1))))) (ne_eqb id 0 (λ e. omega (arith, e, pair)))
    ∙ ap (λ (b : Bool). length (if b then Root id ∷ [] else after n d (slice_get d.pairs (id - d.roots - 1)))) (lt-leb id d.roots pair)
    ∙ ap (λ (o : Option (ℕ × ℕ)). length (after n d o)) (slice_get-get_or d.pairs (id - d.roots - 1) (0, 0) inside)
    ∙ ap suc more
    ∙ (let one : suc (depth_in d.roots d.depths (get_or d.pairs (id - d.roots - 1) (0, 0)).0 + 1) ≡ get_or d.depths (id - d.roots - 1) 0 + 1 = omega (arith, p.depth) in one)
    ∙ ap (λ (b : Bool). (if b then 0 else get_or d.depths (id - d.roots - 1) 0) + 1) (sym (lt-leb id d.roots pair))

-- with enough moves it is one more than the depth
trail-length : (d : Rows) → IsDepot d → (n id : ℕ) → 0 < id → id ≤ d.roots + length d.pairs → id ≤ d.roots + n → length (trail_within (suc n) d.roots d.pairs id) ≡ depth_in d.roots d.depths id + 1
trail-length d is zero id some known enough = root-step d zero id some (omega (arith, enough))
trail-length d is (suc n) id some known enough = ⊎_elim
    (λ (pair : d.roots < id).
    let inside : id - d.roots - 1 < length d.pairs = omega (arith, pair, known) in
    let p : IsPair d.roots d.depths (id - d.roots - 1) (get_or d.pairs (id - d.roots - 1) (0, 0)) = is.pairs (id - d.roots - 1) (0, 0) inside in
    pair-step d (suc n) id is pair known
    (trail-length d is n (get_or d.pairs (id - d.roots - 1) (0, 0)).0 p.some (omega (arith, p.earlier, known, pair)) (omega (arith, p.earlier, enough, pair))))
    (λ (root : id ≤ d.roots). root-step d (suc n) id some root)
    (cases_lt d.roots id)

whole-length : (d : Rows) (setting : Setting) (world : World) (id : ℕ) → IsDepot d → setting.roots ≡ d.roots → world.pairs ≡ d.pairs → IsNumber d.roots (length d.pairs) id → length (trail setting world id) ≡ depth_in d.roots d.depths id + 1
whole-length d setting world id is roots pairs known =
    ap (λ (ps : List (ℕ × ℕ)). length (trail_within (length ps + 1) setting.roots ps id)) pairs
    ∙ ap (λ (r : ℕ). length (trail_within (length d.pairs + 1) r d.pairs id)) roots
    ∙ (let e : length d.pairs + 1 ≡ suc (length d.pairs) = omega arith in ap (λ (n : ℕ). length (trail_within n d.roots d.pairs id)) e)
    ∙ trail-length d is (length d.pairs) id known.0 known.1 known.1

-- ---- an origin that is kept

deep : (n : ℕ) (b c : Bool) → b ≡ true → (eqb n 0 || b || c) ≡ true
deep n true c e = either (eqb n 0) c
  where
    either : (b c : Bool) → (b || true || c) ≡ true
    either true c = refl
    either false c = refl
deep n false c e = absurd (cc)

keeps-then : (setting : Setting) (world : World) (old site : ℕ) (v : DepotState) → world.pairs ≡ v.pairs → keeps_old setting world old ≡ true → IsChained setting world old site old v
keeps-then setting world old site v pairs keeps = record {
  id = sym (ap (λ (m : Made). m.id) whole);
  pairs = sym (ap (λ (m : Made). m.world.pairs) whole ∙ pairs);
}
  where
    whole : chain setting old site world ≡ record { id = old; world = world }
    whole = ap (λ (b : Bool). if b then record { id = old; world = world } else
        elim (pair_index world.pairs old site) [
          | Some k ↦ record { id = setting.roots + 1 + k; world = world }
          | None ↦ record { id = setting.roots + 1 + length world.pairs; world = record world { pairs = world.pairs ++ (old, site) ∷ [] } }
        ]) keeps

-- it is as deep as origins go
pub kept-deep : (d : Rows) (v : DepotState) → shown d ≡ v → (setting : Setting) (world : World) (old site n : ℕ) → IsDepot d → setting.roots ≡ v.roots → world.pairs ≡ v.pairs → IsNumber d.roots (length d.pairs) old → n ≡ depth_in d.roots d.depths old → depth_limit ≤ n → IsChained setting world old site old v
kept-deep d v view setting world old site n is roots pairs known at enough =
    keeps-then setting world old site v pairs
    (deep (length (trail setting world old)) (ltb depth_limit (length (trail setting world old))) _
    (lt-ltb depth_limit (length (trail setting world old)) (omega (
      arith,
      enough,
      at,
      whole-length d setting world old is (roots ∙ sym (ap (λ (w : DepotState). w.roots) view)) (pairs ∙ sym (ap (λ (w : DepotState). w.pairs) view)) known,
    ))))

-- ---- a pair more

depth-kept : (roots : ℕ) (pairs : List (ℕ × ℕ)) (depths : List ℕ) (n id : ℕ) → length pairs ≤ length depths → id ≤ roots + length pairs → depth_in roots (take (length pairs) depths ++ n ∷ []) id ≡ depth_in roots depths id
depth-kept roots pairs depths n id enough known = by (leb id roots) refl
  where
    by : (b : Bool) → leb id roots ≡ b → (if b then 0 else get_or (take (length pairs) depths ++ n ∷ []) (id - roots - 1) 0) ≡ (if b then 0 else get_or depths (id - roots - 1) 0)
    by true e = refl
    by false e =
        let l : id - roots - 1 < length pairs = omega (arith, known, not-le id roots e) in
        get_or_append_left (take (length pairs) depths) (n ∷ []) 0 (id - roots - 1) (omega (arith, l, length-take-le (length pairs) depths enough))
        ∙ get_or-take (length pairs) depths (id - roots - 1) 0 l
      where
        not-le : (a b : ℕ) → leb a b ≡ false → b < a
        not-le a b e = ⊎_elim (λ (h : b < a). h) (λ (h : a ≤ b). absurd (cc (le-leb a b h, e))) (cases_lt b a)

pub pair-more : (d : Rows) (old site n : ℕ) (b : Bool) (pairs' : List (ℕ × ℕ)) (depths' : List ℕ) → IsDepot d → length d.pairs < pair_limit → IsNumber d.roots (length d.pairs) old → n ≡ depth_in d.roots d.depths old →
    pairs' ≡ (if b then d.pairs else d.pairs ++ (old, site) ∷ []) → depths' ≡ take (length d.pairs) d.depths ++ (n + 1) ∷ [] → IsDepot (record { roots = d.roots; pairs = pairs'; depths = depths' })
pair-more d old site n b pairs' depths' is few known at ps ds =
    subst (λ (xs : List (ℕ × ℕ)). IsDepot (record { roots = d.roots; pairs = xs; depths = depths' })) (sym ps)
    (subst (λ (ys : List ℕ). IsDepot (record { roots = d.roots; pairs = if b then d.pairs else d.pairs ++ (old, site) ∷ []; depths = ys })) (sym ds) (by b))
  where
    new : List ℕ
    new = take (length d.pairs) d.depths ++ (n + 1) ∷ []

    longer : length new ≡ length d.pairs + 1
    longer = length-append (take (length d.pairs) d.depths) ((n + 1) ∷ []) ∙ ap (λ (k : ℕ). k + 1) (length-take-le (length d.pairs) d.depths is.depths)

    before : (k : ℕ) (x : ℕ × ℕ) → k < length d.pairs → IsPair d.roots new k (get_or d.pairs k x)
    before k x l =
        let p = is.pairs k x l in
        record {
          some = p.some;
          earlier = p.earlier;
          depth = get_or_append_left (take (length d.pairs) d.depths) ((n + 1) ∷ []) 0 k (omega (arith, l, length-take-le (length d.pairs) d.depths is.depths))
              ∙ get_or-take (length d.pairs) d.depths k 0 l ∙ p.depth
              ∙ ap (λ (j : ℕ). j + 1) (sym (depth-kept d.roots d.pairs d.depths (n + 1) (get_or d.pairs k x).0 is.depths (omega (arith, p.earlier, l))));
        }

    last : IsPair d.roots new (length d.pairs) (old, site)
    last = record {
      some = known.0;
      earlier = known.1;
      depth = ap (λ (k : ℕ). get_or new k 0) (sym (length-take-le (length d.pairs) d.depths is.depths)) ∙ get_or-append_seam (take (length d.pairs) d.depths) (n + 1) [] 0
          ∙ ap (λ (j : ℕ). j + 1) (at ∙ sym (depth-kept d.roots d.pairs d.depths (n + 1) old is.depths known.1));
    }

    by : (b : Bool) → IsDepot (record { roots = d.roots; pairs = if b then d.pairs else d.pairs ++ (old, site) ∷ []; depths = new })
    by true = record { pairs = before; depths = omega (arith, longer); few = is.few; roots = is.roots }
    by false = record {
      pairs = λ k x l. ⊎_elim
          (λ (e : k < length d.pairs). subst (λ (p : ℕ × ℕ). IsPair d.roots new k p) (sym (get_or_append_left d.pairs ((old, site) ∷ []) x k e)) (before k x e))
          (λ (e : length d.pairs ≤ k).
          let here : length d.pairs ≡ k = omega (arith, e, l, length-append d.pairs ((old, site) ∷ [])) in
          subst (λ (j : ℕ). IsPair d.roots new j (get_or (d.pairs ++ (old, site) ∷ []) j x)) here
          (subst (λ (p : ℕ × ℕ). IsPair d.roots new (length d.pairs) p) (sym (get_or-append_seam d.pairs (old, site) [] x)) last))
          (cases_lt k (length d.pairs));
      depths = omega (arith, longer, length-append d.pairs ((old, site) ∷ []));
      few = omega (arith, few, length-append d.pairs ((old, site) ∷ []));
      roots = is.roots;
    }

-- ---- the place of a pair

abbrev pub same : (old site : ℕ) → ℕ × ℕ → Bool
same old site y = nat_eq old y.0 && nat_eq site y.1

one-same : (a b : ℕ) → nat_eq a b ≡ eqb b a
one-same a b = ⊎_elim
    (λ (e : a ≡ b). eq-eqb a b e ∙ sym (eq-eqb b a (sym e)))
    (λ (e : a ≢ b). ne_eqb a b e ∙ sym (ne_eqb b a (λ f. e (sym f))))
    (cases_eq a b)

test-same : (old site : ℕ) (p : ℕ × ℕ) → (eqb p.0 old && eqb p.1 site) ≡ same old site p
test-same old site p = ap (λ (b : Bool). b && eqb p.1 site) (sym (one-same old p.0)) ∙ ap (λ (b : Bool). nat_eq old p.0 && b) (sym (one-same site p.1))

abbrev place_or : ℕ → Option ℕ → ℕ
place_or n o = elim o [ Some k ↦ k | None ↦ n ]

place-is : (old site : ℕ) (xs : List (ℕ × ℕ)) → place_or (length xs) (pair_index xs old site) ≡ position_or_len (same old site) xs
place-is old site xs = is_position_or_len (λ ys. place_or (length ys) (pair_index ys old site)) (same old site) refl
    (λ x ys. ap (λ (b : Bool). place_or (suc (length ys)) (if b then Some 0 else option_map suc (pair_index ys old site))) (test-same old site x) ∙ by (same old site x) (length ys) (pair_index ys old site)) xs
  where
    by : (b : Bool) (n : ℕ) (o : Option ℕ) → place_or (suc n) (if b then Some 0 else option_map suc o) ≡ cond b 0 (1 + place_or n o)
    by true n o = refl
    by false n None = omega arith
    by false n (Some k) = omega arith

any-is : (old site : ℕ) (xs : List (ℕ × ℕ)) → is_some (pair_index xs old site) ≡ list_any (same old site) xs
any-is old site [] = refl
any-is old site (x ∷ xs) = ap (λ (b : Bool). is_some (if b then Some 0 else option_map suc (pair_index xs old site))) (test-same old site x) ∙ by (same old site x) (pair_index xs old site) ∙ ap (λ (b : Bool). same old site x || b) (any-is old site xs)
  where
    by : (b : Bool) (o : Option ℕ) → is_some (if b then Some 0 else option_map suc o) ≡ (b || is_some o)
    by true o = refl
    by false None = refl
    by false (Some k) = refl

pub chained-new : (d : Rows) (v : DepotState) → shown d ≡ v → (setting : Setting) (world : World) (old site n place : ℕ) (d' : DepotState) → IsDepot d → setting.roots ≡ v.roots → world.pairs ≡ v.pairs → length d.pairs < pair_limit → IsNumber d.roots (length d.pairs) old → n ≡ depth_in d.roots d.depths old → n < depth_limit →
    place ≡ position_or_len (same old site) d.pairs → d'.pairs ≡ (if list_any (same old site) d.pairs then d.pairs else d.pairs ++ (old, site) ∷ []) → IsChained setting world old site (d.roots + 1 + place) d'
chained-new d v view setting world old site n place d' is roots' pairs' few known at shallow where' ps = record {
  id = sym (ap (λ (m : Made). m.id) whole ∙ id-of (pair_index world.pairs old site)
      ∙ ap (λ (r : ℕ). r + 1 + place_or (length world.pairs) (pair_index world.pairs old site)) roots
      ∙ ap (λ (k : ℕ). d.roots + 1 + k) (place-is old site world.pairs ∙ ap (λ (xs : List (ℕ × ℕ)). position_or_len (same old site) xs) pairs ∙ sym where'));
  pairs = ps ∙ sym (ap (λ (m : Made). m.world.pairs) whole ∙ pairs-of (pair_index world.pairs old site)
      ∙ ap (λ (b : Bool). if b then world.pairs else world.pairs ++ (old, site) ∷ []) (any-is old site world.pairs)
      ∙ ap (λ (xs : List (ℕ × ℕ)). if list_any (same old site) xs then xs else xs ++ (old, site) ∷ []) pairs);
}
  where
    roots : setting.roots ≡ d.roots
    roots = roots' ∙ sym (ap (λ (w : DepotState). w.roots) view)

    pairs : world.pairs ≡ d.pairs
    pairs = pairs' ∙ sym (ap (λ (w : DepotState). w.pairs) view)

    pick : Option ℕ → Made
    pick o = elim o [
      | Some k ↦ record { id = setting.roots + 1 + k; world = world }
      | None ↦ record { id = setting.roots + 1 + length world.pairs; world = record world { pairs = world.pairs ++ (old, site) ∷ [] } }
    ]

    id-of : (o : Option ℕ) → (pick o).id ≡ setting.roots + 1 + place_or (length world.pairs) o
    id-of None = refl
    id-of (Some k) = refl

    pairs-of : (o : Option ℕ) → (pick o).world.pairs ≡ (if is_some o then world.pairs else world.pairs ++ (old, site) ∷ [])
    pairs-of None = refl
    pairs-of (Some k) = refl

    len : length (trail setting world old) ≡ n + 1
    len = whole-length d setting world old is roots pairs known ∙ ap (λ (k : ℕ). k + 1) (sym at)

    no : (a b c : Bool) → a ≡ false → b ≡ false → c ≡ false → (a || b || c) ≡ false
    no false false false e f g = refl
    no true b c e f g = absurd (cc)
    no false true c e f g = absurd (cc)
    no false false true e f g = absurd (cc)

    keeps-not : keeps_old setting world old ≡ false
    keeps-not = no _ _ _ (ne_eqb (length (trail setting world old)) 0 (λ e. omega (arith, e, len))) (le-ltb depth_limit (length (trail setting world old)) (omega (arith, len, shallow))) (lt-leb pair_limit (length world.pairs) (omega (arith, few, ap (λ (xs : List (ℕ × ℕ)). length xs) pairs)))

    whole : chain setting old site world ≡ pick (pair_index world.pairs old site)
    whole = ap (λ (b : Bool). if b then record { id = old; world = world } else pick (pair_index world.pairs old site)) keeps-not
