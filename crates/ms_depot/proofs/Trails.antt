-- The way from an origin to its root.
use Rattle.std.proofs.Common.{◌≡◌, ◌≢◌, ℕ, zero, suc, ◌+◌, ◌-◌, ◌<◌, ◌≤◌, Bool, List, [], ◌∷◌, ◌++◌, length, get_or, refl, sym, ap, ◌∙◌, subst, arith, ⊎_elim, if◌then◌else◌, eqb, leb, Option, Some, None, slice_get, append_assoc, append-nil}
use Rattle.std.proofs.lemmas.Bool.{cases_lt, cases_eq, ne_eqb, le-leb, lt-leb}
use Rattle.std.proofs.lemmas.Option.{slice_get-get_or, slice_get_past}
use Rattle.ms_runs.specs.declared.runs.Origin.{Origin}
use Rattle.ms_runs.specs.declared.runs.Origin.TheVariants.{Root, Chain}
use Rattle.ms_runs.specs.World.{World, Setting}
use Rattle.ms_runs.specs.Origins.{trail, trail_within}
use Rattle.ms_depot.specs.Depots.{DepotState, Rows, IsNumber, StandsFor, IsDepot, IsPair, earlier_of}

-- what contracts see of what is kept
abbrev pub shown : Rows → DepotState
shown d = record { roots = d.roots; pairs = d.pairs }

-- the whole way
abbrev pub way_in : DepotState → ℕ → List Origin
way_in d id = trail_within (length d.pairs + 1) d.roots d.pairs id

-- ---- one move

-- what comes where a number is past the roots
abbrev onward : (ℕ → List Origin) → Option (ℕ × ℕ) → List Origin
onward rest o = elim o [ Some p ↦ Chain p.0 p.1 ∷ rest p.0 | None ↦ [] ]

abbrev move : (ℕ → List Origin) → ℕ → List (ℕ × ℕ) → ℕ → List Origin
move rest roots pairs id = if eqb id 0 then [] else (if leb id roots then Root id ∷ [] else onward rest (slice_get pairs (id - roots - 1)))

at-root : (rest : ℕ → List Origin) (roots : ℕ) (pairs : List (ℕ × ℕ)) (id : ℕ) → 0 < id → id ≤ roots → move rest roots pairs id ≡ Root id ∷ []
at-root rest roots pairs id some low =
    ap (λ (b : Bool). if b then [] else (if leb id roots then Root id ∷ [] else onward rest (slice_get pairs (id - roots - 1)))) (ne_eqb id 0 (λ e. omega (arith, e, some)))
    ∙ ap (λ (b : Bool). if b then Root id ∷ [] else onward rest (slice_get pairs (id - roots - 1))) (le-leb id roots low)

at-pair : (rest : ℕ → List Origin) (roots : ℕ) (pairs : List (ℕ × ℕ)) (id : ℕ) → roots < id → move rest roots pairs id ≡ onward rest (slice_get pairs (id - roots - 1))
at-pair rest roots pairs id high =
    ap (λ (b : Bool). if b then [] else (if leb id roots then Root id ∷ [] else onward rest (slice_get pairs (id - roots - 1)))) (ne_eqb id 0 (λ e. omega (arith, e, high)))
    ∙ ap (λ (b : Bool). if b then Root id ∷ [] else onward rest (slice_get pairs (id - roots - 1))) (lt-leb id roots high)

-- a number that stands for nothing has no way
pub way-ends : (n roots : ℕ) (pairs : List (ℕ × ℕ)) (id : ℕ) → ¬ IsNumber roots (length pairs) id → trail_within (suc n) roots pairs id ≡ []
way-ends n roots pairs id none = ⊎_elim
    (λ (e : id ≡ 0). ap (λ (i : ℕ). trail_within (suc n) roots pairs i) e)
    (λ (e : id ≢ 0). ⊎_elim
    (λ (high : roots < id).
    at-pair (trail_within n roots pairs) roots pairs id high
    ∙ ap (λ (o : Option (ℕ × ℕ)). onward (trail_within n roots pairs) o) (slice_get_past pairs (id - roots - 1) (⊎_elim
    (λ (past : roots + length pairs < id). let h : length pairs ≤ id - roots - 1 = omega (arith, past) in h)
    (λ (within : id ≤ roots + length pairs). absurd (none (omega (arith, high), within)))
    (cases_lt (roots + length pairs) id))))
    (λ (low : id ≤ roots). absurd (none (omega (arith, e), omega (arith, low))))
    (cases_lt roots id))
    (cases_eq id 0)

-- ---- as many moves as are enough

pub pair-at : (d : Rows) → IsDepot d → (k : ℕ) (p : ℕ × ℕ) → slice_get d.pairs k ≡ Some p → (k < length d.pairs) × IsPair d.roots d.depths k p
pair-at d is k p at = ⊎_elim
    (λ (l : k < length d.pairs).
    let same : get_or d.pairs k (0, 0) ≡ p = cc (slice_get-get_or d.pairs k (0, 0) l, at) in
    (l, subst (λ (q : ℕ × ℕ). IsPair d.roots d.depths k q) same (is.pairs k (0, 0) l)))
    (λ (l : length d.pairs ≤ k). absurd (cc (slice_get_past d.pairs k l, at)))
    (cases_lt k (length d.pairs))

onward-same : (f g : ℕ → List Origin) (o : Option (ℕ × ℕ)) → ((p : ℕ × ℕ) → o ≡ Some p → f p.0 ≡ g p.0) → onward f o ≡ onward g o
onward-same f g None same = refl
onward-same f g (Some p) same = ap (λ (way : List Origin). Chain p.0 p.1 ∷ way) (same p refl)

root-same : (f g : ℕ → List Origin) (roots : ℕ) (pairs : List (ℕ × ℕ)) (id : ℕ) → id ≤ roots → move f roots pairs id ≡ move g roots pairs id
root-same f g roots pairs id low =
    ap (λ (b : Bool). if eqb id 0 then [] else (if b then Root id ∷ [] else onward f (slice_get pairs (id - roots - 1)))) (le-leb id roots low)
    ∙ sym (ap (λ (b : Bool). if eqb id 0 then [] else (if b then Root id ∷ [] else onward g (slice_get pairs (id - roots - 1)))) (le-leb id roots low))

pair-same : (f g : ℕ → List Origin) (roots : ℕ) (pairs : List (ℕ × ℕ)) (id : ℕ) → ((p : ℕ × ℕ) → slice_get pairs (id - roots - 1) ≡ Some p → f p.0 ≡ g p.0) → move f roots pairs id ≡ move g roots pairs id
pair-same f g roots pairs id same =
    ap (λ (way : List Origin). if eqb id 0 then [] else (if leb id roots then Root id ∷ [] else way)) (onward-same f g (slice_get pairs (id - roots - 1)) same)

-- two numbers of moves that both reach the root
same-way : (d : Rows) → IsDepot d → (n m id : ℕ) → id ≤ d.roots + n → id ≤ d.roots + m → trail_within (suc n) d.roots d.pairs id ≡ trail_within (suc m) d.roots d.pairs id
same-way d is zero m id few more = root-same (trail_within zero d.roots d.pairs) (trail_within m d.roots d.pairs) d.roots d.pairs id (omega (arith, few))
same-way d is (suc n) zero id few more = root-same (trail_within (suc n) d.roots d.pairs) (trail_within zero d.roots d.pairs) d.roots d.pairs id (omega (arith, more))
same-way d is (suc n) (suc m) id few more = ⊎_elim
    (λ (high : d.roots < id).
    pair-same (trail_within (suc n) d.roots d.pairs) (trail_within (suc m) d.roots d.pairs) d.roots d.pairs id
    (λ p at.
    let e : p.0 ≤ d.roots + (id - d.roots - 1) = (pair-at d is (id - d.roots - 1) p at).1.earlier in
    same-way d is n m p.0 (omega (arith, e, few, high)) (omega (arith, e, more, high))))
    (λ (low : id ≤ d.roots). root-same (trail_within (suc n) d.roots d.pairs) (trail_within (suc m) d.roots d.pairs) d.roots d.pairs id low)
    (cases_lt d.roots id)

one-more : (d : DepotState) (id : ℕ) → way_in d id ≡ trail_within (suc (length d.pairs)) d.roots d.pairs id
one-more d id = let e : length d.pairs + 1 ≡ suc (length d.pairs) = omega arith in ap (λ (n : ℕ). trail_within n d.roots d.pairs id) e

-- ---- the way by its origins

first-is : (d : Rows) → IsDepot d → (id : ℕ) (origin : Origin) → StandsFor (shown d) id origin → way_in (shown d) id ≡ origin ∷ way_in (shown d) (earlier_of origin)
first-is d is id (Root number) at =
    one-more (shown d) id
    ∙ at-root (trail_within (length d.pairs) d.roots d.pairs) d.roots d.pairs id at.1.0 at.1.1
    ∙ ap (λ (k : ℕ). Root k ∷ []) (sym at.0)
    ∙ ap (λ (way : List Origin). Root number ∷ way) (sym (one-more (shown d) 0))
first-is d is id (Chain old site) at =
    let here : (id - d.roots - 1 < length d.pairs) × IsPair d.roots d.depths (id - d.roots - 1) (old, site) = pair-at d is (id - d.roots - 1) (old, site) at.1 in
    let inside : id - d.roots - 1 < length d.pairs = here.0 in
    let e : old ≤ d.roots + (id - d.roots - 1) = here.1.earlier in
    let less : length d.pairs ≡ suc (length d.pairs - 1) = omega (arith, inside) in
    one-more (shown d) id
    ∙ at-pair (trail_within (length d.pairs) d.roots d.pairs) d.roots d.pairs id at.0
    ∙ ap (λ (o : Option (ℕ × ℕ)). onward (trail_within (length d.pairs) d.roots d.pairs) o) at.1
    ∙ ap (λ (way : List Origin). Chain old site ∷ way)
    (ap (λ (n : ℕ). trail_within n d.roots d.pairs old) less
    ∙ same-way d is (length d.pairs - 1) (length d.pairs) old (omega (arith, e, inside)) (omega (arith, e, inside))
    ∙ sym (one-more (shown d) old))

-- the way so far, and the way from here on, are the whole way: one origin more
pub goes-on : (d : Rows) (v : DepotState) → shown d ≡ v → IsDepot d → (id at next : ℕ) (origin : Origin) (way way' : List Origin) → StandsFor v at origin → next ≡ earlier_of origin → way' ≡ way ++ origin ∷ [] →
    way ++ way_in v at ≡ way_in v id → way' ++ way_in v next ≡ way_in v id
goes-on d v view is id at next origin way way' here to more whole =
    ap (λ (xs : List Origin). xs ++ way_in v next) more
    ∙ append_assoc way (origin ∷ []) (way_in v next)
    ∙ ap (λ (n : ℕ). way ++ (origin ∷ way_in v n)) to
    ∙ ap (λ (xs : List Origin). way ++ xs) (sym (subst (λ (w : DepotState). StandsFor w at origin → way_in w at ≡ origin ∷ way_in w (earlier_of origin)) view (first-is d is at origin) here))
    ∙ whole

-- it is whole where the number stands for nothing
pub whole-way : (v : DepotState) (setting : Setting) (world : World) (id at : ℕ) (way : List Origin) → setting.roots ≡ v.roots → world.pairs ≡ v.pairs → ¬ IsNumber v.roots (length v.pairs) at → way ++ way_in v at ≡ way_in v id → way ≡ trail setting world id
whole-way v setting world id at way roots pairs none whole =
    sym (append-nil way)
    ∙ ap (λ (xs : List Origin). way ++ xs) (sym (one-more v at ∙ way-ends (length v.pairs) v.roots v.pairs at none))
    ∙ whole
    ∙ sym (ap (λ (ps : List (ℕ × ℕ)). trail_within (length ps + 1) setting.roots ps id) pairs ∙ ap (λ (r : ℕ). trail_within (length v.pairs + 1) r v.pairs id) roots)
