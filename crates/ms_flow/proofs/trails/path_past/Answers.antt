use Rattle.std.proofs.Common.{◌≡◌, ◌≢◌, ℕ, List, ◌∷◌, Vec, Global, AllPairs, subst}
use Rattle.std.specs.Result.{IfOk}
use Rattle.ms_flow.specs.declared.visits.Visit.{Visit}
use Rattle.ms_flow.specs.Paths.{Misses}
use Rattle.ms_flow.specs.Walks.{Trail, Visits, block_at}
use Rattle.ms_flow.proofs.Visited.{trail_misses, trail_apart, if_ok}
use Rattle.ms_flow.proofs.trails.path_past.Goals as goal

pub unreachable-requires : goal.unreachable-requires
unreachable-requires c =
    let P : List Visit → Type 0 = λ l. Visits l c.args.u.now.block → ⊥ in
    subst P c.deref.ensures.value c.in_default.ensures.none (c.in_ok-visits.ensures.all c.args.u.now.block c.requires.undefined.0)

pub returns-clause-misses : goal.returns-clause-misses
returns-clause-misses c =
    let g = c.args.g.now in
    let u = c.args.u.now in
    let vs = c.in_ok-visits.visits.items in
    let last = c.in-Some.last in
    let at = rw c.deref.ensures.value at c.in-Some.ensures.found in
    let P : List Visit → Type 0 = λ l. IfOk c.trail.result (λ p. (rest : List ℕ) × Trail l last 0 rest × (p.items ≡ block_at l 0 ∷ rest)) in
    if_ok (λ (p : Vec ℕ Global). (rest : List ℕ) × Trail vs last 0 rest × (p.items ≡ block_at vs 0 ∷ rest)) (λ (p : Vec ℕ Global). Misses g u p.items)
    (λ p t. trail_misses g u vs last t.0 p.items c.in_ok-visits.ensures.walk at.0 at.1 c.requires.undefined t.1 t.2)
    c.trail.result (subst P c.deref-2.ensures.value c.trail.ensures)

pub returns-clause-once : goal.returns-clause-once
returns-clause-once c =
    let vs = c.in_ok-visits.visits.items in
    let last = c.in-Some.last in
    let at = rw c.deref.ensures.value at c.in-Some.ensures.found in
    let P : List Visit → Type 0 = λ l. IfOk c.trail.result (λ p. (rest : List ℕ) × Trail l last 0 rest × (p.items ≡ block_at l 0 ∷ rest)) in
    if_ok (λ (p : Vec ℕ Global). (rest : List ℕ) × Trail vs last 0 rest × (p.items ≡ block_at vs 0 ∷ rest)) (λ (p : Vec ℕ Global). AllPairs (λ a b. a ≢ b) p.items)
    (λ p t. trail_apart c.args.g.now c.args.u.now.value vs last t.0 p.items c.in_ok-visits.ensures.walk at.0 t.1 t.2)
    c.trail.result (subst P c.deref-2.ensures.value c.trail.ensures)
