-- Walks that are recorded, and the path that a record holds.
use Rattle.std.proofs.Common.{◌≡◌, ◌≢◌, ℕ, zero, suc, ◌+◌, ◌<◌, ◌≤◌, ◌⊎◌, Bool, true, false, not, cond, List, [], ◌∷◌, ◌++◌, length, get_or, take, replicate, refl, sym, ap, ◌∙◌, inl, inr, ⊎_elim, subst, arith, below_more, get_or-set_same, get_or-set_other, length-append, All, AllPairs, Contains, Result, Ok, Err}
use Rattle.std.specs.Result.{IfOk}
use Rattle.std.proofs.Math.ListN.{set}
use Rattle.std.proofs.lemmas.Bool.{cases_eq, cases_lt, true≢false, cond-true}
use Rattle.std.proofs.lemmas.List.{get_or-replicate, length-replicate, get_or_append_left, get_or_at, get_or_past, get_or_default, get_or-take, take_all, take-append-le, length-take}
use Rattle.std.proofs.lemmas.List.Sums.{sum_by-set}
use Rattle.std.proofs.lemmas.List.Elements.{All-nil, All-cons, Contains-get_or}
use Rattle.ms_flow.specs.declared.graphs.Graph.{Graph}
use Rattle.ms_flow.specs.declared.graphs.Use.{Use}
use Rattle.ms_flow.specs.declared.visits.Visit.{Visit}
use Rattle.ms_flow.specs.Paths.{HasEdge, Defines, Follows, IsPath, Misses}
use Rattle.ms_flow.specs.Search.{StaysIn, Arrives, IsUndefined}
use Rattle.ms_flow.specs.Search.Arrives.{Entry, Along}
use Rattle.ms_flow.specs.Walks.{visit_at, block_at, from_at, Visits, IsWalk, Marks, unseen, Trail}
use Rattle.ms_flow.specs.Walks.Trail.{Last, Back}
use Rattle.ms_flow.proofs.States.{get_set_same}

-- all that the first visits lead to is visited
abbrev pub IsClosed : Graph → ℕ → List Visit → ℕ → Type 0
IsClosed g v visits n = (k : ℕ) → k < n → ¬ Defines g (block_at visits k) v → (c : ℕ) → HasEdge g (block_at visits k) c → Visits visits c

-- ---- one more visit

same_at : (vs : List Visit) (x : Visit) (k : ℕ) → k < length vs → visit_at (vs ++ x ∷ []) k ≡ visit_at vs k
same_at vs x k lt = get_or_append_left vs (x ∷ []) (record { block = 0; from = 0 }) k lt

new_at : (vs : List Visit) (x : Visit) (k : ℕ) → k ≡ length vs → visit_at (vs ++ x ∷ []) k ≡ x
new_at vs x k e = get_or_at vs x [] (record { block = 0; from = 0 }) k (sym e)

one_more : (vs : List Visit) (x : Visit) → length (vs ++ x ∷ []) ≡ length vs + 1
one_more vs x = length-append vs (x ∷ [])

place_cases : (vs : List Visit) (x : Visit) (k : ℕ) → k < length (vs ++ x ∷ []) → (k < length vs) ⊎ (k ≡ length vs)
place_cases vs x k lt = let e = one_more vs x in ⊎_elim (λ h. inl h) (λ h. inr (omega arith)) (cases_lt k (length vs))

pub visits_kept : (vs : List Visit) (x : Visit) (b : ℕ) → Visits vs b → Visits (vs ++ x ∷ []) b
visits_kept vs x b (k, lt, e) = (k, let m = one_more vs x in omega arith, ap (λ (v : Visit). v.block) (same_at vs x k lt) ∙ e)

pub visits_new : (vs : List Visit) (x : Visit) → Visits (vs ++ x ∷ []) x.block
visits_new vs x = (length vs, let m = one_more vs x in omega arith, ap (λ (v : Visit). v.block) (new_at vs x (length vs) refl))

pub marks_push : (seen : List Bool) (vs : List Visit) (c from : ℕ) → c < length seen → Marks seen vs
    → Marks (set seen c true) (vs ++ (record { block = c; from = from }) ∷ [])
marks_push seen vs c from in_seen m =
    let x : Visit = record { block = c; from = from } in
    record {
      visited = λ b h. ⊎_elim
          (λ e. let P : ℕ → Type 0 = λ z. Visits (vs ++ x ∷ []) z in subst P (sym e) (visits_new vs x))
          (λ ne. visits_kept vs x b (m.visited b (sym (get_or-set_other seen c b true false ne) ∙ h)))
          (cases_eq b c);
      marked = λ k lt. ⊎_elim
          (λ h.
          let P : ℕ → Type 0 = λ z. get_or (set seen c true) z false ≡ true in
          let at : block_at (vs ++ x ∷ []) k ≡ block_at vs k = ap (λ (v : Visit). v.block) (same_at vs x k h) in
          subst P (sym at) (⊎_elim (λ e. get_set_same seen c (block_at vs k) true false in_seen e) (λ ne. get_or-set_other seen c (block_at vs k) true false ne ∙ m.marked k h) (cases_eq (block_at vs k) c)))
          (λ h. get_set_same seen c _ true false in_seen (ap (λ (v : Visit). v.block) (new_at vs x k h)))
          (place_cases vs x k lt);
    }

-- what holds of the block that a visit came from and of its own
abbrev Link : (ℕ → ℕ → Type 0) → List Visit → ℕ → Type 0
Link P vs k = P (block_at vs (from_at vs k)) (block_at vs k)

two : (P : ℕ → ℕ → Type 0) (a a' b b' : ℕ) → a ≡ a' → b ≡ b' → P a b → P a' b'
two P a a' b b' e f p = let Q : ℕ → Type 0 = λ z. P z b' in let R : ℕ → Type 0 = λ z. P a z in subst Q e (subst R f p)

link_kept : (P : ℕ → ℕ → Type 0) (vs : List Visit) (x : Visit) (k : ℕ) → k < length vs → from_at vs k < length vs → Link P vs k → Link P (vs ++ x ∷ []) k
link_kept P vs x k lt lt' p =
    let at = same_at vs x k lt in
    let back : block_at (vs ++ x ∷ []) (from_at (vs ++ x ∷ []) k) ≡ block_at vs (from_at vs k) =
    ap (λ (v : Visit). block_at (vs ++ x ∷ []) v.from) at ∙ ap (λ (v : Visit). v.block) (same_at vs x (from_at vs k) lt') in
    two P _ _ _ _ (sym back) (sym (ap (λ (v : Visit). v.block) at)) p

link_new : (P : ℕ → ℕ → Type 0) (vs : List Visit) (x : Visit) (k : ℕ) → k ≡ length vs → x.from < length vs → P (block_at vs x.from) x.block → Link P (vs ++ x ∷ []) k
link_new P vs x k e lt p =
    let at = new_at vs x k e in
    let back : block_at (vs ++ x ∷ []) (from_at (vs ++ x ∷ []) k) ≡ block_at vs x.from =
    ap (λ (v : Visit). block_at (vs ++ x ∷ []) v.from) at ∙ ap (λ (v : Visit). v.block) (same_at vs x x.from lt) in
    two P _ _ _ _ (sym back) (sym (ap (λ (v : Visit). v.block) at)) p

pub walk_push : (g : Graph) (v : ℕ) (vs : List Visit) (c from : ℕ) → from < length vs
    → HasEdge g (block_at vs from) c
    → (Defines g (block_at vs from) v → ⊥)
    → (Visits vs c → ⊥)
    → IsWalk g v vs
    → IsWalk g v (vs ++ (record { block = c; from = from }) ∷ [])
walk_push g v vs c from in_vs edge free fresh w =
    let x : Visit = record { block = c; from = from } in
    let m = one_more vs x in
    let Edge : ℕ → ℕ → Type 0 = λ a b. HasEdge g a b in
    let Free : ℕ → ℕ → Type 0 = λ a b. Defines g a v → ⊥ in
    record {
      starts = omega arith;
      entry = ap (λ (v : Visit). v.block) (same_at vs x 0 w.starts) ∙ w.entry;
      earlier = λ k pos lt. ⊎_elim
          (λ h. let e = ap (λ (v : Visit). v.from) (same_at vs x k h) in let f = w.earlier k pos h in omega arith)
          (λ h. let e = ap (λ (v : Visit). v.from) (new_at vs x k h) in omega arith)
          (place_cases vs x k lt);
      edges = λ k pos lt. ⊎_elim
          (λ h. let f = w.earlier k pos h in link_kept Edge vs x k h (omega arith) (w.edges k pos h))
          (λ h. link_new Edge vs x k h in_vs edge)
          (place_cases vs x k lt);
      avoids = λ k pos lt. ⊎_elim
          (λ h. let f = w.earlier k pos h in link_kept Free vs x k h (omega arith) (w.avoids k pos h))
          (λ h. link_new Free vs x k h in_vs free)
          (place_cases vs x k lt);
      apart = λ j k less lt same. ⊎_elim
          (λ h. w.apart j k less h (sym (ap (λ (v : Visit). v.block) (same_at vs x j (omega arith))) ∙ same ∙ ap (λ (v : Visit). v.block) (same_at vs x k h)))
          (λ h. let lt' : j < length vs = omega arith in
          fresh (j, lt', sym (ap (λ (v : Visit). v.block) (same_at vs x j lt')) ∙ same ∙ ap (λ (v : Visit). v.block) (new_at vs x k h)))
          (place_cases vs x k lt);
    }

pub unseen_push : (seen : List Bool) (c : ℕ) → c < length seen → get_or seen c false ≡ false → unseen (set seen c true) + 1 ≡ unseen seen
unseen_push seen c in_seen off =
    let q = sum_by-set (λ (b : Bool). cond (not b) 1 0) seen c true false in_seen in
    let one = cond-true {A = ℕ} (not (get_or seen c false)) 1 0 (ap not off) in
    omega arith

-- ---- the successors of one visit

-- after n of the successors of the visit at `from`
pub record Going (g : Graph) (from : ℕ) (seen' : List Bool) (vs' : List Visit) (next : List ℕ) (n : ℕ) (seen : List Bool) (vs : List Visit) : Type 0 where
  pub marks : Marks seen vs
  pub front : take (length vs') vs ≡ vs'
  pub given : (j : ℕ) → j < n → Visits vs (get_or next j 0)
  pub walk : (v : ℕ) → ¬ Defines g (block_at vs' from) v → IsWalk g v vs' → IsWalk g v vs
  pub work : unseen seen + length vs ≡ unseen seen' + length vs'

pub going_none : (g : Graph) (from : ℕ) (seen : List Bool) (vs : List Visit) (next : List ℕ) → Marks seen vs → Going g from seen vs next 0 seen vs
going_none g from seen vs next m = record {
  marks = m;
  front = take_all (length vs) vs (omega arith);
  given = λ j h. absurd (omega arith);
  walk = λ v free w. w;
  work = refl;
}

pub going_old : (g : Graph) (from : ℕ) (seen' : List Bool) (vs' : List Visit) (next : List ℕ) (n : ℕ) (seen : List Bool) (vs : List Visit)
    → Going g from seen' vs' next n seen vs
    → get_or seen (get_or next n 0) false ≡ true
    → Going g from seen' vs' next (n + 1) seen vs
going_old g from seen' vs' next n seen vs h on = record {
  marks = h.marks;
  front = h.front;
  given = below_more (λ j. Visits vs (get_or next j 0)) n h.given (h.marks.visited (get_or next n 0) on);
  walk = h.walk;
  work = h.work;
}

-- the first visits stay as they are
pub front_at : (vs' vs : List Visit) (k : ℕ) → k < length vs' → take (length vs') vs ≡ vs' → visit_at vs k ≡ visit_at vs' k
front_at vs' vs k lt e =
    sym (get_or-take (length vs') vs k (record { block = 0; from = 0 }) lt) ∙ ap (λ (l : List Visit). visit_at l k) e

pub front_length : (vs' vs : List Visit) → take (length vs') vs ≡ vs' → length vs' ≤ length vs
front_length vs' vs e = let m = ap (λ (l : List Visit). length l) e in omega (arith, m, length-take (length vs') vs)

pub going_new : (g : Graph) (from : ℕ) (seen' : List Bool) (vs' : List Visit) (next : List ℕ) (n : ℕ) (seen : List Bool) (vs : List Visit)
    → n < length next
    → from < length vs'
    → next ≡ get_or g.next (block_at vs' from) []
    → get_or next n 0 < length seen
    → Going g from seen' vs' next n seen vs
    → get_or seen (get_or next n 0) false ≡ false
    → Going g from seen' vs' next (n + 1) (set seen (get_or next n 0) true) (vs ++ (record { block = get_or next n 0; from = from }) ∷ [])
going_new g from seen' vs' next n seen vs lt in_front is in_seen h off =
    let c = get_or next n 0 in
    let x : Visit = record { block = c; from = from } in
    let longer = front_length vs' vs h.front in
    let in_vs : from < length vs = omega arith in
    let here : block_at vs from ≡ block_at vs' from = ap (λ (v : Visit). v.block) (front_at vs' vs from in_front h.front) in
    let Edges : List ℕ → Type 0 = λ l. Contains l c in
    let At : ℕ → Type 0 = λ b. HasEdge g b c in
    let edge : HasEdge g (block_at vs from) c = subst At (sym here) (subst Edges is (Contains-get_or next n 0 lt)) in
    let fresh : Visits vs c → ⊥ = λ p.
    let On : ℕ → Type 0 = λ z. get_or seen z false ≡ true in
    true≢false (sym (subst On p.2 (h.marks.marked p.0 p.1)) ∙ off) in
    record {
      marks = marks_push seen vs c from in_seen h.marks;
      front = take-append-le (length vs') vs (x ∷ []) longer ∙ h.front;
      given = below_more (λ j. Visits (vs ++ x ∷ []) (get_or next j 0)) n (λ j p. visits_kept vs x (get_or next j 0) (h.given j p)) (visits_new vs x);
      walk = λ v free w.
          let Free : ℕ → Type 0 = λ b. Defines g b v → ⊥ in
          walk_push g v vs c from in_vs edge (subst Free (sym here) free) fresh (h.walk v free w);
      work = let e = unseen_push seen c in_seen off in let m = one_more vs x in let w = h.work in omega arith;
    }

pub going_all : (g : Graph) (from : ℕ) (seen' : List Bool) (vs' : List Visit) (next : List ℕ) (n : ℕ) (seen : List Bool) (vs : List Visit)
    → length next ≤ n
    → next ≡ get_or g.next (block_at vs' from) []
    → Going g from seen' vs' next n seen vs
    → (c : ℕ) → HasEdge g (block_at vs' from) c → Visits vs c
going_all g from seen' vs' next n seen vs over is h c edge =
    let Edges : List ℕ → Type 0 = λ l. Contains l c in
    let at = subst Edges (sym is) edge in
    let P : ℕ → Type 0 = λ z. Visits vs z in
    subst P (get_or_default next at.0 0 c at.1 ∙ at.2) (h.given at.0 (omega arith))

pub flag_within : (seen : List Bool) (b : ℕ) → get_or seen b false ≡ true → b < length seen
flag_within seen b on = ⊎_elim (λ lt. lt) (λ past. absurd (true≢false (sym on ∙ get_or_past seen b false past))) (cases_lt b (length seen))

-- the block of a visit is one of the blocks
pub visited_within : (seen : List Bool) (vs : List Visit) (k : ℕ) → Marks seen vs → k < length vs → block_at vs k < length seen
visited_within seen vs k m lt = flag_within seen (block_at vs k) (m.marked k lt)

pub next_within : (g : Graph) (next : List ℕ) (b k : ℕ) → StaysIn g → b < length g.next → next ≡ get_or g.next b [] → k < length next → get_or next k 0 < length g.next
next_within g next b k stays lt is small =
    let P : List ℕ → Type 0 = λ l. All (λ c. c < length g.next) l in
    subst P (sym is) (stays b [] lt) k 0 small

-- ---- the whole walk

pub first_walk : (g : Graph) (v : ℕ) → IsWalk g v ((record { block = 0; from = 0 }) ∷ [])
first_walk g v = record {
  starts = omega arith;
  entry = refl;
  earlier = λ k pos lt. absurd (omega arith);
  edges = λ k pos lt. absurd (omega arith);
  avoids = λ k pos lt. absurd (omega arith);
  apart = λ j k less lt e. absurd (omega arith);
}

pub first_marks : (seen : List Bool) → 0 < length seen → ((b : ℕ) → get_or seen b false ≡ false) → Marks (set seen 0 true) ((record { block = 0; from = 0 }) ∷ [])
first_marks seen some off = record {
  visited = λ b h. ⊎_elim
      (λ e. (0, omega arith, sym e))
      (λ ne. absurd (true≢false (sym h ∙ get_or-set_other seen 0 b true false ne ∙ off b)))
      (cases_eq b 0);
  marked = λ k lt. let none : k ≡ 0 = omega arith in rw none (get_or-set_same seen 0 true false some);
}

pub closed_on : (g : Graph) (v : ℕ) (vs' vs : List Visit) (at : ℕ)
    → at < length vs'
    → take (length vs') vs ≡ vs'
    → ((b : ℕ) → Visits vs' b → Visits vs b)
    → ((c : ℕ) → ¬ Defines g (block_at vs' at) v → HasEdge g (block_at vs' at) c → Visits vs c)
    → IsClosed g v vs' at
    → IsClosed g v vs (at + 1)
closed_on g v vs' vs at lt front kept here closed k below free c edge =
    let in_front : k < length vs' = omega arith in
    let same : block_at vs k ≡ block_at vs' k = ap (λ (x : Visit). x.block) (front_at vs' vs k in_front front) in
    let Free : ℕ → Type 0 = λ b. ¬ Defines g b v in
    let Edge : ℕ → Type 0 = λ b. HasEdge g b c in
    let free' = subst Free same free in
    let edge' = subst Edge same edge in
    ⊎_elim
    (λ e. let At : ℕ → Type 0 = λ z. ¬ Defines g (block_at vs' z) v × HasEdge g (block_at vs' z) c in let p = subst At e (free', edge') in here c p.0 p.1)
    (λ ne. kept c (closed k (omega arith) free' c edge'))
    (cases_eq k at)

pub visits_front : (vs' vs : List Visit) → take (length vs') vs ≡ vs' → (b : ℕ) → Visits vs' b → Visits vs b
visits_front vs' vs front b (k, lt, e) =
    let longer = front_length vs' vs front in
    (k, omega arith, ap (λ (x : Visit). x.block) (front_at vs' vs k lt front) ∙ e)

visits_arriving : (g : Graph) (v : ℕ) (vs : List Visit) → IsWalk g v vs → IsClosed g v vs (length vs)
    → (b : ℕ) → Arrives g (λ a. Defines g a v) b → Visits vs b
visits_arriving g v vs w closed _ Entry = (0, w.starts, w.entry)
visits_arriving g v vs w closed c (Along b _ way free edge) =
    let at = visits_arriving g v vs w closed b way in
    let Free : ℕ → Type 0 = λ z. ¬ Defines g z v in
    let Edge : ℕ → Type 0 = λ z. HasEdge g z c in
    closed at.0 at.1 (subst Free (sym at.2) free) c (subst Edge (sym at.2) edge)

pub all_visited : (g : Graph) (v : ℕ) (vs : List Visit) (n : ℕ) → IsWalk g v vs → length vs ≤ n → IsClosed g v vs n
    → (b : ℕ) → Arrives g (λ a. Defines g a v) b → Visits vs b
all_visited g v vs n w over closed = visits_arriving g v vs w (λ k lt. closed k (omega arith))

-- ---- the path

trail_within : (g : Graph) (v : ℕ) (vs : List Visit) (last : ℕ) → IsWalk g v vs → last < length vs → (k : ℕ) (rest : List ℕ) → Trail vs last k rest → k < length vs
trail_within g v vs last w lt _ _ Last = lt
trail_within g v vs last w lt _ _ (Back k rest pos t) =
    let in_vs = trail_within g v vs last w lt k rest t in
    let e = w.earlier k pos in_vs in
    omega arith

trail_follows : (g : Graph) (v : ℕ) (vs : List Visit) (last : ℕ) → IsWalk g v vs → last < length vs → (k : ℕ) (rest : List ℕ) → Trail vs last k rest → Follows g (block_at vs k) rest
trail_follows g v vs last w lt _ _ Last = tt
trail_follows g v vs last w lt _ _ (Back k rest pos t) =
    (w.edges k pos (trail_within g v vs last w lt k rest t), trail_follows g v vs last w lt k rest t)

-- the blocks before the last, none of which defines the value
abbrev Before : Graph → ℕ → List ℕ → ℕ → Type 0
Before g v path end = (before : List ℕ) × (path ≡ before ++ end ∷ []) × All (λ b. ¬ Defines g b v) before

trail_before : (g : Graph) (v : ℕ) (vs : List Visit) (last : ℕ) → IsWalk g v vs → last < length vs → (k : ℕ) (rest : List ℕ) → Trail vs last k rest → Before g v (block_at vs k ∷ rest) (block_at vs last)
trail_before g v vs last w lt _ _ Last = ([], refl, All-nil (λ b. ¬ Defines g b v))
trail_before g v vs last w lt _ _ (Back k rest pos t) =
    let p = trail_before g v vs last w lt k rest t in
    let b = block_at vs (from_at vs k) in
    (b ∷ p.0, ap (λ (l : List ℕ). b ∷ l) p.1, All-cons (λ b. ¬ Defines g b v) b p.0 (w.avoids k pos (trail_within g v vs last w lt k rest t)) p.2)

-- the blocks of the path come from later visits
abbrev Later : List Visit → ℕ → List ℕ → Type 0
Later vs k rest = All (λ b. (j : ℕ) × (k < j) × (j < length vs) × (block_at vs j ≡ b)) rest

trail_later : (g : Graph) (v : ℕ) (vs : List Visit) (last : ℕ) → IsWalk g v vs → last < length vs → (k : ℕ) (rest : List ℕ) → Trail vs last k rest → Later vs k rest
trail_later g v vs last w lt _ _ Last = All-nil (λ b. (j : ℕ) × (last < j) × (j < length vs) × (block_at vs j ≡ b))
trail_later g v vs last w lt _ _ (Back k rest pos t) =
    let in_vs = trail_within g v vs last w lt k rest t in
    let e = w.earlier k pos in_vs in
    All-cons (λ b. (j : ℕ) × (from_at vs k < j) × (j < length vs) × (block_at vs j ≡ b)) (block_at vs k) rest
    (k, e, in_vs, refl)
    (λ i d small. let p = trail_later g v vs last w lt k rest t i d small in let q = p.1 in (p.0, omega arith, p.2, p.3))

pairs_cons : (x : ℕ) (xs : List ℕ) → All (λ y. x ≢ y) xs → AllPairs (λ a b. a ≢ b) xs → AllPairs (λ a b. a ≢ b) (x ∷ xs)
pairs_cons x xs h t zero zero d lt small = absurd (omega arith)
pairs_cons x xs h t zero (suc j) d lt small = h j d (omega arith)
pairs_cons x xs h t (suc i) zero d lt small = absurd (omega arith)
pairs_cons x xs h t (suc i) (suc j) d lt small = t i j d (omega arith) (omega arith)

pub trail_once : (g : Graph) (v : ℕ) (vs : List Visit) (last : ℕ) → IsWalk g v vs → last < length vs → (k : ℕ) (rest : List ℕ) → Trail vs last k rest → AllPairs (λ a b. a ≢ b) (block_at vs k ∷ rest)
trail_once g v vs last w lt _ _ Last =
    pairs_cons (block_at vs last) [] (All-nil (λ y. block_at vs last ≢ y)) (λ i j d less small. absurd (omega arith))
trail_once g v vs last w lt _ _ (Back k rest pos t) =
    pairs_cons (block_at vs (from_at vs k)) (block_at vs k ∷ rest)
    (λ i d small e. let p = trail_later g v vs last w lt (from_at vs k) (block_at vs k ∷ rest) (Back k rest pos t) i d small in w.apart (from_at vs k) p.0 p.1 p.2 (e ∙ sym p.3))
    (trail_once g v vs last w lt k rest t)

pub trail_misses : (g : Graph) (u : Use) (vs : List Visit) (last : ℕ) (rest path : List ℕ)
    → IsWalk g u.value vs → last < length vs → block_at vs last ≡ u.block → IsUndefined g u
    → Trail vs last 0 rest → path ≡ block_at vs 0 ∷ rest → Misses g u path
trail_misses g u vs last rest path w lt at undefined t is =
    let b = trail_before g u.value vs last w lt 0 rest t in
    record {
      before = b.0;
      ends = is ∙ b.1 ∙ ap (λ (n : ℕ). b.0 ++ n ∷ []) at;
      leads = let P : List ℕ → Type 0 = λ l. IsPath g l in subst P (sym is) (w.entry, trail_follows g u.value vs last w lt 0 rest t);
      avoids = λ passes. ⊎_elim
          (λ some. let none = b.2 some.0 some.1 some.2 in
          let D : ℕ → Type 0 = λ z. Defines g z u.value in none (subst D (sym some.3) some.4))
          (λ own. undefined.1 own.0 own.1)
          passes;
    }

pub trail_apart : (g : Graph) (v : ℕ) (vs : List Visit) (last : ℕ) (rest path : List ℕ)
    → IsWalk g v vs → last < length vs → Trail vs last 0 rest → path ≡ block_at vs 0 ∷ rest → AllPairs (λ a b. a ≢ b) path
trail_apart g v vs last rest path w lt t is =
    let P : List ℕ → Type 0 = λ l. AllPairs (λ a b. a ≢ b) l in subst P (sym is) (trail_once g v vs last w lt 0 rest t)

pub flags_blank : (n b : ℕ) → get_or {A = Bool} (replicate n false) b false ≡ false
flags_blank n b = ⊎_elim (λ h. get_or-replicate n b false false h) (λ h. get_or_past (replicate n false) b false (rw length-replicate h)) (cases_lt b n)

pub blank_flags : (flags : List Bool) (n : ℕ) → flags ≡ replicate n false → (b : ℕ) → get_or flags b false ≡ false
blank_flags flags n e b = ap (λ (l : List Bool). get_or l b false) e ∙ flags_blank n b

pub if_ok : {V E : Type 0} (P Q : V → Type 0) → ((v : V) → P v → Q v) → (r : Result V E) → IfOk r P → IfOk r Q
if_ok P Q f (Ok v) h = f v h
if_ok P Q f (Err e) h = tt
