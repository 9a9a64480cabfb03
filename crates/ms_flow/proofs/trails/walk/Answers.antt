use Rattle.std.proofs.Common.{◌≡◌, ℕ, ◌<◌, true, List, [], length, get_or, sym, ap, ◌∙◌, subst, arith, Bool, Decides, Contains}
use Rattle.std.proofs.lemmas.Bool.{false≢true}
use Rattle.ms_flow.specs.declared.graphs.Graph.{Graph}
use Rattle.std.proofs.lemmas.List.{get_or_read, with_items_is, take_all, length-set}
use Rattle.ms_flow.specs.declared.visits.Visit.{Visit}
use Rattle.ms_flow.specs.Paths.{Defines}
use Rattle.ms_flow.specs.Walks.{block_at, unseen}
use Rattle.ms_flow.proofs.Members.{contained}
use Rattle.ms_flow.proofs.Visited.{blank_flags, first_walk, first_marks, closed_on, visits_front, front_length, all_visited, visited_within}
use Rattle.ms_flow.proofs.trails.walk.Goals as goal
use Rattle.ms_flow.proofs.trails.walk.Goals.{then-not-contains+in_ok-go_on, else-not-contains}

pub loop-at-init : goal.loop-at-init
loop-at-init c =
    let blank = c.in_ok-seen.ensures.items_if_clones_equal (λ y e. e) in
    let size : length c.in_ok-seen.seen.items ≡ length c.args.g.now.next = omega (arith, c.in_ok-seen.seen.ok.0, c.in_ok-seen.ensures.len) in
    rw c.in_ok-visits.ensures record {
      walk = first_walk c.args.g.now c.args.value;
      marks = first_marks c.in_ok-seen.seen.items (omega arith) (blank_flags c.in_ok-seen.seen.items _ blank);
      closed = λ k h. absurd (omega arith);
      len = length-set c.in_ok-seen.seen.items 0 true ∙ size;
      within = omega arith;
    }

-- what the block at hand defines
defs_is : (g : Graph) (vs : List Visit) (at : ℕ) (x : Visit) (defs : List ℕ) → at < length vs → x ≡ get_or vs at x → defs ≡ get_or g.defs x.block [] → defs ≡ get_or g.defs (block_at vs at) []
defs_is g vs at x defs lt read is = is ∙ ap (λ (x : Visit). get_or g.defs x.block []) (get_or_read vs at x lt read (record { block = 0; from = 0 }))

defined_is : (g : Graph) (b v : ℕ) (defs : List ℕ) (r : Bool) → defs ≡ get_or g.defs b [] → Decides r (Contains defs v) → Decides r (Defines g b v)
defined_is g b v defs r is d = let P : List ℕ → Type 0 = λ l. Decides r (Contains l v) in subst P is d

pub loop-at-preserved : goal.loop-at-preserved
loop-at-preserved c =
    let g = c.args.g.now in
    let v = c.args.value in
    let vs = c.loop-at.visits.items in
    let at = c.loop-at.at in
    let h = c.loop-at.invariant in
    let lt : at < length vs = omega arith in
    let is = defs_is g vs at c.index.result.now c.definitions.result.now lt c.index.ensures c.definitions.ensures in
    let defined = defined_is g (block_at vs at) v c.definitions.result.now c.contains.result is (contained c.definitions.result.now v c.contains.result c.contains.ensures.cases) in
    elim c.if-not-contains.branch [
      | then-not-contains+in_ok-go_on w ↦
          let e = w.in_ok-go_on.ensures in
          let new = w.go_on.new.visits.items in
          let longer = front_length vs new e.front in
          let size : length w.go_on.new.seen ≡ c.loop-at.seen.len = omega (arith, w.deref_mut.ensures.len, w.go_on.auto.seen) in
          rw (w.seen-is, with_items_is c.loop-at.seen w.go_on.new.seen size, w.visits-is) record {
            walk = e.walk v (λ d. false≢true (sym w.if-not-contains.true ∙ defined.1 d)) h.walk;
            marks = e.marks;
            closed = closed_on g v vs new at lt e.front (visits_front vs new e.front) (λ c free edge. e.all c edge) h.closed;
            len = omega (arith, size, h.len, c.loop-at.seen.ok.0);
            within = omega arith;
          }
      | else-not-contains w ↦ rw (w.seen-is, w.visits-is) record {
        walk = h.walk;
        marks = h.marks;
        closed = closed_on g v vs vs at lt (take_all (length vs) vs (omega arith)) (λ b p. p) (λ c free edge. absurd (free (defined.0 w.if-not-contains.false))) h.closed;
        len = h.len;
        within = omega arith;
      }
    ]

pub loop-at-smaller : goal.loop-at-smaller
loop-at-smaller c =
    let vs = c.loop-at.visits.items in
    let lt : c.loop-at.at < length vs = omega arith in
    elim c.if-not-contains.branch [
      | then-not-contains+in_ok-go_on w ↦
          let e = w.in_ok-go_on.ensures in
          let longer = front_length vs w.go_on.new.visits.items e.front in
          let size : length w.go_on.new.seen ≡ c.loop-at.seen.len = omega (arith, w.deref_mut.ensures.len, w.go_on.auto.seen) in
          let was = ap unseen w.deref_mut.ensures.value in
          rw (w.seen-is, with_items_is c.loop-at.seen w.go_on.new.seen size, w.visits-is) (omega (arith, e.work, was))
      | else-not-contains w ↦ rw (w.seen-is, w.visits-is) (omega arith)
    ]

pub returns-clause-all : goal.returns-clause-all
returns-clause-all c = all_visited c.args.g.now c.args.value c.loop-at.visits.items c.loop-at.at c.loop-at.invariant.walk (omega arith) c.loop-at.invariant.closed

pub definitions-requires : goal.definitions-requires
definitions-requires c =
    let vs = c.loop-at.visits.items in
    let lt = c.loop-at-test.true in
    let within = visited_within c.loop-at.seen.items vs c.loop-at.at c.loop-at.invariant.marks (omega arith) in
    let is = ap (λ (x : Visit). x.block) (get_or_read vs c.loop-at.at c.index.result.now (omega arith) c.index.ensures (record { block = 0; from = 0 })) in
    omega arith
