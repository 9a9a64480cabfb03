use Rattle.std.proofs.Common.{◌≡◌, [], get_or, ap, ◌∙◌, arith}
use Rattle.std.proofs.lemmas.List.{get_or_read}
use Rattle.ms_flow.specs.declared.visits.Visit.{Visit}
use Rattle.ms_flow.specs.Walks.{block_at}
use Rattle.ms_flow.proofs.Visited.{going_none, going_old, going_new, going_all, visited_within, next_within}
use Rattle.ms_flow.proofs.trails.go_on.Goals as goal
use Rattle.ms_flow.proofs.trails.go_on.Goals.{then-not-seen-place+in_ok-push, else-not-seen-place}

pub loop-next-init : goal.loop-next-init
loop-next-init c = going_none c.args.g.now c.args.from c.args.seen.now c.args.visits.now.items c.successors-next-items.result.now c.requires.marks

pub loop-next-preserved : goal.loop-next-preserved
loop-next-preserved c =
    let g = c.args.g.now in
    let before = c.args.visits.now.items in
    let next = c.successors-next-items.result.now in
    let n = c.loop-next.next-index in
    let is : next ≡ get_or g.next (block_at before c.args.from) [] =
    c.successors-next-items.ensures ∙ ap (λ (x : Visit). get_or g.next x.block []) (get_or_read before c.args.from c.index.result.now c.requires.from c.index.ensures (record { block = 0; from = 0 })) in
    let from = visited_within c.args.seen.now before c.args.from c.requires.marks c.requires.from in
    let small = next_within g next (block_at before c.args.from) n c.requires.successors (omega arith) is c.loop-next-test.true in
    elim c.if-not-seen-place.branch [
      | then-not-seen-place+in_ok-push w ↦ rw (w.seen-is, w.visits-is, w.in_ok-push.ensures.items)
          (going_new g c.args.from c.args.seen.now before next n c.loop-next.seen c.loop-next.visits.items c.loop-next-test.true c.requires.from is (omega arith) c.loop-next.invariant w.if-not-seen-place.true)
      | else-not-seen-place w ↦ rw (w.seen-is, w.visits-is)
          (going_old g c.args.from c.args.seen.now before next n c.loop-next.seen c.loop-next.visits.items c.loop-next.invariant w.if-not-seen-place.false)
    ]

pub returns-clause-all : goal.returns-clause-all
returns-clause-all c =
    let g = c.args.g.now in
    let before = c.args.visits.now.items in
    let next = c.successors-next-items.result.now in
    let is : next ≡ get_or g.next (block_at before c.args.from) [] =
    c.successors-next-items.ensures ∙ ap (λ (x : Visit). get_or g.next x.block []) (get_or_read before c.args.from c.index.result.now c.requires.from c.index.ensures (record { block = 0; from = 0 })) in
    going_all g c.args.from c.args.seen.now before next c.loop-next.next-index c.loop-next.seen c.loop-next.visits.items c.loop-next-test.false is c.loop-next.invariant

pub successors-next-items-requires : goal.successors-next-items-requires
successors-next-items-requires c =
    let before = c.args.visits.now.items in
    let is = ap (λ (x : Visit). x.block) (get_or_read before c.args.from c.index.result.now c.requires.from c.index.ensures (record { block = 0; from = 0 })) in
    let from = visited_within c.args.seen.now before c.args.from c.requires.marks c.requires.from in
    omega arith
