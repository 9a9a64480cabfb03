use Rattle.std.proofs.Common.{◌≡◌, ℕ, ◌<◌, List, [], ◌∷◌, ◌++◌, reverse, ap, ◌∙◌, subst, arith}
use Rattle.std.proofs.lemmas.List.{reverse-append}
use Rattle.ms_flow.specs.Walks.{Trail, block_at}
use Rattle.ms_flow.specs.Walks.Trail.{Last, Back}
use Rattle.ms_flow.proofs.trails.trail.Goals as goal

reverse_push : (xs : List ℕ) (x : ℕ) → reverse (xs ++ x ∷ []) ≡ x ∷ reverse xs
reverse_push xs x = reverse-append xs (x ∷ [])

pub loop-at-init : goal.loop-at-init
loop-at-init c = record { within = c.requires.last; trail = rw c.new-path.ensures.items Last }

pub loop-at-preserved : goal.loop-at-preserved
loop-at-preserved c =
    let visits = c.args.visits.now in
    let at = c.loop-at.at in
    let h = c.loop-at.invariant in
    let pos : 0 < at = omega arith in
    let before = c.requires.earlier at pos h.within in
    record {
      within = omega arith;
      trail = rw (c.in_ok-push.ensures.items, reverse_push c.loop-at.path.items (block_at visits at)) (Back at (reverse c.loop-at.path.items) pos h.trail);
    }

pub returns : goal.returns
returns c =
    let items = c.loop-at.path.items in
    let visits = c.args.visits.now in
    let zero_at : c.loop-at.at ≡ 0 = omega arith in
    let P : ℕ → Type 0 = λ k. Trail visits c.args.last k (reverse items) in (
      reverse items,
      subst P zero_at c.loop-at.invariant.trail,
      c.reverse.ensures.items ∙ ap (λ (l : List ℕ). reverse l) c.in_ok-push-2.ensures.items ∙ reverse_push items (block_at visits 0),
    )
