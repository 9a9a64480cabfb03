use Rattle.std.proofs.Common.{◌<◌, ◌+◌, ◌++◌, ◌∷◌, [], ℕ, List, length, take, arith, ap, ◌∙◌}
use Rattle.ms_depot.specs.Depots.{depth_in}
use Rattle.ms_depot.proofs.Chaining.{kept-deep, pair-more, chained-new}
use Rattle.ms_depot.proofs.depot.Depot.chain.Goals as goal

pub returns-then-depth-deepest-clause-chained : goal.returns-then-depth-deepest-clause-chained
returns-then-depth-deepest-clause-chained c = λ setting world roots pairs.
    kept-deep (record { roots = c.self.inside.roots; pairs = c.self.inside.pairs.keys; depths = c.self.inside.depths.items }) c.args.self.now c.self.view_is setting world c.args.old c.args.site c.in-Some.depth c.self.invariant roots pairs
    (c.in-Some.ensures.0.0, omega (arith, c.in-Some.ensures.0.1, c.len-len.ensures.len)) (c.in-Some.ensures.1 ∙ ap (λ (ds : List ℕ). depth_in c.self.inside.roots ds c.args.old) c.deref.ensures.value) (omega (arith, c.if-depth-deepest.true, c.deepest.ensures))

pub invariant_of-self-2 : goal.invariant_of-self-2
invariant_of-self-2 c =
    pair-more (record { roots = c.self.inside.roots; pairs = c.self.inside.pairs.keys; depths = c.self.inside.depths.items }) c.args.old c.args.site c.in-Some.depth _ c.insert_full.new.self.keys c.push.new.self.items c.self.invariant
    (let few : length c.self.inside.pairs.keys < 1048576 = omega (arith, c.if-len-ge-MOST_PAIRS.false, c.len-len.ensures.len) in few)
    (c.in-Some.ensures.0.0, omega (arith, c.in-Some.ensures.0.1, c.len-len.ensures.len)) (c.in-Some.ensures.1 ∙ ap (λ (ds : List ℕ). depth_in c.self.inside.roots ds c.args.old) c.deref.ensures.value) c.in_ok-place.ensures.keys
    (c.in_ok-push.ensures.items ∙ ap (λ (xs : List ℕ). xs ++ (c.in-Some.depth + 1) ∷ []) (c.truncate.ensures.items ∙ ap (λ (n : ℕ). take n c.self.inside.depths.items) c.len-len.ensures.len))

pub returns-clause-chained : goal.returns-clause-chained
returns-clause-chained c = λ setting world roots pairs.
    chained-new (record { roots = c.self.inside.roots; pairs = c.self.inside.pairs.keys; depths = c.self.inside.depths.items }) c.args.self.now c.self.view_is setting world c.args.old c.args.site c.in-Some.depth c.in_ok-place.place _ c.self.invariant roots pairs
    (let few : length c.self.inside.pairs.keys < 1048576 = omega (arith, c.if-len-ge-MOST_PAIRS.false, c.len-len.ensures.len) in few)
    (c.in-Some.ensures.0.0, omega (arith, c.in-Some.ensures.0.1, c.len-len.ensures.len)) (c.in-Some.ensures.1 ∙ ap (λ (ds : List ℕ). depth_in c.self.inside.roots ds c.args.old) c.deref.ensures.value) (omega (arith, c.if-depth-deepest.false, c.deepest.ensures)) c.in_ok-place.ensures.index c.in_ok-place.ensures.keys
