use Rattle.std.proofs.Common.{◌≡◌, ◌<◌, ◌-◌, MatchBool, ℕ, suc, get_or, length, true, false, Some, refl, sym, subst, arith, slice_get}
use Rattle.std.proofs.lemmas.Option.{slice_get_read, slice_get-get_or, slice_get_within}
use Rattle.ms_trail_moves.specs.Checked.{IsNext, distance_in}
use Rattle.ms_trail_moves.proofs.Checking.{Going, refused, goes_on}
use Rattle.ms_trail_moves.proofs.checks.check_trail.Goals as goal

pub returns-then-not-is_next : goal.returns-then-not-is_next
returns-then-not-is_next c =
    let l = c.loop-left in
    let left_is : l.left ≡ suc (l.left - 1) = omega (arith, c.loop-left-test.true) in
    let few : l.left - 1 < length c.args.hops.now = omega (arith, c.loop-left-test.true, l.invariant.few) in
    let going = subst (λ (x : ℕ). Going c.args.moves.now c.args.at.now c.args.hops.now x l.event l.read.now l.distance) left_is l.invariant in
    let there : slice_get c.args.hops.now (l.left - 1) ≡ Some (get_or c.args.hops.now (l.left - 1) (record { index = 0; byte = 0 })) = slice_get-get_or c.args.hops.now (l.left - 1) (record { index = 0; byte = 0 }) few in
    let no : c.is_next.result ≡ false = c.if-not-is_next.true in
    refused c.args.moves.now c.args.at.now c.args.hops.now (l.left - 1) l.event l.read.now l.distance going (get_or c.args.hops.now (l.left - 1) (record { index = 0; byte = 0 })) there
    (subst (λ x. MatchBool x (IsNext c.args.moves.now l.event l.read.now l.distance (get_or c.args.hops.now (l.left - 1) (record { index = 0; byte = 0 }))) (IsNext c.args.moves.now l.event l.read.now l.distance (get_or c.args.hops.now (l.left - 1) (record { index = 0; byte = 0 })) → ⊥)) no c.is_next.ensures)

pub loop-left-preserved : goal.loop-left-preserved
loop-left-preserved c =
    let l = c.loop-left in
    let left_is : l.left ≡ suc (l.left - 1) = omega (arith, c.loop-left-test.true) in
    let few : l.left - 1 < length c.args.hops.now = omega (arith, c.loop-left-test.true, l.invariant.few) in
    let going = subst (λ (x : ℕ). Going c.args.moves.now c.args.at.now c.args.hops.now x l.event l.read.now l.distance) left_is l.invariant in
    let there : slice_get c.args.hops.now (l.left - 1) ≡ Some (get_or c.args.hops.now (l.left - 1) (record { index = 0; byte = 0 })) = slice_get-get_or c.args.hops.now (l.left - 1) (record { index = 0; byte = 0 }) few in
    let yes : c.is_next.result ≡ true = c.if-not-is_next.false in
    let next = subst (λ x. MatchBool x (IsNext c.args.moves.now l.event l.read.now l.distance (get_or c.args.hops.now (l.left - 1) (record { index = 0; byte = 0 }))) (IsNext c.args.moves.now l.event l.read.now l.distance (get_or c.args.hops.now (l.left - 1) (record { index = 0; byte = 0 })) → ⊥)) yes c.is_next.ensures in
    let within : (get_or c.args.hops.now (l.left - 1) (record { index = 0; byte = 0 })).index < length c.args.moves.now = slice_get_within c.args.moves.now (get_or c.args.hops.now (l.left - 1) (record { index = 0; byte = 0 })).index next.move next.stands in
    let stands : slice_get c.args.moves.now (get_or c.args.hops.now (l.left - 1) (record { index = 0; byte = 0 })).index ≡ Some c.index-moves-hop.result =
    slice_get_read c.args.moves.now (length c.args.moves.now) (get_or c.args.hops.now (l.left - 1) (record { index = 0; byte = 0 })).index c.index-moves-hop.result refl within c.index-moves-hop.is in
    subst (λ (d : ℕ). Going c.args.moves.now c.args.at.now c.args.hops.now (l.left - 1) (Some c.index-moves-hop.result.event) c.index-moves-hop.result.from d) (sym c.distance_of-distance.ensures)
    (goes_on c.args.moves.now c.args.at.now c.args.hops.now (l.left - 1) l.event l.read.now l.distance going (get_or c.args.hops.now (l.left - 1) (record { index = 0; byte = 0 })) there c.index-moves-hop.result stands next)
