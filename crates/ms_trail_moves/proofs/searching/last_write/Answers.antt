use Rattle.std.proofs.Common.{◌≡◌, ◌<◌, ◌-◌, ℕ, suc, length, Some, refl, sym, ◌∙◌, subst, arith, slice_get}
use Rattle.std.proofs.lemmas.Option.{slice_get_read}
use Rattle.ms_trail_moves.specs.Readings.{source_of}
use Rattle.ms_trail_moves.proofs.WaySearch.{Left, passes, is_last}
use Rattle.ms_trail_moves.proofs.searching.last_write.Goals as goal

pub returns-in-Some : goal.returns-in-Some
returns-in-Some c =
    let l = c.loop-below in
    let below_is : l.below ≡ suc (l.below - 1) = omega (arith, c.loop-below-test.true) in
    let within : l.below - 1 < length c.args.moves.now = omega (arith, c.loop-below-test.true, l.invariant.within) in
    let left = subst (λ (x : ℕ). Left c.args.moves.now x c.args.event (source_of c.args.reading)) below_is l.invariant in
    let stands : slice_get c.args.moves.now (l.below - 1) ≡ Some c.index-moves-below.result = slice_get_read c.args.moves.now (length c.args.moves.now) (l.below - 1) c.index-moves-below.result refl within c.index-moves-below.is in
    is_last c.args.moves.now (l.below - 1) c.args.event (source_of c.args.reading) left c.index-moves-below.result stands c.in-Some.k (sym c.counted_byte.ensures ∙ c.in-Some.is)

pub loop-below-preserved : goal.loop-below-preserved
loop-below-preserved c =
    let l = c.loop-below in
    let below_is : l.below ≡ suc (l.below - 1) = omega (arith, c.loop-below-test.true) in
    let within : l.below - 1 < length c.args.moves.now = omega (arith, c.loop-below-test.true, l.invariant.within) in
    let left = subst (λ (x : ℕ). Left c.args.moves.now x c.args.event (source_of c.args.reading)) below_is l.invariant in
    let stands : slice_get c.args.moves.now (l.below - 1) ≡ Some c.index-moves-below.result = slice_get_read c.args.moves.now (length c.args.moves.now) (l.below - 1) c.index-moves-below.result refl within c.index-moves-below.is in
    passes c.args.moves.now (l.below - 1) c.args.event (source_of c.args.reading) left c.index-moves-below.result stands (sym c.counted_byte.ensures ∙ c.in_default.is)
