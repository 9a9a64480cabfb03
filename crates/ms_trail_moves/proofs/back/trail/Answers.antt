use Rattle.std.proofs.Common.{◌≡◌, ◌<◌, ◌-◌, ℕ, suc, length, false, Some, refl, sym, ap, ◌∙◌, subst, arith, slice_get}
use Rattle.std.proofs.lemmas.Option.{slice_get_read}
use Rattle.ms_trail_moves.specs.Scanned.{counted_byte, is_root}
use Rattle.ms_trail_moves.specs.Readings.{source_of}
use Rattle.ms_trail_moves.proofs.Backwards.{Sofar, begins, found_root, found_none, goes_past, takes}
use Rattle.ms_trail_moves.proofs.back.trail.Goals as goal

pub loop-below-init : goal.loop-below-init
loop-below-init c = begins c.args.moves.now c.requires.ascending c.args.at.now (source_of c.place_of-reading.result) c.place_of-reading.ensures c.new-hops.result.items c.new-hops.ensures.items

pub returns-then-is_root : goal.returns-then-is_root
returns-then-is_root c =
    let l = c.loop-below in
    ap Some c.reverse.ensures.items ∙ found_root c.args.moves.now c.requires.ascending c.args.at.now l.hops.items l.below l.event (source_of l.reading) l.invariant (sym c.is_root.ensures ∙ c.if-is_root.true)

pub overflow_cast-below : goal.overflow_cast-below
overflow_cast-below c = omega (arith, c.requires.few, c.loop-below.invariant.within, c.loop-below-test.true)

pub loop-below-preserved-in-Some : goal.loop-below-preserved-in-Some
loop-below-preserved-in-Some c =
    let l = c.loop-below in
    let below_is : l.below ≡ suc (l.below - 1) = omega (arith, c.loop-below-test.true) in
    let within : l.below - 1 < length c.args.moves.now = omega (arith, c.loop-below-test.true, l.invariant.within) in
    let b = subst (λ (x : ℕ). Sofar c.args.moves.now c.args.at.now l.hops.items x l.event (source_of l.reading)) below_is l.invariant in
    let no_root : is_root (source_of l.reading) ≡ false = sym c.is_root.ensures ∙ c.if-is_root.false in
    let stands : slice_get c.args.moves.now (l.below - 1) ≡ Some c.index-moves-below.result = slice_get_read c.args.moves.now (length c.args.moves.now) (l.below - 1) c.index-moves-below.result refl within c.index-moves-below.is in
    let counts : counted_byte l.event (source_of l.reading) c.index-moves-below.result ≡ Some c.in-Some.k = sym c.counted_byte.ensures ∙ c.in-Some.is in
    subst (λ s. Sofar c.args.moves.now c.args.at.now c.push.new.self.items (l.below - 1) (Some c.index-moves-below.result.event) s) (sym c.came_from-reading.ensures)
    (takes c.args.moves.now c.requires.ascending c.args.at.now l.hops.items (l.below - 1) l.event (source_of l.reading) b no_root c.index-moves-below.result stands c.in-Some.k counts c.push.new.self.items c.in_ok-push.ensures.items)

pub loop-below-preserved : goal.loop-below-preserved
loop-below-preserved c =
    let l = c.loop-below in
    let below_is : l.below ≡ suc (l.below - 1) = omega (arith, c.loop-below-test.true) in
    let within : l.below - 1 < length c.args.moves.now = omega (arith, c.loop-below-test.true, l.invariant.within) in
    let b = subst (λ (x : ℕ). Sofar c.args.moves.now c.args.at.now l.hops.items x l.event (source_of l.reading)) below_is l.invariant in
    let no_root : is_root (source_of l.reading) ≡ false = sym c.is_root.ensures ∙ c.if-is_root.false in
    let stands : slice_get c.args.moves.now (l.below - 1) ≡ Some c.index-moves-below.result = slice_get_read c.args.moves.now (length c.args.moves.now) (l.below - 1) c.index-moves-below.result refl within c.index-moves-below.is in
    goes_past c.args.moves.now c.requires.ascending c.args.at.now l.hops.items (l.below - 1) l.event (source_of l.reading) b no_root c.index-moves-below.result stands (sym c.counted_byte.ensures ∙ c.in_default.is)

pub returns-then-is_root-2 : goal.returns-then-is_root-2
returns-then-is_root-2 c =
    let l = c.loop-below in
    ap Some c.reverse-then-is_root-2.ensures.items ∙ found_root c.args.moves.now c.requires.ascending c.args.at.now l.hops.items l.below l.event (source_of l.reading) l.invariant (sym c.is_root-2.ensures ∙ c.if-is_root-2.true)

pub returns-else-is_root-2 : goal.returns-else-is_root-2
returns-else-is_root-2 c =
    let l = c.loop-below in
    let none : l.below ≡ 0 = omega (arith, c.loop-below-test.false) in
    found_none c.args.moves.now c.requires.ascending c.args.at.now l.hops.items l.below l.event (source_of l.reading) l.invariant none (sym c.is_root-2.ensures ∙ c.if-is_root-2.false)
