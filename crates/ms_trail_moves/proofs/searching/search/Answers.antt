use Rattle.std.proofs.Common.{◌≡◌, ◌<◌, ◌^◌, ℕ, length, Some, None, Option, refl, sym, ◌∙◌, subst, arith, slice_get}
use Rattle.std.proofs.lemmas.Option.{slice_get_read, slice_get_within, same_Some}
use Rattle.ms_trail_moves.specs.declared.moves.Move.{Move}
use Rattle.ms_trail_moves.specs.Leads.{came_from, IsBefore, IsLast}
use Rattle.ms_trail_moves.specs.Readings.{source_of}
use Rattle.ms_trail_moves.specs.Searched.{IsLastWrite, IsWay, steps_left}
use Rattle.ms_trail_moves.proofs.WaySearch.{Gone, at_root, gone_on, stuck}
use Rattle.ms_trail_moves.proofs.searching.search.Goals as goal

pub returns-in_default : goal.returns-in_default
returns-in_default c =
    let l = c.loop-reading in
    stuck c.args.moves.now c.args.at.now l.hops.items l.event (source_of l.reading) l.invariant (sym c.is_root.ensures ∙ c.loop-reading-test.true)
    (subst (IsLastWrite c.args.moves.now l.event (source_of l.reading)) c.in_default.is c.last_write.ensures)

pub bounds-moves-hop : goal.bounds-moves-hop
bounds-moves-hop c =
    let l = c.loop-reading in
    let last = subst (IsLastWrite c.args.moves.now l.event (source_of l.reading)) c.in-Some.is c.last_write.ensures in
    slice_get_within c.args.moves.now c.in-Some.hop.index last.0 last.1.stands

pub loop-reading-smaller : goal.loop-reading-smaller
loop-reading-smaller c =
    let l = c.loop-reading in
    let last = subst (IsLastWrite c.args.moves.now l.event (source_of l.reading)) c.in-Some.is c.last_write.ensures in
    let within = slice_get_within c.args.moves.now c.in-Some.hop.index last.0 last.1.stands in
    let stands : slice_get c.args.moves.now c.in-Some.hop.index ≡ Some c.index-moves-hop.result = slice_get_read c.args.moves.now (length c.args.moves.now) c.in-Some.hop.index c.index-moves-hop.result refl within c.index-moves-hop.is in
    let same : last.0 ≡ c.index-moves-hop.result = same_Some last.0 c.index-moves-hop.result (sym last.1.stands ∙ stands) in
    subst (λ n. n < steps_left l.event) (sym c.event_of.ensures.is)
    (fewer l.event c.index-moves-hop.result (subst (IsBefore l.event) same last.1.counts) (subst (λ n. n < 2 ^ 64) c.event_of.ensures.is c.event_of.ensures.fits))
  where
    fewer : (before : Option ℕ) (m : Move) → IsBefore before m → m.event < 2 ^ 64 → m.event < steps_left before
    fewer None m counts fits = fits
    fewer (Some event) m counts fits = counts

pub loop-reading-preserved : goal.loop-reading-preserved
loop-reading-preserved c =
    let l = c.loop-reading in
    let last = subst (IsLastWrite c.args.moves.now l.event (source_of l.reading)) c.in-Some.is c.last_write.ensures in
    let within = slice_get_within c.args.moves.now c.in-Some.hop.index last.0 last.1.stands in
    let stands : slice_get c.args.moves.now c.in-Some.hop.index ≡ Some c.index-moves-hop.result = slice_get_read c.args.moves.now (length c.args.moves.now) c.in-Some.hop.index c.index-moves-hop.result refl within c.index-moves-hop.is in
    let same : last.0 ≡ c.index-moves-hop.result = same_Some last.0 c.index-moves-hop.result (sym last.1.stands ∙ stands) in
    subst (λ s. Gone c.args.moves.now c.args.at.now c.push.new.self.items (Some c.event_of.result) s) (sym c.came_from-reading.ensures)
    (subst (λ n. Gone c.args.moves.now c.args.at.now c.push.new.self.items (Some n) (came_from c.index-moves-hop.result.from c.index-moves-hop.result.to c.in-Some.hop.byte)) (sym c.event_of.ensures.is)
    (gone_on c.args.moves.now c.args.at.now l.hops.items l.event (source_of l.reading) l.invariant (sym c.is_root.ensures ∙ c.loop-reading-test.true) c.in-Some.hop c.index-moves-hop.result
    (subst (IsLast c.args.moves.now l.event (source_of l.reading) c.in-Some.hop) same last.1) c.push.new.self.items c.in_ok-push.ensures.items))

pub returns : goal.returns
returns c =
    let l = c.loop-reading in
    subst (λ hops. IsWay c.args.moves.now c.args.at.now (Some hops)) (sym (c.from_vec.ensures ∙ c.reverse.ensures.items))
    (at_root c.args.moves.now c.args.at.now l.hops.items l.event (source_of l.reading) l.invariant (sym c.is_root.ensures ∙ c.loop-reading-test.false))
