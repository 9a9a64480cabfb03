use Rattle.std.proofs.Common.{◌+◌, map, drop, refl, sym, ap, ◌∙◌}
use Rattle.std.proofs.lemmas.List.{drop_more, drop_all}
use Rattle.ms_check_tables.proofs.Items.{none_left}
use Rattle.ms_runs_uses.specs.Uses.{use_of}
use Rattle.ms_trail_uses.specs.Used.{seen, first_read}
use Rattle.ms_trail_uses.proofs.Uses.{first_stops, first_passes}
use Rattle.ms_trail_uses.proofs.checked.first_listed.Goals as goal

pub loop-checked-init : goal.loop-checked-init
loop-checked-init c = λ beside meant shows. refl

pub returns-in-Some : goal.returns-in-Some
returns-in-Some c = λ beside meant shows.
    let v = c.args.view.now in
    let i = c.loop-checked.checked-index in
    let us = c.args.uses.now in
    first_stops meant (seen v.fill.now v.values.now v.masks.now c.args.args.now) _ (map use_of (drop (i + 1) us)) (map use_of (drop i us)) c.used_by.result c.in-Some.used
    (ap (map use_of) (drop_more us i _ c.loop-checked-test.true)) c.in-Some.is (c.used_by.ensures beside meant shows)
    ∙ sym (c.loop-checked.invariant beside meant shows)

pub loop-checked-preserved : goal.loop-checked-preserved
loop-checked-preserved c = λ beside meant shows.
    let v = c.args.view.now in
    let i = c.loop-checked.checked-index in
    let us = c.args.uses.now in
    c.loop-checked.invariant beside meant shows
    ∙ first_passes meant (seen v.fill.now v.values.now v.masks.now c.args.args.now) _ (map use_of (drop (i + 1) us)) (map use_of (drop i us)) c.used_by.result
    (ap (map use_of) (drop_more us i _ c.loop-checked-test.true)) (none_left c.used_by.result c.in_default.not-Some) (c.used_by.ensures beside meant shows)

pub returns : goal.returns
returns c = λ beside meant shows.
    let v = c.args.view.now in
    sym (ap (λ us. first_read meant (seen v.fill.now v.values.now v.masks.now c.args.args.now) (map use_of us)) (drop_all c.loop-checked.checked-index c.args.uses.now c.loop-checked-test.false)) ∙ sym (c.loop-checked.invariant beside meant shows)
