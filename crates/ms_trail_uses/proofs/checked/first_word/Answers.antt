use Rattle.std.proofs.Common.{◌+◌, drop, refl, sym, ap, ◌∙◌}
use Rattle.std.proofs.lemmas.List.{drop_all}
use Rattle.ms_runs.specs.Uses.{value_uses}
use Rattle.ms_check_tables.proofs.Items.{none_left}
use Rattle.ms_runs_uses.specs.Uses.{use_of}
use Rattle.ms_runs_uses.proofs.Printed.{values_next}
use Rattle.ms_trail_uses.specs.Used.{seen, first_read}
use Rattle.ms_trail_uses.proofs.Uses.{first_stops, first_passes}
use Rattle.ms_trail_uses.proofs.checked.first_word.Goals as goal

pub loop-k-init : goal.loop-k-init
loop-k-init c = λ beside meant shows. refl

pub returns-in-Some : goal.returns-in-Some
returns-in-Some c = λ beside meant shows.
    let v = c.args.view.now in
    let k = c.loop-k.k in
    let typed = c.args.typed.now in
    let u = c.printed_word.result in
    first_stops meant (seen v.fill.now v.values.now v.masks.now c.args.args.now) (use_of u) (value_uses (k + 1) (drop (k + 1) typed)) (value_uses k (drop k typed)) c.used_by.result c.in-Some.used
    (values_next typed k u c.loop-k-test.true c.printed_word.ensures) c.in-Some.is (c.used_by.ensures beside meant shows)
    ∙ sym (c.loop-k.invariant beside meant shows)

pub loop-k-preserved : goal.loop-k-preserved
loop-k-preserved c = λ beside meant shows.
    let v = c.args.view.now in
    let k = c.loop-k.k in
    let typed = c.args.typed.now in
    let u = c.printed_word.result in
    c.loop-k.invariant beside meant shows
    ∙ first_passes meant (seen v.fill.now v.values.now v.masks.now c.args.args.now) (use_of u) (value_uses (k + 1) (drop (k + 1) typed)) (value_uses k (drop k typed)) c.used_by.result
    (values_next typed k u c.loop-k-test.true c.printed_word.ensures) (none_left c.used_by.result c.in_default.not-Some) (c.used_by.ensures beside meant shows)

pub returns : goal.returns
returns c = λ beside meant shows.
    let v = c.args.view.now in
    sym (ap (λ os. first_read meant (seen v.fill.now v.values.now v.masks.now c.args.args.now) (value_uses c.loop-k.k os)) (drop_all c.loop-k.k c.args.typed.now c.loop-k-test.false)) ∙ sym (c.loop-k.invariant beside meant shows)
