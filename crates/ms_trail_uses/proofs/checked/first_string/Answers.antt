use Rattle.std.proofs.Common.{drop, refl, sym, ap, ◌∙◌}
use Rattle.std.proofs.lemmas.List.{drop_all}
use Rattle.ms_runs.specs.Uses.{string_uses}
use Rattle.ms_check_tables.proofs.Items.{none_left}
use Rattle.ms_trail_uses.specs.Used.{seen, first_read}
use Rattle.ms_trail_uses.proofs.Uses.{strings_stop, strings_pass}
use Rattle.ms_trail_uses.proofs.checked.first_string.Goals as goal

pub loop-k-init : goal.loop-k-init
loop-k-init c = λ beside meant shows. refl

pub returns-in-Some : goal.returns-in-Some
returns-in-Some c = λ beside meant shows.
    let v = c.args.view.now in
    strings_stop meant (seen v.fill.now v.values.now v.masks.now c.args.args.now) c.args.typed.now c.loop-k.k c.typed_at-pair.result.now c.string_at.result c.in-Some.used c.loop-k-test.true c.typed_at-pair.ensures c.in-Some.is
    (c.string_at.ensures beside meant shows) ∙ sym (c.loop-k.invariant beside meant shows)

pub loop-k-preserved : goal.loop-k-preserved
loop-k-preserved c = λ beside meant shows.
    let v = c.args.view.now in
    c.loop-k.invariant beside meant shows
    ∙ strings_pass meant (seen v.fill.now v.values.now v.masks.now c.args.args.now) c.args.typed.now c.loop-k.k c.typed_at-pair.result.now c.string_at.result c.loop-k-test.true c.typed_at-pair.ensures
    (none_left c.string_at.result c.in_default.not-Some) (c.string_at.ensures beside meant shows)

pub returns : goal.returns
returns c = λ beside meant shows.
    let v = c.args.view.now in
    sym (ap (λ os. first_read meant (seen v.fill.now v.values.now v.masks.now c.args.args.now) (string_uses c.loop-k.k os)) (drop_all c.loop-k.k c.args.typed.now c.loop-k-test.false)) ∙ sym (c.loop-k.invariant beside meant shows)
