use Rattle.std.proofs.Common.{◌≡◌, true, false, sym, ◌∙◌, arith}
use Rattle.ms_check_valid.specs.ExternalsFit.{name_unless, global_fits}
use Rattle.ms_check_externals.proofs.Firsts.{passed, stopped, name_fits, name_bad}
use Rattle.ms_check_externals.proofs.outside.first_global.Goals as goal

pub returns-then-not-global_fits : goal.returns-then-not-global_fits
returns-then-not-global_fits c =
    let x = c.global-item.result in
    let no : c.global_fits.result ≡ false = grind (arith, c.if-not-global_fits.true) in
    stopped (λ g. name_unless (global_fits g) g.name) c.args.globals.now c.loop-global.global-index x x.name _ c.loop-global-test.true c.global-item.is
    (name_bad (global_fits x) x.name (sym c.global_fits.ensures ∙ no)) c.loop-global.invariant

pub loop-global-preserved : goal.loop-global-preserved
loop-global-preserved c =
    let x = c.global-item.result in
    let fits : c.global_fits.result ≡ true = grind (arith, c.if-not-global_fits.false) in
    passed (λ g. name_unless (global_fits g) g.name) c.args.globals.now c.loop-global.global-index x _ c.loop-global-test.true c.global-item.is
    (name_fits (global_fits x) x.name (sym c.global_fits.ensures ∙ fits)) c.loop-global.invariant
