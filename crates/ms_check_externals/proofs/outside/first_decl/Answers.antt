use Rattle.std.proofs.Common.{◌≡◌, true, false, sym, ◌∙◌, arith}
use Rattle.ms_check_valid.specs.ExternalsFit.{name_unless, decl_fits}
use Rattle.ms_check_externals.proofs.Firsts.{passed, stopped, name_fits, name_bad}
use Rattle.ms_check_externals.proofs.outside.first_decl.Goals as goal

pub returns-then-not-decl_fits : goal.returns-then-not-decl_fits
returns-then-not-decl_fits c =
    let x = c.decl-item.result in
    let no : c.decl_fits.result ≡ false = grind (arith, c.if-not-decl_fits.true) in
    stopped (λ d. name_unless (decl_fits c.args.called.now d) d.name) c.args.decls.now c.loop-decl.decl-index x x.name _ c.loop-decl-test.true c.decl-item.is
    (name_bad (decl_fits c.args.called.now x) x.name (sym c.decl_fits.ensures ∙ no)) c.loop-decl.invariant

pub loop-decl-preserved : goal.loop-decl-preserved
loop-decl-preserved c =
    let x = c.decl-item.result in
    let fits : c.decl_fits.result ≡ true = grind (arith, c.if-not-decl_fits.false) in
    passed (λ d. name_unless (decl_fits c.args.called.now d) d.name) c.args.decls.now c.loop-decl.decl-index x _ c.loop-decl-test.true c.decl-item.is
    (name_fits (decl_fits c.args.called.now x) x.name (sym c.decl_fits.ensures ∙ fits)) c.loop-decl.invariant
