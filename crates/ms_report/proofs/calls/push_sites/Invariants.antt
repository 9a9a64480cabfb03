use Rattle.std.proofs.Common.{◌≡◌, ◌++◌, drop}
use Rattle.ms_report.specs.CallTexts.{called_with}
use Rattle.ms_report.proofs.calls.push_sites.Given as goal

abbrev pub invariant-loop-site : goal.invariant-loop-site
invariant-loop-site g l =
    l.text.items ++ called_with (g.L.SiteLines.lines l.under) l.m (drop l.site-index l.sites)
    ≡ l.fn.text.items ++ called_with (g.L.SiteLines.lines l.under) l.m l.sites
