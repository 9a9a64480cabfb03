use Rattle.std.proofs.Common.{◌≡◌, ◌++◌, drop}
use Rattle.ms_report.specs.BlindTexts.{blind_with}
use Rattle.ms_report.proofs.places.push_each.Given as goal

abbrev pub invariant-loop-place : goal.invariant-loop-place
invariant-loop-place g l =
    l.text.items ++ blind_with (g.L.SiteLines.lines l.under) l.m (drop l.place-index l.places)
    ≡ l.fn.text.items ++ blind_with (g.L.SiteLines.lines l.under) l.m l.places
