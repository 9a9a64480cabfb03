use Rattle.std.proofs.Common.{◌≡◌, ◌++◌, drop}
use Rattle.ms_report.specs.TrailTexts.{hops_with}
use Rattle.ms_report.proofs.trails.Moved.push_hops.Given as goal

abbrev pub invariant-loop-hop : goal.invariant-loop-hop
invariant-loop-hop g l =
    l.text.items ++ hops_with (g.L.SiteLines.lines l.self.under.now) l.self.m.now l.self.moves.now (drop l.hop-index l.hops)
    ≡ l.fn.text.items ++ hops_with (g.L.SiteLines.lines l.self.under.now) l.self.m.now l.self.moves.now l.hops
