use Rattle.std.proofs.Common.{◌≡◌, ◌+◌, ◌-◌, ◌≤◌, ◌++◌, drop, length}
use Rattle.ms_report.specs.CallTexts.{reports_calling}
use Rattle.ms_report.proofs.reports.Rooted.push_reports.Given as goal

abbrev pub invariant-loop-index : goal.invariant-loop-index
invariant-loop-index g l = record {
  text : l.text.items ++ reports_calling (g.L.SiteLines.lines l.self.under.now) l.self.m.now l.calls l.index (drop l.index l.reports)
      ≡ l.fn.text.items ++ reports_calling (g.L.SiteLines.lines l.self.under.now) l.self.m.now l.calls 0 l.reports;
  within : l.index ≤ length l.reports;
}

abbrev pub decreases-loop-index : goal.decreases-loop-index
decreases-loop-index g l = length l.reports - l.index
