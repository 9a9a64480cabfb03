use Rattle.std.proofs.Common.{◌≡◌, ℕ, List, IfOk, subst}
use Rattle.ms_report.proofs.CallLines.{none_called}
use Rattle.ms_report.proofs.reports.report_text_with.Goals as goal

pub returns : goal.returns
returns g c =
    subst (λ (t : List ℕ). IfOk c.report_text_calling.result (λ text. text.items ≡ t)) (none_called (g.L.SiteLines.lines c.args.under.now) c.args.m.now 0 c.args.r.now.reports) c.report_text_calling.ensures
