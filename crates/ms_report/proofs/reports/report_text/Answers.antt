use Rattle.std.proofs.Common.{◌≡◌, ℕ, List, IfOk, subst}
use Rattle.ms_report.proofs.WithoutLines.{reports_alone}
use Rattle.ms_report.proofs.reports.report_text.Goals as goal

pub returns : goal.returns
returns c =
    subst (λ (t : List ℕ). IfOk c.report_text_with.result (λ text. text.items ≡ t)) (reports_alone c.args.m.now 1 c.args.r.now.reports) c.report_text_with.ensures
