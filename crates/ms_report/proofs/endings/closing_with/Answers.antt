use Rattle.std.proofs.Common.{◌≡◌, ℕ, List, IfOk, subst}
use Rattle.ms_report.proofs.CallLines.{none_called_last}
use Rattle.ms_report.proofs.endings.closing_with.Goals as goal

pub returns : goal.returns
returns g c =
    subst (λ (t : List ℕ). IfOk c.closing_calling.result (λ text. text.items ≡ t)) (none_called_last (g.L.SiteLines.lines c.args.under.now) c.args.m.now c.args.r.now c.args.verdict) c.closing_calling.ensures
