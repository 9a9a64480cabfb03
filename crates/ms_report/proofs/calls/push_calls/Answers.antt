use Rattle.std.proofs.Common.{◌∙◌, ◌++◌, ◌-◌, ℕ, List, length, ap}
use Rattle.std.specs.Prelude.{take}
use Rattle.ms_report.specs.CallTexts.{most_calls, called_with, further_line, started_with}
use Rattle.ms_report.proofs.FewCalls.{three_added, if_pushed}
use Rattle.ms_report.proofs.calls.push_calls.Goals as goal

pub returns : goal.returns
returns g c =
    let under = g.L.SiteLines.lines c.args.under.now in
    let m = c.args.m.now in
    let calls = c.args.calls.now in
    if_pushed c.push_started.result
    (three_added c.args.text.now.items (called_with under m (take most_calls calls.sites)) (further_line (length calls.sites - most_calls)) (started_with under m calls.started)
    c.push_sites.new.text.items c.push_further.new.text.items c.push_started.new.text.items
    (c.in_ok-push_sites.ensures ∙ ap (λ (sites : List ℕ). c.args.text.now.items ++ called_with under m sites) (c.printed.ensures ∙ ap (take most_calls) c.as_slice-sites.ensures))
    (c.in_ok-push_further.ensures ∙ ap (λ (n : ℕ). c.push_sites.new.text.items ++ further_line n) (c.unprinted.ensures ∙ ap (λ (sites : List ℕ). length sites - most_calls) c.as_slice-sites.ensures)))
    c.push_started.ensures
