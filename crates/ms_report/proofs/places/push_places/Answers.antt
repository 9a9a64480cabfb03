use Rattle.std.proofs.Common.{◌∙◌, ◌++◌, ◌-◌, ℕ, List, length, ap}
use Rattle.std.specs.Prelude.{take}
use Rattle.ms_runs.specs.declared.runs.BlindPlace.{BlindPlace}
use Rattle.ms_report.specs.BlindTexts.{most_places, blind_with, further_places}
use Rattle.ms_report.proofs.FewCalls.{two_added, if_pushed}
use Rattle.ms_report.proofs.places.push_places.Goals as goal

pub returns : goal.returns
returns g c =
    let under = g.L.SiteLines.lines c.args.under.now in
    let m = c.args.m.now in
    let places = c.args.places.now in
    let old = c.args.text.now.items in
    let between = c.push_each.new.text.items in
    if_pushed c.push_hidden.result
    (λ last. two_added old (blind_with under m (take most_places places)) (further_places (length places - most_places)) between c.push_hidden.new.text.items
    (c.in_ok-push_each.ensures ∙ ap (λ (shown : List BlindPlace). old ++ blind_with under m shown) c.shown.ensures)
    (last ∙ ap (λ (n : ℕ). between ++ further_places n) c.hidden.ensures))
    c.push_hidden.ensures
