use Rattle.std.proofs.Common.{◌∙◌}
use Rattle.ms_trail_uses.specs.Used.{seen}
use Rattle.ms_trail_uses.proofs.Uses.{string_found_used, string_none_used}
use Rattle.ms_trail_uses.proofs.checked.string_at.Goals as goal

pub returns-in-Some : goal.returns-in-Some
returns-in-Some c = λ beside meant shows.
    let v = c.args.view.now in
    c.used_by.ensures beside meant shows
    ∙ string_found_used meant (seen v.fill.now v.values.now v.masks.now c.args.args.now) c.args.typed.now.0 c.args.k c.printed_string.result c.in-Some.checked c.printed_string.ensures c.in-Some.is

pub returns-in-None : goal.returns-in-None
returns-in-None c = λ beside meant shows.
    let v = c.args.view.now in
    string_none_used meant (seen v.fill.now v.values.now v.masks.now c.args.args.now) c.args.typed.now.0 c.args.k c.printed_string.result c.printed_string.ensures c.in-None.is
