use Rattle.std.proofs.Common.{map, ap, sym, ◌∙◌, append-nil}
use Rattle.ms_runs_uses.specs.Uses.{use_of}
use Rattle.ms_trail_uses.specs.Used.{seen, first_read}
use Rattle.ms_trail_uses.proofs.checked.first_plain.Goals as goal

pub returns : goal.returns
returns c = λ beside meant shows.
    let v = c.args.view.now in
    c.first_listed.ensures beside meant shows
    ∙ ap (first_read meant (seen v.fill.now v.values.now v.masks.now c.args.args.now)) (sym (append-nil (map use_of c.checked_uses.result.now)) ∙ c.checked_uses.ensures)
