use Rattle.std.proofs.Common.{sym, ap, ◌∙◌}
use Rattle.ms_runs_uses.specs.Uses.{use_of}
use Rattle.ms_trail_uses.specs.Used.{seen, use_read}
use Rattle.ms_trail_uses.proofs.used.used_by.Goals as goal

pub returns-in-Bytes : goal.returns-in-Bytes
returns-in-Bytes c = λ beside meant shows.
    let v = c.args.view.now in
    c.bytes.ensures beside meant shows ∙ sym (ap (λ u. use_read meant (seen v.fill.now v.values.now v.masks.now c.args.args.now) (use_of u)) c.in-Bytes.is)

pub returns-in-Line : goal.returns-in-Line
returns-in-Line c = λ beside meant shows.
    let v = c.args.view.now in
    c.line.ensures beside meant shows ∙ sym (ap (λ u. use_read meant (seen v.fill.now v.values.now v.masks.now c.args.args.now) (use_of u)) c.in-Line.is)

pub returns-in-Asked : goal.returns-in-Asked
returns-in-Asked c = λ beside meant shows.
    let v = c.args.view.now in
    c.asked.ensures beside meant shows ∙ sym (ap (λ u. use_read meant (seen v.fill.now v.values.now v.masks.now c.args.args.now) (use_of u)) c.in-Asked.is)
