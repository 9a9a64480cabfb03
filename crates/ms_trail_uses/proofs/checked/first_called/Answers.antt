use Rattle.std.proofs.Common.{false, Some, map, drop, ap, ◌∙◌}
use Rattle.ms_runs.specs.Uses.{value_uses, string_uses}
use Rattle.ms_runs_uses.specs.Uses.{use_of, op_uses, further_uses}
use Rattle.ms_trail_uses.specs.Used.{seen, or_used}
use Rattle.ms_trail_uses.proofs.Uses.{all_first}
use Rattle.ms_trail_uses.proofs.checked.first_called.Goals as goal

pub returns : goal.returns
returns c = λ beside meant shows.
    let v = c.args.view.now in
    let printed = c.printed_args-printed.result.now in
    let external = Some c.args.external in
    c.or_else-2.ensures
    ∙ (λ i. or_used (c.first_listed-listed.ensures beside meant shows i) (c.or_else.ensures i))
    ∙ ap (or_used _) (λ i. or_used (c.first_word-word.ensures beside meant shows i) (c.first_string-string.ensures beside meant shows i))
    ∙ all_first meant (seen v.fill.now v.values.now v.masks.now c.args.args.now) (map use_of c.checked_uses.result.now) (value_uses 1 (drop 1 printed)) (string_uses 1 (drop 1 printed)) (further_uses external c.args.op.now)
    (op_uses false external c.args.op.now) c.checked_uses.ensures c.printed_args-printed.ensures
