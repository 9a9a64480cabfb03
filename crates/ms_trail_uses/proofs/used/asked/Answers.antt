use Rattle.std.proofs.Common.{◌≡◌, Bool, true, false, sym, ap, ◌∙◌, if◌then◌else◌, None}
use Rattle.ms_runs.specs.Masks.{word_at}
use Rattle.ms_runs.specs.Origins.{asks_string_at}
use Rattle.ms_trail_uses.specs.Used.{seen, line_read}
use Rattle.ms_trail_uses.proofs.used.asked.Goals as goal

pub returns-then-asks : goal.returns-then-asks
returns-then-asks c = λ beside meant shows.
    let v = c.args.view.now in
    let ps = seen v.fill.now v.values.now v.masks.now c.args.args.now in
    let asks : asks_string_at meant (word_at 0 ps).value c.args.at ≡ true =
    sym (c.asks_string-asks.ensures beside meant shows ∙ ap (λ n. asks_string_at meant n c.args.at) c.arg_number-format.ensures) ∙ c.if-asks.true
    in
    c.line.ensures beside meant shows ∙ sym (ap (λ (b : Bool). if b then line_read meant ps c.args.at else None) asks)

pub returns-else-asks : goal.returns-else-asks
returns-else-asks c = λ beside meant shows.
    let v = c.args.view.now in
    let ps = seen v.fill.now v.values.now v.masks.now c.args.args.now in
    let asks : asks_string_at meant (word_at 0 ps).value c.args.at ≡ false =
    sym (c.asks_string-asks.ensures beside meant shows ∙ ap (λ n. asks_string_at meant n c.args.at) c.arg_number-format.ensures) ∙ c.if-asks.false
    in
    sym (ap (λ (b : Bool). if b then line_read meant ps c.args.at else None) asks)
