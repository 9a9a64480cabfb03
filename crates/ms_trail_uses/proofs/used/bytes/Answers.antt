use Rattle.std.proofs.Common.{◌∙◌}
use Rattle.ms_trail_uses.specs.Used.{range_read}
use Rattle.ms_trail_uses.proofs.used.bytes.Goals as goal

pub returns : goal.returns
returns c = λ beside meant shows. c.range.ensures beside meant shows ∙ (λ i. range_read meant (c.arg_number-addr.ensures i) (c.arg_number-n.ensures i))
