use Rattle.std.proofs.Common.{◌∙◌, ap}
use Rattle.ms_trail_uses.specs.Used.{string_read}
use Rattle.ms_trail_uses.proofs.used.line.Goals as goal

pub returns : goal.returns
returns c = λ beside meant shows. c.text.ensures beside meant shows ∙ ap (string_read meant) c.arg_number-addr.ensures
