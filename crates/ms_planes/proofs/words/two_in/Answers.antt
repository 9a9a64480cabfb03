use Rattle.std.proofs.Common.{◌∙◌}
use Rattle.ms_planes.specs.Areas.{held}
use Rattle.ms_planes.proofs.Numbers.{number-two}
use Rattle.ms_planes.proofs.words.two_in.Goals as goal

pub returns : goal.returns
returns c = c.from_le_bytes.ensures ∙ number-two (held c.args.bytes.now) c.args.at
