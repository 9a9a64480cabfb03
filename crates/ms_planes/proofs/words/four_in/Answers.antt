use Rattle.std.proofs.Common.{◌∙◌}
use Rattle.ms_planes.specs.Areas.{held}
use Rattle.ms_planes.proofs.Numbers.{number-four}
use Rattle.ms_planes.proofs.words.four_in.Goals as goal

pub returns : goal.returns
returns c = c.from_le_bytes.ensures ∙ number-four (held c.args.bytes.now) c.args.at
