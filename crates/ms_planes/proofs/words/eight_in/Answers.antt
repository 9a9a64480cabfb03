use Rattle.std.proofs.Common.{◌∙◌}
use Rattle.ms_planes.specs.Areas.{held}
use Rattle.ms_planes.proofs.Numbers.{number-eight}
use Rattle.ms_planes.proofs.words.eight_in.Goals as goal

pub returns : goal.returns
returns c = c.from_le_bytes.ensures ∙ number-eight (held c.args.bytes.now) c.args.at
