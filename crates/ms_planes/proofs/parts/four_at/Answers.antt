use Rattle.std.proofs.Common.{arith}
use Rattle.ms_planes.specs.Areas.{held}
use Rattle.ms_planes.specs.Blocks.{bytes_in}
use Rattle.ms_planes.proofs.Numbers.{number-four}
use Rattle.ms_planes.proofs.parts.four_at.Goals as goal

pub returns : goal.returns
returns c = omega (arith, c.from_le_bytes.ensures, c.get.ensures, c.get-2.ensures, c.get-3.ensures, c.get-4.ensures, number-four (held (bytes_in c.args.part c.args.block.now)) c.args.at)
