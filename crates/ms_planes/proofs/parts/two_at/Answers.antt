use Rattle.std.proofs.Common.{arith}
use Rattle.ms_planes.specs.Areas.{held}
use Rattle.ms_planes.specs.Blocks.{bytes_in}
use Rattle.ms_planes.proofs.Numbers.{number-two}
use Rattle.ms_planes.proofs.parts.two_at.Goals as goal

pub returns : goal.returns
returns c = omega (arith, c.from_le_bytes.ensures, c.get.ensures, c.get-2.ensures, number-two (held (bytes_in c.args.part c.args.block.now)) c.args.at)
