use Rattle.std.proofs.Common.{arith}
use Rattle.ms_planes.specs.Areas.{held}
use Rattle.ms_planes.specs.Blocks.{bytes_in}
use Rattle.ms_planes.proofs.Numbers.{number-eight}
use Rattle.ms_planes.proofs.parts.eight_at.Goals as goal

pub returns : goal.returns
returns c = omega (arith, c.from_le_bytes.ensures, c.get.ensures, c.get-2.ensures, c.get-3.ensures, c.get-4.ensures, c.get-5.ensures, c.get-6.ensures, c.get-7.ensures, c.get-8.ensures, number-eight (held (bytes_in c.args.part c.args.block.now)) c.args.at)
