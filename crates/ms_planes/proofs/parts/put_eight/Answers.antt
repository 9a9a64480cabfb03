use Rattle.std.proofs.Common.{◌≡◌, length, ap, ◌∙◌, arith}
use Rattle.ms_planes.specs.Areas.{held}
use Rattle.ms_planes.specs.Blocks.{bytes_in}
use Rattle.ms_planes.proofs.Places.{eight-first}
use Rattle.ms_planes.proofs.Lists.{part-len}
use Rattle.ms_planes.proofs.parts.put_eight.Goals as goal

pub returns-clause-shown : goal.returns-clause-shown
returns-clause-shown c =
    let len : length (bytes_in c.args.part c.args.block.now) ≡ length c.args.block.now.bytes = part-len c.args.part c.args.block.now (length c.args.block.now.bytes) c.requires.whole in
    ap held c.set_eight.ensures.shown ∙ eight-first (bytes_in c.args.part c.args.block.now) c.args.at c.args.v (omega (arith, len, c.requires.within))
