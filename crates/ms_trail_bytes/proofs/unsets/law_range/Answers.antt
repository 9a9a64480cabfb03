use Rattle.ms_trail_bytes.proofs.Ranges.{live_range}
use Rattle.ms_trail_bytes.proofs.unsets.law_range.Goals as goal

pub returns : goal.returns
returns c = live_range c.args.world.now.planes.table c.law_laid_out.ensures c.args.addr c.args.n c.requires.some c.requires.live
