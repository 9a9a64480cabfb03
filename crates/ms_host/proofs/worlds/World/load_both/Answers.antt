use Rattle.ms_host.proofs.MarkedAccesses.{pair-shadow, pair-bytes}
use Rattle.ms_host.proofs.worlds.World.load_both.Goals as goal

pub returns-then-is_far : goal.returns-then-is_far
returns-then-is_far c = record {
  shadow = pair-shadow c.args.self.now c.args.addr c.args.n c.load_numbers.result (c.is_far.ensures c.if-is_far.true c.args.n) c.load_numbers.ensures;
  bytes = pair-bytes c.args.self.now c.args.addr c.args.n c.load_numbers.result c.load_numbers.ensures;
}
