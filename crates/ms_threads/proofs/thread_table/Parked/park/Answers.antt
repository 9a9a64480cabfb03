use Rattle.std.proofs.Common.{Some, ap}
use Rattle.ms_threads.specs.ThreadTables.{Standing}
use Rattle.ms_threads.proofs.Places.{same_standing}
use Rattle.ms_threads.proofs.thread_table.Parked.park.Goals as goal

pub returns : goal.returns
returns c = ap (λ (s : Standing). Some s) (same_standing c.args.fiber.now c.exchange.new.other c.args.call c.exchange.ensures.other)
