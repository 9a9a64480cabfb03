use Rattle.std.proofs.Common.{refl}
use Rattle.ms_threads.proofs.Places.{stands_so}
use Rattle.ms_threads.proofs.thread_table.ThreadTable.park.Goals as goal

pub returns : goal.returns
returns c = stands_so c.args.self.now _ c.park.new.self _ c.requires refl c.park.ensures refl refl refl refl
