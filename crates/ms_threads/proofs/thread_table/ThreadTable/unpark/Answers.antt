use Rattle.std.proofs.Common.{None, refl, sym, ◌∙◌}
use Rattle.ms_threads.proofs.Places.{stand_there, stands_so}
use Rattle.ms_threads.proofs.thread_table.ThreadTable.unpark.Goals as goal

pub returns-clause-taken : goal.returns-clause-taken
returns-clause-taken c = c.take.ensures.taken ∙ sym (stand_there c.args.self.now.parked.items c.args.self.now.turn c.index_mut.result.now c.requires c.index_mut.ensures.value)

pub returns-clause-stands : goal.returns-clause-stands
returns-clause-stands c = stands_so c.args.self.now _ c.take.new.self None c.requires refl c.take.ensures.nowhere refl refl refl refl
