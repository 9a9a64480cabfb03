use Rattle.std.proofs.Common.{option_map, ap, ◌∙◌}
use Rattle.ms_threads.specs.ThreadTables.{standing_of}
use Rattle.ms_threads.proofs.Places.{same_stand}
use Rattle.ms_threads.proofs.thread_table.Parked.take.Goals as goal

pub returns-clause-taken : goal.returns-clause-taken
returns-clause-taken c = ap (option_map (standing_of c.exchange.new.one)) c.replace.ensures.value ∙ same_stand c.args.self.now.fiber c.exchange.new.one c.exchange.ensures.one c.args.self.now.call
