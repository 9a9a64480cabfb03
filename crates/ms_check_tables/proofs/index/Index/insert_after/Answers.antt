use Rattle.ms_check_tables.proofs.Marked.{after_placed}
use Rattle.ms_check_tables.proofs.index.Index.insert_after.Goals as goal

pub returns-clause-placed : goal.returns-clause-placed
returns-clause-placed c = after_placed c.args.self.now c.insert.new.self c.args.text.now c.args.place c.requires c.in_ok-insert.ensures.updates
