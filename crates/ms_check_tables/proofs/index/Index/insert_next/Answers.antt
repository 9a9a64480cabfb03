use Rattle.ms_check_tables.proofs.Near.{next_placed}
use Rattle.ms_check_tables.proofs.index.Index.insert_next.Goals as goal

pub returns-clause-placed : goal.returns-clause-placed
returns-clause-placed c = next_placed c.args.self.now c.push.new.self c.args.number c.args.place c.requires c.in_ok-push.ensures.items
