use Rattle.ms_check_tables.proofs.Marked.{few_placed}
use Rattle.ms_check_tables.proofs.index.Index.insert_few.Goals as goal

pub returns-clause-placed : goal.returns-clause-placed
returns-clause-placed c = few_placed c.args.self.now c.push.new.self c.args.text c.args.place c.requires c.in_ok-push.ensures.items
