use Rattle.ms_where_places.proofs.Each.{instructions_counted, instructions_one_by_one}
use Rattle.ms_where_places.proofs.laws.law_instructions_are_told.Goals as goal

pub returns : goal.returns
returns c = record { one_by_one = instructions_one_by_one c.args.text.now; counted = instructions_counted c.args.text.now }
