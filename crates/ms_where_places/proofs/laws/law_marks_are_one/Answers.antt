use Rattle.ms_where_places.proofs.One.{one_list_of_marks}
use Rattle.ms_where_places.proofs.laws.law_marks_are_one.Goals as goal

pub returns : goal.returns
returns c = λ form tokens found other. one_list_of_marks form c.args.text.now tokens found other
