use Rattle.ms_read_top.proofs.Exactly.{module_exactly, refused_exactly}
use Rattle.ms_read_top.proofs.reading.read.Goals as goal

pub returns-clause-module : goal.returns-clause-module
returns-clause-module c = module_exactly c.args.form c.args.text.now c.answer_for.result c.answer_for.ensures

pub returns-clause-refused : goal.returns-clause-refused
returns-clause-refused c = refused_exactly c.args.form c.args.text.now c.answer_for.result c.answer_for.ensures
