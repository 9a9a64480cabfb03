use Rattle.ms_read_body.specs.Calls.{definition}
use Rattle.ms_read_body.proofs.Answering.{answered}
use Rattle.ms_read_body.proofs.calls.read_body.Goals as goal

pub returns : goal.returns
returns c = answered (definition c.args.form c.args.before) c.args.text.now c.args.tokens.now c.args.at c.read_definition-read.result c.cursor_at-cursor.result c.read_definition-read.new.tokens c.left.result c.answer.result c.cursor_at-cursor.ensures c.read_definition-read.ensures c.left.ensures c.answer.ensures
