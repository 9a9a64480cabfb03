use Rattle.ms_text_grammar.specs.Values.{value}
use Rattle.ms_read_body.proofs.Answering.{answered}
use Rattle.ms_read_body.proofs.calls.read_value.Goals as goal

pub returns : goal.returns
returns c = answered (value c.args.form c.args.ty.now) c.args.text.now c.args.tokens.now c.args.at c.operand-read.result c.cursor_at-cursor.result c.operand-read.new.tokens c.left.result c.answer.result c.cursor_at-cursor.ensures c.operand-read.ensures c.left.ensures c.answer.ensures
