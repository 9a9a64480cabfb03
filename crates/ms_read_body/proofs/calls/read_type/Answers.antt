use Rattle.ms_text_grammar.specs.Types.{max_depth, type_to}
use Rattle.ms_read_body.proofs.Answering.{answered}
use Rattle.ms_read_body.proofs.calls.read_type.Goals as goal

pub returns : goal.returns
returns c = answered (type_to c.args.form max_depth) c.args.text.now c.args.tokens.now c.args.at c.type_to-read.result c.cursor_at-cursor.result c.type_to-read.new.tokens c.left.result c.answer.result c.cursor_at-cursor.ensures c.type_to-read.ensures c.left.ensures c.answer.ensures
