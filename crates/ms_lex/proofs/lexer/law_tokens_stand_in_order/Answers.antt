use Rattle.ms_lex.proofs.Spans.{in_order}
use Rattle.ms_lex.proofs.lexer.law_tokens_stand_in_order.Goals as goal

pub returns : goal.returns
returns c = in_order c.args.text.now
