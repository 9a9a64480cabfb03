use Rattle.ms_read_body.proofs.Answering.{stand_in_order}
use Rattle.ms_read_body.proofs.calls.cursor_at.Goals as goal

pub at-requires-clause-in_order : goal.at-requires-clause-in_order
at-requires-clause-in_order c = stand_in_order c.args.text.now c.args.tokens.now c.requires.whole
