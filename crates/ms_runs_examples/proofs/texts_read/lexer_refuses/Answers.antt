use Rattle.std.proofs.Common.{refl}
use Rattle.ms_text_grammar.specs.Pieces.{pieces}
use Rattle.ms_runs_examples.proofs.texts_read.lexer_refuses.Goals as goal

pub returns-clause-bad_byte : goal.returns-clause-bad_byte
unfolding pieces
returns-clause-bad_byte c = refl

pub returns-clause-open_string : goal.returns-clause-open_string
unfolding pieces
returns-clause-open_string c = refl
