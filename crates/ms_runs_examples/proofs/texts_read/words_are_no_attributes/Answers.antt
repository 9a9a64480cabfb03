use Rattle.std.proofs.Common.{refl}
use Rattle.ms_text_grammar.specs.Pieces.{pieces}
use Rattle.ms_runs_examples.proofs.texts_read.words_are_no_attributes.Goals as goal

pub returns-clause-quoted : goal.returns-clause-quoted
unfolding pieces
returns-clause-quoted c = refl

pub returns-clause-align_without_a_number : goal.returns-clause-align_without_a_number
unfolding pieces
returns-clause-align_without_a_number c = refl
