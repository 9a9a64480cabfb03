use Rattle.std.proofs.Common.{refl}
use Rattle.ms_text_grammar.specs.Pieces.{pieces}
use Rattle.ms_runs_examples.proofs.texts_read.lines_are_read.Goals as goal

pub returns-clause-arithmetic : goal.returns-clause-arithmetic
unfolding pieces
returns-clause-arithmetic c = refl

pub returns-clause-comparison : goal.returns-clause-comparison
unfolding pieces
returns-clause-comparison c = refl

pub returns-clause-cast : goal.returns-clause-cast
unfolding pieces
returns-clause-cast c = refl

pub returns-clause-unnamed : goal.returns-clause-unnamed
unfolding pieces
returns-clause-unnamed c = refl

pub returns-clause-count : goal.returns-clause-count
unfolding pieces
returns-clause-count c = refl

pub returns-clause-call : goal.returns-clause-call
unfolding pieces
returns-clause-call c = refl
