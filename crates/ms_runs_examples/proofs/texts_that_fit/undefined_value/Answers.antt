use Rattle.std.proofs.Common.{refl}
use Rattle.ms_text_grammar.specs.Pieces.{pieces}
use Rattle.ms_runs_examples.proofs.texts_that_fit.undefined_value.Goals as goal

pub returns : goal.returns
unfolding pieces
returns c = refl
