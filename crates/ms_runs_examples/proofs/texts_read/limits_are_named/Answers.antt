use Rattle.std.proofs.Common.{refl}
use Rattle.ms_text_grammar.specs.Pieces.{pieces}
use Rattle.ms_runs_examples.proofs.texts_read.limits_are_named.Goals as goal

pub returns-clause-name : goal.returns-clause-name
unfolding pieces
returns-clause-name c = refl

pub returns-clause-types : goal.returns-clause-types
unfolding pieces
returns-clause-types c = refl

pub returns-clause-initialisers : goal.returns-clause-initialisers
unfolding pieces
returns-clause-initialisers c = refl

pub returns-clause-parameters : goal.returns-clause-parameters
unfolding pieces
returns-clause-parameters c = refl

pub returns-clause-indices : goal.returns-clause-indices
unfolding pieces
returns-clause-indices c = refl

pub returns-clause-arguments_of_printf : goal.returns-clause-arguments_of_printf
unfolding pieces
returns-clause-arguments_of_printf c = refl
