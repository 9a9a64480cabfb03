use Rattle.std.proofs.Common.{refl}
use Rattle.ms_text_grammar.specs.Pieces.{pieces}
use Rattle.ms_runs_examples.proofs.texts_read.places_are_named.Goals as goal

pub returns-clause-open_function : goal.returns-clause-open_function
unfolding pieces
returns-clause-open_function c = refl

pub returns-clause-floating_point : goal.returns-clause-floating_point
unfolding pieces
returns-clause-floating_point c = refl

pub returns-clause-reserved_result : goal.returns-clause-reserved_result
unfolding pieces
returns-clause-reserved_result c = refl

pub returns-clause-second_number_first : goal.returns-clause-second_number_first
unfolding pieces
returns-clause-second_number_first c = refl

pub returns-clause-long_name : goal.returns-clause-long_name
unfolding pieces
returns-clause-long_name c = refl

pub returns-clause-types : goal.returns-clause-types
unfolding pieces
returns-clause-types c = refl
