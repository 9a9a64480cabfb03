use Rattle.std.proofs.Common.{refl}
use Rattle.ms_text_grammar.specs.Pieces.{pieces}
use Rattle.ms_runs_examples.proofs.texts_read.initialisers_are_read.Goals as goal

pub returns-clause-local : goal.returns-clause-local
unfolding pieces
returns-clause-local c = refl

pub returns-clause-fields : goal.returns-clause-fields
unfolding pieces
returns-clause-fields c = refl

pub returns-clause-packed_fields : goal.returns-clause-packed_fields
unfolding pieces
returns-clause-packed_fields c = refl

pub returns-clause-items : goal.returns-clause-items
unfolding pieces
returns-clause-items c = refl

pub returns-clause-no_items : goal.returns-clause-no_items
unfolding pieces
returns-clause-no_items c = refl

pub returns-clause-bytes : goal.returns-clause-bytes
unfolding pieces
returns-clause-bytes c = refl

pub returns-clause-zero_of_a_name : goal.returns-clause-zero_of_a_name
unfolding pieces
returns-clause-zero_of_a_name c = refl

pub returns-clause-vector : goal.returns-clause-vector
unfolding pieces
returns-clause-vector c = refl

pub returns-clause-base_of_a_step : goal.returns-clause-base_of_a_step
unfolding pieces
returns-clause-base_of_a_step c = refl

pub returns-clause-index_of_a_step : goal.returns-clause-index_of_a_step
unfolding pieces
returns-clause-index_of_a_step c = refl

pub returns-clause-sum_as_a_base : goal.returns-clause-sum_as_a_base
unfolding pieces
returns-clause-sum_as_a_base c = refl

pub returns-clause-step_within : goal.returns-clause-step_within
unfolding pieces
returns-clause-step_within c = refl

pub returns-clause-null_within : goal.returns-clause-null_within
unfolding pieces
returns-clause-null_within c = refl
