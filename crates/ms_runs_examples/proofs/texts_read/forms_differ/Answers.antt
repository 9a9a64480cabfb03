use Rattle.std.proofs.Common.{refl}
use Rattle.ms_ir.specs.Names.{bit_moves}
use Rattle.ms_text_grammar.specs.Pieces.{pieces}
use Rattle.ms_runs_examples.proofs.texts_read.forms_differ.Goals as goal

pub returns-clause-mark_in_plain : goal.returns-clause-mark_in_plain
unfolding pieces
returns-clause-mark_in_plain c = refl

pub returns-clause-mark : goal.returns-clause-mark
unfolding pieces
returns-clause-mark c = refl

pub returns-clause-mark_needs_a_name : goal.returns-clause-mark_needs_a_name
unfolding pieces
returns-clause-mark_needs_a_name c = refl

pub returns-clause-inserted_result : goal.returns-clause-inserted_result
unfolding pieces
returns-clause-inserted_result c = refl

pub returns-clause-runtime_function : goal.returns-clause-runtime_function
unfolding pieces
returns-clause-runtime_function c = refl

pub returns-clause-runtime_function_in_plain : goal.returns-clause-runtime_function_in_plain
unfolding pieces
returns-clause-runtime_function_in_plain c = refl

pub returns-clause-global_that_is_none : goal.returns-clause-global_that_is_none
unfolding pieces bit_moves
returns-clause-global_that_is_none c = refl

pub returns-clause-local_that_is_none : goal.returns-clause-local_that_is_none
unfolding pieces
returns-clause-local_that_is_none c = refl

pub returns-clause-reserved_in_metadata : goal.returns-clause-reserved_in_metadata
unfolding pieces
returns-clause-reserved_in_metadata c = refl
