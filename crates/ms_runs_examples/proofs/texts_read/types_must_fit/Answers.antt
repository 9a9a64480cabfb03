use Rattle.std.proofs.Common.{refl}
use Rattle.ms_text_grammar.specs.Pieces.{pieces}
use Rattle.ms_runs_examples.proofs.texts_read.types_must_fit.Goals as goal

pub returns-clause-second_of_a_choice : goal.returns-clause-second_of_a_choice
unfolding pieces
returns-clause-second_of_a_choice c = refl

pub returns-clause-vector_as_second : goal.returns-clause-vector_as_second
unfolding pieces
returns-clause-vector_as_second c = refl

pub returns-clause-choice_by_a_byte : goal.returns-clause-choice_by_a_byte
unfolding pieces
returns-clause-choice_by_a_byte c = refl

pub returns-clause-branch_on_an_array : goal.returns-clause-branch_on_an_array
unfolding pieces
returns-clause-branch_on_an_array c = refl

pub returns-clause-switch_of_a_pointer : goal.returns-clause-switch_of_a_pointer
unfolding pieces
returns-clause-switch_of_a_pointer c = refl

pub returns-clause-store_of_an_array : goal.returns-clause-store_of_an_array
unfolding pieces
returns-clause-store_of_an_array c = refl

pub returns-clause-store_to_a_typed_pointer : goal.returns-clause-store_to_a_typed_pointer
unfolding pieces
returns-clause-store_to_a_typed_pointer c = refl

pub returns-clause-load_of_a_typed_pointer : goal.returns-clause-load_of_a_typed_pointer
unfolding pieces
returns-clause-load_of_a_typed_pointer c = refl

pub returns-clause-sum_of_pointers : goal.returns-clause-sum_of_pointers
unfolding pieces
returns-clause-sum_of_pointers c = refl

pub returns-clause-return_of_a_struct : goal.returns-clause-return_of_a_struct
unfolding pieces
returns-clause-return_of_a_struct c = refl

pub returns-clause-exact_remainder : goal.returns-clause-exact_remainder
unfolding pieces
returns-clause-exact_remainder c = refl

pub returns-clause-void_in_a_struct : goal.returns-clause-void_in_a_struct
unfolding pieces
returns-clause-void_in_a_struct c = refl

pub returns-clause-name_for_no_struct : goal.returns-clause-name_for_no_struct
unfolding pieces
returns-clause-name_for_no_struct c = refl

pub returns-clause-field_left_out : goal.returns-clause-field_left_out
unfolding pieces
returns-clause-field_left_out c = refl

pub returns-clause-definition_after_the_end : goal.returns-clause-definition_after_the_end
unfolding pieces
returns-clause-definition_after_the_end c = refl
