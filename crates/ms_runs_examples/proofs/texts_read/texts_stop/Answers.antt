use Rattle.std.proofs.Common.{refl}
use Rattle.ms_text_grammar.specs.Pieces.{pieces}
use Rattle.ms_runs_examples.proofs.texts_read.texts_stop.Goals as goal

pub returns-clause-empty_text : goal.returns-clause-empty_text
unfolding pieces
returns-clause-empty_text c = refl

pub returns-clause-number_too_large : goal.returns-clause-number_too_large
unfolding pieces
returns-clause-number_too_large c = refl

pub returns-clause-flag_twice : goal.returns-clause-flag_twice
unfolding pieces
returns-clause-flag_twice c = refl

pub returns-clause-flag_of_another : goal.returns-clause-flag_of_another
unfolding pieces
returns-clause-flag_of_another c = refl

pub returns-clause-true_of_a_word : goal.returns-clause-true_of_a_word
unfolding pieces
returns-clause-true_of_a_word c = refl

pub returns-clause-store_with_a_name : goal.returns-clause-store_with_a_name
unfolding pieces
returns-clause-store_with_a_name c = refl

pub returns-clause-void_with_a_name : goal.returns-clause-void_with_a_name
unfolding pieces
returns-clause-void_with_a_name c = refl

pub returns-clause-branch_on_a_byte : goal.returns-clause-branch_on_a_byte
unfolding pieces
returns-clause-branch_on_a_byte c = refl

pub returns-clause-type_of_a_callee : goal.returns-clause-type_of_a_callee
unfolding pieces
returns-clause-type_of_a_callee c = refl

pub returns-clause-sum_of_vectors : goal.returns-clause-sum_of_vectors
unfolding pieces
returns-clause-sum_of_vectors c = refl

pub returns-clause-load_of_a_vector : goal.returns-clause-load_of_a_vector
unfolding pieces
returns-clause-load_of_a_vector c = refl

pub returns-clause-room_for_a_vector : goal.returns-clause-room_for_a_vector
unfolding pieces
returns-clause-room_for_a_vector c = refl

pub returns-clause-record_before_the_end : goal.returns-clause-record_before_the_end
unfolding pieces
returns-clause-record_before_the_end c = refl

pub returns-clause-record_after_a_call : goal.returns-clause-record_after_a_call
unfolding pieces
returns-clause-record_after_a_call c = refl

pub returns-clause-label_that_is_not_next : goal.returns-clause-label_that_is_not_next
unfolding pieces
returns-clause-label_that_is_not_next c = refl

pub returns-clause-parameter_that_is_not_next : goal.returns-clause-parameter_that_is_not_next
unfolding pieces
returns-clause-parameter_that_is_not_next c = refl

pub returns-clause-phi_after_an_instruction : goal.returns-clause-phi_after_an_instruction
unfolding pieces
returns-clause-phi_after_an_instruction c = refl

pub returns-clause-label_in_an_open_block : goal.returns-clause-label_in_an_open_block
unfolding pieces
returns-clause-label_in_an_open_block c = refl

pub returns-clause-unbalanced : goal.returns-clause-unbalanced
unfolding pieces
returns-clause-unbalanced c = refl
