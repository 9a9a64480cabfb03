use Rattle.std.proofs.Common.{refl}
use Rattle.ms_text_grammar.specs.Pieces.{pieces}
use Rattle.ms_runs_examples.proofs.texts_read.numbers_are_judged.Goals as goal

pub returns-clause-above_a_byte : goal.returns-clause-above_a_byte
unfolding pieces
returns-clause-above_a_byte c = refl

pub returns-clause-below_a_byte : goal.returns-clause-below_a_byte
unfolding pieces
returns-clause-below_a_byte c = refl

pub returns-clause-least_byte : goal.returns-clause-least_byte
unfolding pieces
returns-clause-least_byte c = refl

pub returns-clause-greatest_word : goal.returns-clause-greatest_word
unfolding pieces
returns-clause-greatest_word c = refl

pub returns-clause-least_word : goal.returns-clause-least_word
unfolding pieces
returns-clause-least_word c = refl

pub returns-clause-minus_one_bit : goal.returns-clause-minus_one_bit
unfolding pieces
returns-clause-minus_one_bit c = refl

pub returns-clause-leading_zero_of_a_width : goal.returns-clause-leading_zero_of_a_width
unfolding pieces
returns-clause-leading_zero_of_a_width c = refl

pub returns-clause-no_bits : goal.returns-clause-no_bits
unfolding pieces
returns-clause-no_bits c = refl

pub returns-clause-too_wide_in_a_body : goal.returns-clause-too_wide_in_a_body
unfolding pieces
returns-clause-too_wide_in_a_body c = refl

pub returns-clause-too_wide_read_over : goal.returns-clause-too_wide_read_over
unfolding pieces
returns-clause-too_wide_read_over c = refl

pub returns-clause-too_wide_after_less : goal.returns-clause-too_wide_after_less
unfolding pieces
returns-clause-too_wide_after_less c = refl

pub returns-clause-negative_count : goal.returns-clause-negative_count
unfolding pieces
returns-clause-negative_count c = refl

pub returns-clause-minus_zero_count : goal.returns-clause-minus_zero_count
unfolding pieces
returns-clause-minus_zero_count c = refl

pub returns-clause-case_above_a_byte : goal.returns-clause-case_above_a_byte
unfolding pieces
returns-clause-case_above_a_byte c = refl

pub returns-clause-case_of_another_type : goal.returns-clause-case_of_another_type
unfolding pieces
returns-clause-case_of_another_type c = refl

pub returns-clause-null_of_a_word : goal.returns-clause-null_of_a_word
unfolding pieces
returns-clause-null_of_a_word c = refl

pub returns-clause-number_of_a_pointer : goal.returns-clause-number_of_a_pointer
unfolding pieces
returns-clause-number_of_a_pointer c = refl
