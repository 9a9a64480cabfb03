use Rattle.std.proofs.Common.{refl}
use Rattle.ms_text_grammar.specs.Pieces.{pieces}
use Rattle.ms_runs_examples.proofs.texts_read.names_are_judged.Goals as goal

pub returns-clause-digits_in_quotes : goal.returns-clause-digits_in_quotes
unfolding pieces
returns-clause-digits_in_quotes c = refl

pub returns-clause-leading_zero : goal.returns-clause-leading_zero
unfolding pieces
returns-clause-leading_zero c = refl

pub returns-clause-greatest_number : goal.returns-clause-greatest_number
unfolding pieces
returns-clause-greatest_number c = refl

pub returns-clause-number_above_it : goal.returns-clause-number_above_it
unfolding pieces
returns-clause-number_above_it c = refl

pub returns-clause-type_above_it : goal.returns-clause-type_above_it
unfolding pieces
returns-clause-type_above_it c = refl

pub returns-clause-result_above_it : goal.returns-clause-result_above_it
unfolding pieces
returns-clause-result_above_it c = refl

pub returns-clause-label_above_it : goal.returns-clause-label_above_it
unfolding pieces
returns-clause-label_above_it c = refl

pub returns-clause-reserved_before_too_long : goal.returns-clause-reserved_before_too_long
unfolding pieces
returns-clause-reserved_before_too_long c = refl

pub returns-clause-reserved_when_decoded : goal.returns-clause-reserved_when_decoded
unfolding pieces
returns-clause-reserved_when_decoded c = refl

pub returns-clause-longest : goal.returns-clause-longest
unfolding pieces
returns-clause-longest c = refl

pub returns-clause-numbers_read_over : goal.returns-clause-numbers_read_over
unfolding pieces
returns-clause-numbers_read_over c = refl

pub returns-clause-mark_as_an_entity : goal.returns-clause-mark_as_an_entity
unfolding pieces
returns-clause-mark_as_an_entity c = refl

pub returns-clause-too_long_read_over : goal.returns-clause-too_long_read_over
unfolding pieces
returns-clause-too_long_read_over c = refl

pub returns-clause-reserved_label : goal.returns-clause-reserved_label
unfolding pieces
returns-clause-reserved_label c = refl

pub returns-clause-reserved_parameter : goal.returns-clause-reserved_parameter
unfolding pieces
returns-clause-reserved_parameter c = refl

pub returns-clause-reserved_callee : goal.returns-clause-reserved_callee
unfolding pieces
returns-clause-reserved_callee c = refl
