use Rattle.std.proofs.Common.{refl}
use Rattle.ms_text_grammar.specs.Pieces.{pieces}
use Rattle.ms_runs_examples.proofs.texts_read.calls_are_judged.Goals as goal

pub returns-clause-dots_alone : goal.returns-clause-dots_alone
unfolding pieces
returns-clause-dots_alone c = refl

pub returns-clause-type_without_dots : goal.returns-clause-type_without_dots
unfolding pieces
returns-clause-type_without_dots c = refl

pub returns-clause-type_of_main : goal.returns-clause-type_of_main
unfolding pieces
returns-clause-type_of_main c = refl

pub returns-clause-type_of_another : goal.returns-clause-type_of_another
unfolding pieces
returns-clause-type_of_another c = refl

pub returns-clause-main_in_quotes : goal.returns-clause-main_in_quotes
unfolding pieces
returns-clause-main_in_quotes c = refl

pub returns-clause-type_after_void : goal.returns-clause-type_after_void
unfolding pieces
returns-clause-type_after_void c = refl

pub returns-clause-tail_without_call : goal.returns-clause-tail_without_call
unfolding pieces
returns-clause-tail_without_call c = refl

pub returns-clause-many_arguments : goal.returns-clause-many_arguments
unfolding pieces
returns-clause-many_arguments c = refl

pub returns-clause-declared_dots_alone : goal.returns-clause-declared_dots_alone
unfolding pieces
returns-clause-declared_dots_alone c = refl

pub returns-clause-declared_after_a_word : goal.returns-clause-declared_after_a_word
unfolding pieces
returns-clause-declared_after_a_word c = refl

pub returns-clause-declared_after_two : goal.returns-clause-declared_after_two
unfolding pieces
returns-clause-declared_after_two c = refl

pub returns-clause-defined_dots : goal.returns-clause-defined_dots
unfolding pieces
returns-clause-defined_dots c = refl

pub returns-clause-after_the_dots : goal.returns-clause-after_the_dots
unfolding pieces
returns-clause-after_the_dots c = refl

pub returns-clause-declared_without_a_result : goal.returns-clause-declared_without_a_result
unfolding pieces
returns-clause-declared_without_a_result c = refl

pub returns-clause-argument_left_out : goal.returns-clause-argument_left_out
unfolding pieces
returns-clause-argument_left_out c = refl
