use Rattle.std.proofs.Common.{refl}
use Rattle.ms_text_grammar.specs.Pieces.{pieces}
use Rattle.ms_runs_examples.proofs.texts_read.numbers_are_successive.Goals as goal

pub returns-clause-void_call : goal.returns-clause-void_call
unfolding pieces
returns-clause-void_call c = refl

pub returns-clause-unlabelled_block : goal.returns-clause-unlabelled_block
unfolding pieces
returns-clause-unlabelled_block c = refl

pub returns-clause-entry_with_a_name : goal.returns-clause-entry_with_a_name
unfolding pieces
returns-clause-entry_with_a_name c = refl

pub returns-clause-result_with_a_name : goal.returns-clause-result_with_a_name
unfolding pieces
returns-clause-result_with_a_name c = refl

pub returns-clause-parameters : goal.returns-clause-parameters
unfolding pieces
returns-clause-parameters c = refl

pub returns-clause-label_after_a_terminator : goal.returns-clause-label_after_a_terminator
unfolding pieces
returns-clause-label_after_a_terminator c = refl

pub returns-clause-parameter_of_a_declaration : goal.returns-clause-parameter_of_a_declaration
unfolding pieces
returns-clause-parameter_of_a_declaration c = refl
