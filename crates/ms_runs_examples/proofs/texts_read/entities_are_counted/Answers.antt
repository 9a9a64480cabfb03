use Rattle.std.proofs.Common.{refl}
use Rattle.ms_text_grammar.specs.Pieces.{pieces}
use Rattle.ms_runs_examples.proofs.texts_read.entities_are_counted.Goals as goal

pub returns-clause-last_function : goal.returns-clause-last_function
unfolding pieces
returns-clause-last_function c = refl

pub returns-clause-function_too_many : goal.returns-clause-function_too_many
unfolding pieces
returns-clause-function_too_many c = refl

pub returns-clause-declaration_too_many : goal.returns-clause-declaration_too_many
unfolding pieces
returns-clause-declaration_too_many c = refl

pub returns-clause-last_global : goal.returns-clause-last_global
unfolding pieces
returns-clause-last_global c = refl

pub returns-clause-global_too_many : goal.returns-clause-global_too_many
unfolding pieces
returns-clause-global_too_many c = refl

pub returns-clause-global_before_name : goal.returns-clause-global_before_name
unfolding pieces
returns-clause-global_before_name c = refl

pub returns-clause-reserved_before_global : goal.returns-clause-reserved_before_global
unfolding pieces
returns-clause-reserved_before_global c = refl
