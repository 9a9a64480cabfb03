use Rattle.std.proofs.Common.{refl}
use Rattle.ms_text_grammar.specs.Pieces.{pieces}
use Rattle.ms_runs_examples.proofs.texts_read.limits_stand_in_order.Goals as goal

pub returns-clause-nested_initialiser : goal.returns-clause-nested_initialiser
unfolding pieces
returns-clause-nested_initialiser c = refl

pub returns-clause-constant_indices : goal.returns-clause-constant_indices
unfolding pieces
returns-clause-constant_indices c = refl

pub returns-clause-nothing_after_100 : goal.returns-clause-nothing_after_100
unfolding pieces
returns-clause-nothing_after_100 c = refl

pub returns-clause-array_after_100 : goal.returns-clause-array_after_100
unfolding pieces
returns-clause-array_after_100 c = refl

pub returns-clause-last_instruction : goal.returns-clause-last_instruction
unfolding pieces
returns-clause-last_instruction c = refl

pub returns-clause-instruction_too_many : goal.returns-clause-instruction_too_many
unfolding pieces
returns-clause-instruction_too_many c = refl

pub returns-clause-second_too_many : goal.returns-clause-second_too_many
unfolding pieces
returns-clause-second_too_many c = refl

pub returns-clause-instruction_before_name : goal.returns-clause-instruction_before_name
unfolding pieces
returns-clause-instruction_before_name c = refl

pub returns-clause-number_before_instruction : goal.returns-clause-number_before_instruction
unfolding pieces
returns-clause-number_before_instruction c = refl

pub returns-clause-reserved_before_instruction : goal.returns-clause-reserved_before_instruction
unfolding pieces
returns-clause-reserved_before_instruction c = refl

pub returns-clause-phi_before_instruction : goal.returns-clause-phi_before_instruction
unfolding pieces
returns-clause-phi_before_instruction c = refl

pub returns-clause-steps_within : goal.returns-clause-steps_within
unfolding pieces
returns-clause-steps_within c = refl
