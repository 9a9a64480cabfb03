use Rattle.std.proofs.Common.{refl}
use Rattle.ms_text_grammar.specs.Pieces.{pieces}
use Rattle.ms_runs_examples.proofs.texts_read.entities_are_read.Goals as goal

pub returns-clause-struct_of_a_name : goal.returns-clause-struct_of_a_name
unfolding pieces
returns-clause-struct_of_a_name c = refl

pub returns-clause-packed_struct : goal.returns-clause-packed_struct
unfolding pieces
returns-clause-packed_struct c = refl

pub returns-clause-constant : goal.returns-clause-constant
unfolding pieces
returns-clause-constant c = refl

pub returns-clause-address : goal.returns-clause-address
unfolding pieces
returns-clause-address c = refl

pub returns-clause-step : goal.returns-clause-step
unfolding pieces
returns-clause-step c = refl

pub returns-clause-printf : goal.returns-clause-printf
unfolding pieces
returns-clause-printf c = refl

pub returns-clause-nothing_else : goal.returns-clause-nothing_else
unfolding pieces
returns-clause-nothing_else c = refl
