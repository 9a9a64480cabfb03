use Rattle.std.proofs.Common.{refl}
use Rattle.ms_text_grammar.specs.Pieces.{pieces}
use Rattle.ms_runs_examples.proofs.texts_read.constructs_are_named.Goals as goal

pub returns-clause-floating_point : goal.returns-clause-floating_point
unfolding pieces
returns-clause-floating_point c = refl

pub returns-clause-vector : goal.returns-clause-vector
unfolding pieces
returns-clause-vector c = refl

pub returns-clause-wide_integer : goal.returns-clause-wide_integer
unfolding pieces
returns-clause-wide_integer c = refl

pub returns-clause-address_space : goal.returns-clause-address_space
unfolding pieces
returns-clause-address_space c = refl

pub returns-clause-thread_local : goal.returns-clause-thread_local
unfolding pieces
returns-clause-thread_local c = refl

pub returns-clause-aggregate_value : goal.returns-clause-aggregate_value
unfolding pieces
returns-clause-aggregate_value c = refl

pub returns-clause-by_value : goal.returns-clause-by_value
unfolding pieces
returns-clause-by_value c = refl

pub returns-clause-indirect_call : goal.returns-clause-indirect_call
unfolding pieces
returns-clause-indirect_call c = refl

pub returns-clause-function_type : goal.returns-clause-function_type
unfolding pieces
returns-clause-function_type c = refl

pub returns-clause-variadic : goal.returns-clause-variadic
unfolding pieces
returns-clause-variadic c = refl

pub returns-clause-exceptions : goal.returns-clause-exceptions
unfolding pieces
returns-clause-exceptions c = refl

pub returns-clause-assembly : goal.returns-clause-assembly
unfolding pieces
returns-clause-assembly c = refl

pub returns-clause-indirect_branch : goal.returns-clause-indirect_branch
unfolding pieces
returns-clause-indirect_branch c = refl

pub returns-clause-atomics : goal.returns-clause-atomics
unfolding pieces
returns-clause-atomics c = refl

pub returns-clause-volatile : goal.returns-clause-volatile
unfolding pieces
returns-clause-volatile c = refl

pub returns-clause-variable_arguments : goal.returns-clause-variable_arguments
unfolding pieces
returns-clause-variable_arguments c = refl

pub returns-clause-alias : goal.returns-clause-alias
unfolding pieces
returns-clause-alias c = refl

pub returns-clause-comdat : goal.returns-clause-comdat
unfolding pieces
returns-clause-comdat c = refl

pub returns-clause-external_global : goal.returns-clause-external_global
unfolding pieces
returns-clause-external_global c = refl

pub returns-clause-opaque_type : goal.returns-clause-opaque_type
unfolding pieces
returns-clause-opaque_type c = refl

pub returns-clause-typed_pointer : goal.returns-clause-typed_pointer
unfolding pieces
returns-clause-typed_pointer c = refl

pub returns-clause-metadata_operand : goal.returns-clause-metadata_operand
unfolding pieces
returns-clause-metadata_operand c = refl

pub returns-clause-operand_bundle : goal.returns-clause-operand_bundle
unfolding pieces
returns-clause-operand_bundle c = refl

pub returns-clause-constant_expression : goal.returns-clause-constant_expression
unfolding pieces
returns-clause-constant_expression c = refl

pub returns-clause-call_of_main : goal.returns-clause-call_of_main
unfolding pieces
returns-clause-call_of_main c = refl
