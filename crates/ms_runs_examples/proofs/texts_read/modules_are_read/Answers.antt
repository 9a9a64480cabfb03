use Rattle.std.proofs.Common.{refl}
use Rattle.ms_text_grammar.specs.Pieces.{pieces}
use Rattle.ms_runs_examples.proofs.texts_read.modules_are_read.Goals as goal

pub returns-clause-returns_zero : goal.returns-clause-returns_zero
unfolding pieces
returns-clause-returns_zero c = refl

pub returns-clause-branch_on_unset : goal.returns-clause-branch_on_unset
unfolding pieces
returns-clause-branch_on_unset c = refl

pub returns-clause-masked_to_zero : goal.returns-clause-masked_to_zero
unfolding pieces
returns-clause-masked_to_zero c = refl

pub returns-clause-ordered_compare : goal.returns-clause-ordered_compare
unfolding pieces
returns-clause-ordered_compare c = refl

pub returns-clause-select_undef : goal.returns-clause-select_undef
unfolding pieces
returns-clause-select_undef c = refl

pub returns-clause-lost_in_addition : goal.returns-clause-lost_in_addition
unfolding pieces
returns-clause-lost_in_addition c = refl

pub returns-clause-recursion : goal.returns-clause-recursion
unfolding pieces
returns-clause-recursion c = refl

pub returns-clause-nested_call : goal.returns-clause-nested_call
unfolding pieces
returns-clause-nested_call c = refl

pub returns-clause-store_to_shadow : goal.returns-clause-store_to_shadow
unfolding pieces
returns-clause-store_to_shadow c = refl
