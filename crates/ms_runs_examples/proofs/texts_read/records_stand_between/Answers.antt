use Rattle.std.proofs.Common.{refl}
use Rattle.ms_text_grammar.specs.Pieces.{pieces}
use Rattle.ms_runs_examples.proofs.texts_read.records_stand_between.Goals as goal

pub returns-clause-before_a_label : goal.returns-clause-before_a_label
unfolding pieces
returns-clause-before_a_label c = refl

pub returns-clause-without_brackets : goal.returns-clause-without_brackets
unfolding pieces
returns-clause-without_brackets c = refl

pub returns-clause-between_phis : goal.returns-clause-between_phis
unfolding pieces
returns-clause-between_phis c = refl

pub returns-clause-after_a_call : goal.returns-clause-after_a_call
unfolding pieces
returns-clause-after_a_call c = refl

pub returns-clause-attribute_after_it : goal.returns-clause-attribute_after_it
unfolding pieces
returns-clause-attribute_after_it c = refl

pub returns-clause-bundle_after_it : goal.returns-clause-bundle_after_it
unfolding pieces
returns-clause-bundle_after_it c = refl

pub returns-clause-bundle_after_an_attribute : goal.returns-clause-bundle_after_an_attribute
unfolding pieces
returns-clause-bundle_after_an_attribute c = refl

pub returns-clause-bracket_after_a_suffix : goal.returns-clause-bracket_after_a_suffix
unfolding pieces
returns-clause-bracket_after_a_suffix c = refl
