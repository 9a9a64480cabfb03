use Rattle.std.proofs.Common.{refl}
use Rattle.ms_text_grammar.specs.Pieces.{pieces}
use Rattle.ms_runs_examples.proofs.texts_read.attributes_are_read_over.Goals as goal

pub returns-clause-all_kinds : goal.returns-clause-all_kinds
unfolding pieces
returns-clause-all_kinds c = refl

pub returns-clause-samesign : goal.returns-clause-samesign
unfolding pieces
returns-clause-samesign c = refl

pub returns-clause-quoted_word : goal.returns-clause-quoted_word
unfolding pieces
returns-clause-quoted_word c = refl

pub returns-clause-operation : goal.returns-clause-operation
unfolding pieces
returns-clause-operation c = refl

pub returns-clause-external_in_front : goal.returns-clause-external_in_front
unfolding pieces
returns-clause-external_in_front c = refl

pub returns-clause-external_after : goal.returns-clause-external_after
unfolding pieces
returns-clause-external_after c = refl

pub returns-clause-metadata_after_linkage : goal.returns-clause-metadata_after_linkage
unfolding pieces
returns-clause-metadata_after_linkage c = refl

pub returns-clause-one_name_of_metadata : goal.returns-clause-one_name_of_metadata
unfolding pieces
returns-clause-one_name_of_metadata c = refl

pub returns-clause-mark_of_a_function : goal.returns-clause-mark_of_a_function
unfolding pieces
returns-clause-mark_of_a_function c = refl

pub returns-clause-mark_of_a_declaration : goal.returns-clause-mark_of_a_declaration
unfolding pieces
returns-clause-mark_of_a_declaration c = refl

pub returns-clause-mark_of_a_global : goal.returns-clause-mark_of_a_global
unfolding pieces
returns-clause-mark_of_a_global c = refl

pub returns-clause-section_in_front_of_a_global : goal.returns-clause-section_in_front_of_a_global
unfolding pieces
returns-clause-section_in_front_of_a_global c = refl

pub returns-clause-brackets_in_front_of_a_global : goal.returns-clause-brackets_in_front_of_a_global
unfolding pieces
returns-clause-brackets_in_front_of_a_global c = refl

pub returns-clause-open_bracket : goal.returns-clause-open_bracket
unfolding pieces
returns-clause-open_bracket c = refl

pub returns-clause-open_at_the_end : goal.returns-clause-open_at_the_end
unfolding pieces
returns-clause-open_at_the_end c = refl
