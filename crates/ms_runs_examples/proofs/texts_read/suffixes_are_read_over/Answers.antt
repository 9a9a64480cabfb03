use Rattle.std.proofs.Common.{refl}
use Rattle.ms_text_grammar.specs.Pieces.{pieces}
use Rattle.ms_runs_examples.proofs.texts_read.suffixes_are_read_over.Goals as goal

pub returns-clause-many : goal.returns-clause-many
unfolding pieces
returns-clause-many c = refl

pub returns-clause-mark_after_a_kind : goal.returns-clause-mark_after_a_kind
unfolding pieces
returns-clause-mark_after_a_kind c = refl

pub returns-clause-mark_with_brackets : goal.returns-clause-mark_with_brackets
unfolding pieces
returns-clause-mark_with_brackets c = refl

pub returns-clause-count_after_a_suffix : goal.returns-clause-count_after_a_suffix
unfolding pieces
returns-clause-count_after_a_suffix c = refl

pub returns-clause-second_count : goal.returns-clause-second_count
unfolding pieces
returns-clause-second_count c = refl

pub returns-clause-bracket_after_a_comma : goal.returns-clause-bracket_after_a_comma
unfolding pieces
returns-clause-bracket_after_a_comma c = refl

pub returns-clause-edge_after_a_suffix : goal.returns-clause-edge_after_a_suffix
unfolding pieces
returns-clause-edge_after_a_suffix c = refl

pub returns-clause-local_as_an_index : goal.returns-clause-local_as_an_index
unfolding pieces
returns-clause-local_as_an_index c = refl

pub returns-clause-wide_index : goal.returns-clause-wide_index
unfolding pieces
returns-clause-wide_index c = refl
