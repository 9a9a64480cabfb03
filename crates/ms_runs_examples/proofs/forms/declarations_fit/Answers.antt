use Rattle.std.proofs.Common.{refl}
use Rattle.ms_ir.specs.declared.syntax.Ty.TheBlock.{hidden-the_row-Ty-0, shape-the_row-Ty-0}
use Rattle.ms_ir.specs.Names.{word_externals}
use Rattle.ms_runs_examples.proofs.forms.declarations_fit.Goals as goal

pub returns-clause-functions_of_words : goal.returns-clause-functions_of_words
unfolding word_externals
returns-clause-functions_of_words c = refl

pub returns-clause-ones_of_a_word : goal.returns-clause-ones_of_a_word
unfolding word_externals
returns-clause-ones_of_a_word c = refl

pub returns-clause-bytes_of_one_byte : goal.returns-clause-bytes_of_one_byte
unfolding word_externals
returns-clause-bytes_of_one_byte c = refl

pub returns-clause-slots : goal.returns-clause-slots
unfolding hidden-the_row-Ty-0 shape-the_row-Ty-0 denote.Hole.Carrier.hidden
returns-clause-slots c = refl

pub returns-clause-sizes_of_slots : goal.returns-clause-sizes_of_slots
unfolding hidden-the_row-Ty-0 shape-the_row-Ty-0 denote.Hole.Carrier.hidden
returns-clause-sizes_of_slots c = refl
