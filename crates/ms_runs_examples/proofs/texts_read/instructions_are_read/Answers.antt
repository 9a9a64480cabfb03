use Rattle.std.proofs.Common.{refl}
use Rattle.ms_text_grammar.specs.Pieces.{pieces}
use Rattle.ms_runs_examples.proofs.texts_read.instructions_are_read.Goals as goal

pub returns-clause-steps : goal.returns-clause-steps
unfolding pieces
returns-clause-steps c = refl

pub returns-clause-switch : goal.returns-clause-switch
unfolding pieces
returns-clause-switch c = refl

pub returns-clause-disjoint : goal.returns-clause-disjoint
unfolding pieces
returns-clause-disjoint c = refl

pub returns-clause-exact : goal.returns-clause-exact
unfolding pieces
returns-clause-exact c = refl

pub returns-clause-truncation : goal.returns-clause-truncation
unfolding pieces
returns-clause-truncation c = refl

pub returns-clause-choice : goal.returns-clause-choice
unfolding pieces
returns-clause-choice c = refl
