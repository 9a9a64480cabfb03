use Rattle.std.proofs.Common.{refl}
use Rattle.ms_text_grammar.specs.Pieces.{pieces}
use Rattle.ms_runs_examples.proofs.texts_read.flags_are_carried.Goals as goal

pub returns-clause-nuw : goal.returns-clause-nuw
unfolding pieces
returns-clause-nuw c = refl

pub returns-clause-nsw : goal.returns-clause-nsw
unfolding pieces
returns-clause-nsw c = refl

pub returns-clause-exact : goal.returns-clause-exact
unfolding pieces
returns-clause-exact c = refl

pub returns-clause-disjoint : goal.returns-clause-disjoint
unfolding pieces
returns-clause-disjoint c = refl

pub returns-clause-nneg : goal.returns-clause-nneg
unfolding pieces
returns-clause-nneg c = refl

pub returns-clause-samesign : goal.returns-clause-samesign
unfolding pieces
returns-clause-samesign c = refl

pub returns-clause-inbounds : goal.returns-clause-inbounds
unfolding pieces
returns-clause-inbounds c = refl
