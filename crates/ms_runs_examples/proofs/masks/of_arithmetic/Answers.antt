use Rattle.std.proofs.Common.{refl}
use Rattle.ms_bits.specs.Words.{words}
use Rattle.ms_runs_examples.proofs.masks.of_arithmetic.Goals as goal

pub returns-clause-shl : goal.returns-clause-shl
unfolding words
returns-clause-shl c = refl

pub returns-clause-lshr : goal.returns-clause-lshr
unfolding words
returns-clause-lshr c = refl

pub returns-clause-ashr : goal.returns-clause-ashr
unfolding words
returns-clause-ashr c = refl

pub returns-clause-poisoned_amount : goal.returns-clause-poisoned_amount
unfolding words
returns-clause-poisoned_amount c = refl

pub returns-clause-division : goal.returns-clause-division
unfolding words
returns-clause-division c = refl

pub returns-clause-sum : goal.returns-clause-sum
unfolding words
returns-clause-sum c = refl

pub returns-clause-difference : goal.returns-clause-difference
unfolding words
returns-clause-difference c = refl

pub returns-clause-clean_product : goal.returns-clause-clean_product
unfolding words
returns-clause-clean_product c = refl
