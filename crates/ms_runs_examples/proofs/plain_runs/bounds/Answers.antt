use Rattle.std.proofs.Common.{refl}
use Rattle.ms_bits.specs.Words.{words}
use Rattle.ms_runs_examples.proofs.plain_runs.bounds.Goals as goal

pub returns-clause-no_step : goal.returns-clause-no_step
unfolding words
returns-clause-no_step c = refl

pub returns-clause-one_step : goal.returns-clause-one_step
unfolding words
returns-clause-one_step c = refl

pub returns-clause-three_of_five_steps : goal.returns-clause-three_of_five_steps
unfolding words
returns-clause-three_of_five_steps c = refl

pub returns-clause-four_of_five_steps : goal.returns-clause-four_of_five_steps
unfolding words
returns-clause-four_of_five_steps c = refl

pub returns-clause-five_steps : goal.returns-clause-five_steps
unfolding words
returns-clause-five_steps c = refl
