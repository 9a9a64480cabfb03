use Rattle.std.proofs.Common.{refl}
use Rattle.ms_bits.specs.Words.{words}
use Rattle.ms_runs_fills_laws.proofs.examples.blocks_at_zero.Goals as goal

pub returns-clause-one : goal.returns-clause-one
unfolding words
returns-clause-one c = refl

pub returns-clause-two : goal.returns-clause-two
unfolding words
returns-clause-two c = refl
