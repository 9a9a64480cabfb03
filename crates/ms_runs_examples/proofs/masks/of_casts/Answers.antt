use Rattle.std.proofs.Common.{refl}
use Rattle.ms_bits.specs.Words.{words}
use Rattle.ms_runs_examples.proofs.masks.of_casts.Goals as goal

pub returns-clause-trunc : goal.returns-clause-trunc
unfolding words
returns-clause-trunc c = refl

pub returns-clause-zext : goal.returns-clause-zext
unfolding words
returns-clause-zext c = refl

pub returns-clause-sext : goal.returns-clause-sext
unfolding words
returns-clause-sext c = refl
