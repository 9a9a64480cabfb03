use Rattle.std.proofs.Common.{refl}
use Rattle.ms_bits.specs.Words.{words}
use Rattle.ms_runs_examples.proofs.chains.ways.Goals as goal

pub returns-clause-of_no_origin : goal.returns-clause-of_no_origin
unfolding words
returns-clause-of_no_origin c = refl

pub returns-clause-of_a_root : goal.returns-clause-of_a_root
unfolding words
returns-clause-of_a_root c = refl

pub returns-clause-of_one_store : goal.returns-clause-of_one_store
unfolding words
returns-clause-of_one_store c = refl

pub returns-clause-of_sixteen_stores : goal.returns-clause-of_sixteen_stores
unfolding words
returns-clause-of_sixteen_stores c = refl

pub returns-clause-of_no_pair : goal.returns-clause-of_no_pair
unfolding words
returns-clause-of_no_pair c = refl
