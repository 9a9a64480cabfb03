use Rattle.std.proofs.Common.{refl}
use Rattle.ms_bits.specs.Words.{words}
use Rattle.ms_runs_examples.proofs.plain_runs.bytes.Goals as goal

pub returns-clause-memcpy : goal.returns-clause-memcpy
unfolding words
returns-clause-memcpy c = refl

pub returns-clause-memcpy_past_the_end : goal.returns-clause-memcpy_past_the_end
unfolding words
returns-clause-memcpy_past_the_end c = refl

pub returns-clause-memcpy_of_nothing : goal.returns-clause-memcpy_of_nothing
unfolding words
returns-clause-memcpy_of_nothing c = refl

pub returns-clause-memmove : goal.returns-clause-memmove
unfolding words
returns-clause-memmove c = refl

pub returns-clause-memset : goal.returns-clause-memset
unfolding words
returns-clause-memset c = refl

pub returns-clause-memcmp_below : goal.returns-clause-memcmp_below
unfolding words
returns-clause-memcmp_below c = refl

pub returns-clause-memcmp_above : goal.returns-clause-memcmp_above
unfolding words
returns-clause-memcmp_above c = refl

pub returns-clause-memcmp_equal : goal.returns-clause-memcmp_equal
unfolding words
returns-clause-memcmp_equal c = refl

pub returns-clause-strlen : goal.returns-clause-strlen
unfolding words
returns-clause-strlen c = refl

pub returns-clause-strlen_without_end : goal.returns-clause-strlen_without_end
unfolding words
returns-clause-strlen_without_end c = refl

pub returns-clause-llvm_memcpy : goal.returns-clause-llvm_memcpy
unfolding words
returns-clause-llvm_memcpy c = refl

pub returns-clause-llvm_memmove : goal.returns-clause-llvm_memmove
unfolding words
returns-clause-llvm_memmove c = refl

pub returns-clause-llvm_memset : goal.returns-clause-llvm_memset
unfolding words
returns-clause-llvm_memset c = refl

pub returns-clause-lifetime_start : goal.returns-clause-lifetime_start
unfolding words
returns-clause-lifetime_start c = refl

pub returns-clause-lifetime_start_past_the_end : goal.returns-clause-lifetime_start_past_the_end
unfolding words
returns-clause-lifetime_start_past_the_end c = refl

pub returns-clause-lifetime_end : goal.returns-clause-lifetime_end
unfolding words
returns-clause-lifetime_end c = refl
