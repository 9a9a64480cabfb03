use Rattle.std.proofs.Common.{refl}
use Rattle.ms_bits.specs.Words.{words}
use Rattle.ms_runs_examples.proofs.plain_runs.runtime_functions.Goals as goal

pub returns-clause-check : goal.returns-clause-check
unfolding words
returns-clause-check c = refl

pub returns-clause-check_of_nothing : goal.returns-clause-check_of_nothing
unfolding words
returns-clause-check_of_nothing c = refl

pub returns-clause-check_memory : goal.returns-clause-check_memory
unfolding words
returns-clause-check_memory c = refl

pub returns-clause-check_memory_of_clean : goal.returns-clause-check_memory_of_clean
unfolding words
returns-clause-check_memory_of_clean c = refl

pub returns-clause-check_string : goal.returns-clause-check_string
unfolding words
returns-clause-check_string c = refl

pub returns-clause-check_string_to_its_end : goal.returns-clause-check_string_to_its_end
unfolding words
returns-clause-check_string_to_its_end c = refl

pub returns-clause-blind : goal.returns-clause-blind
unfolding words
returns-clause-blind c = refl

pub returns-clause-poison_of_nothing : goal.returns-clause-poison_of_nothing
unfolding words
returns-clause-poison_of_nothing c = refl

pub returns-clause-unpoison : goal.returns-clause-unpoison
unfolding words
returns-clause-unpoison c = refl

pub returns-clause-copy : goal.returns-clause-copy
unfolding words
returns-clause-copy c = refl

pub returns-clause-fill : goal.returns-clause-fill
unfolding words
returns-clause-fill c = refl

pub returns-clause-fill_with_clean : goal.returns-clause-fill_with_clean
unfolding words
returns-clause-fill_with_clean c = refl

pub returns-clause-store_origin : goal.returns-clause-store_origin
unfolding words
returns-clause-store_origin c = refl

pub returns-clause-store_origin_elsewhere : goal.returns-clause-store_origin_elsewhere
unfolding words
returns-clause-store_origin_elsewhere c = refl

pub returns-clause-load_origin : goal.returns-clause-load_origin
unfolding words
returns-clause-load_origin c = refl

pub returns-clause-size : goal.returns-clause-size
unfolding words
returns-clause-size c = refl

pub returns-clause-size_of_no_block : goal.returns-clause-size_of_no_block
unfolding words
returns-clause-size_of_no_block c = refl

pub returns-clause-bad_ranges : goal.returns-clause-bad_ranges
unfolding words
returns-clause-bad_ranges c = refl
