use Rattle.std.proofs.Common.{refl}
use Rattle.ms_bits.specs.Words.{words}
use Rattle.ms_runs_examples.proofs.plain_runs.layout_and_numbers.Goals as goal

pub returns-clause-loose_struct : goal.returns-clause-loose_struct
unfolding words
returns-clause-loose_struct c = refl

pub returns-clause-packed_struct : goal.returns-clause-packed_struct
unfolding words
returns-clause-packed_struct c = refl

pub returns-clause-array_of_odd_width : goal.returns-clause-array_of_odd_width
unfolding words
returns-clause-array_of_odd_width c = refl

pub returns-clause-empty_array : goal.returns-clause-empty_array
unfolding words
returns-clause-empty_array c = refl

pub returns-clause-greatest_size : goal.returns-clause-greatest_size
unfolding words
returns-clause-greatest_size c = refl

pub returns-clause-past_the_greatest_size : goal.returns-clause-past_the_greatest_size
unfolding words
returns-clause-past_the_greatest_size c = refl

pub returns-clause-holds_itself : goal.returns-clause-holds_itself
unfolding words
returns-clause-holds_itself c = refl

pub returns-clause-shadow_is_copied : goal.returns-clause-shadow_is_copied
unfolding words
returns-clause-shadow_is_copied c = refl

pub returns-clause-cells_are_copied : goal.returns-clause-cells_are_copied
unfolding words
returns-clause-cells_are_copied c = refl

pub returns-clause-site_of_a_call : goal.returns-clause-site_of_a_call
unfolding words
returns-clause-site_of_a_call c = refl

pub returns-clause-roots : goal.returns-clause-roots
unfolding words
returns-clause-roots c = refl

pub returns-clause-roots_of_marked : goal.returns-clause-roots_of_marked
unfolding words
returns-clause-roots_of_marked c = refl

pub returns-clause-roots_of_own_malloc : goal.returns-clause-roots_of_own_malloc
unfolding words
returns-clause-roots_of_own_malloc c = refl

pub returns-clause-root_of_the_second : goal.returns-clause-root_of_the_second
unfolding words
returns-clause-root_of_the_second c = refl
