use Rattle.std.proofs.Common.{refl}
use Rattle.ms_bits.specs.Words.{words}
use Rattle.ms_runs_examples.proofs.plain_runs.control_and_memory.Goals as goal

pub returns-clause-first_case : goal.returns-clause-first_case
unfolding words
returns-clause-first_case c = refl

pub returns-clause-second_case : goal.returns-clause-second_case
unfolding words
returns-clause-second_case c = refl

pub returns-clause-other_case : goal.returns-clause-other_case
unfolding words
returns-clause-other_case c = refl

pub returns-clause-phis_read_at_once : goal.returns-clause-phis_read_at_once
unfolding words
returns-clause-phis_read_at_once c = refl

pub returns-clause-room_is_taken_back : goal.returns-clause-room_is_taken_back
unfolding words
returns-clause-room_is_taken_back c = refl

pub returns-clause-room_of_a_callee : goal.returns-clause-room_of_a_callee
unfolding words
returns-clause-room_of_a_callee c = refl

pub returns-clause-stack_to_the_limit : goal.returns-clause-stack_to_the_limit
unfolding words
returns-clause-stack_to_the_limit c = refl

pub returns-clause-stack_past_the_limit : goal.returns-clause-stack_past_the_limit
unfolding words
returns-clause-stack_past_the_limit c = refl

pub returns-clause-frames_to_the_limit : goal.returns-clause-frames_to_the_limit
unfolding words
returns-clause-frames_to_the_limit c = refl

pub returns-clause-frames_past_the_limit : goal.returns-clause-frames_past_the_limit
unfolding words
returns-clause-frames_past_the_limit c = refl

pub returns-clause-odd_width : goal.returns-clause-odd_width
unfolding words
returns-clause-odd_width c = refl

pub returns-clause-negative_index : goal.returns-clause-negative_index
unfolding words
returns-clause-negative_index c = refl

pub returns-clause-two_allocations : goal.returns-clause-two_allocations
unfolding words
returns-clause-two_allocations c = refl

pub returns-clause-part_of_a_global : goal.returns-clause-part_of_a_global
unfolding words
returns-clause-part_of_a_global c = refl

pub returns-clause-undef_in_a_global : goal.returns-clause-undef_in_a_global
unfolding words
returns-clause-undef_in_a_global c = refl

pub returns-clause-next_global : goal.returns-clause-next_global
unfolding words
returns-clause-next_global c = refl
