use Rattle.std.proofs.Common.{refl}
use Rattle.ms_bits.specs.Words.{words}
use Rattle.ms_runs_examples.proofs.plain_runs.marks.Goals as goal

pub returns-clause-shadow_is_loaded : goal.returns-clause-shadow_is_loaded
unfolding words
returns-clause-shadow_is_loaded c = refl

pub returns-clause-shadow_is_stored : goal.returns-clause-shadow_is_stored
unfolding words
returns-clause-shadow_is_stored c = refl

pub returns-clause-memory_is_not_loaded : goal.returns-clause-memory_is_not_loaded
unfolding words
returns-clause-memory_is_not_loaded c = refl

pub returns-clause-memory_is_not_stored : goal.returns-clause-memory_is_not_stored
unfolding words
returns-clause-memory_is_not_stored c = refl

pub returns-clause-slot_is_loaded : goal.returns-clause-slot_is_loaded
unfolding words
returns-clause-slot_is_loaded c = refl

pub returns-clause-slot_is_zero_first : goal.returns-clause-slot_is_zero_first
unfolding words
returns-clause-slot_is_zero_first c = refl

pub returns-clause-past_the_slots : goal.returns-clause-past_the_slots
unfolding words
returns-clause-past_the_slots c = refl

pub returns-clause-unmarked_store_to_a_slot : goal.returns-clause-unmarked_store_to_a_slot
unfolding words
returns-clause-unmarked_store_to_a_slot c = refl

pub returns-clause-marked_are_no_steps : goal.returns-clause-marked_are_no_steps
unfolding words
returns-clause-marked_are_no_steps c = refl

pub returns-clause-spent_before_marked : goal.returns-clause-spent_before_marked
unfolding words
returns-clause-spent_before_marked c = refl

pub returns-clause-branch_on_unset_checked : goal.returns-clause-branch_on_unset_checked
unfolding words
returns-clause-branch_on_unset_checked c = refl

pub returns-clause-branch_on_unset_spent : goal.returns-clause-branch_on_unset_spent
unfolding words
returns-clause-branch_on_unset_spent c = refl

pub returns-clause-branch_on_unset_stripped : goal.returns-clause-branch_on_unset_stripped
unfolding words
returns-clause-branch_on_unset_stripped c = refl

pub returns-clause-nested_call_checked : goal.returns-clause-nested_call_checked
unfolding words
returns-clause-nested_call_checked c = refl

pub returns-clause-nested_call_stripped : goal.returns-clause-nested_call_stripped
unfolding words
returns-clause-nested_call_stripped c = refl
