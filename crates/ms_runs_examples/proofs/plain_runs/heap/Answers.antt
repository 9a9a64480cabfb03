use Rattle.std.proofs.Common.{refl}
use Rattle.ms_bits.specs.Words.{words}
use Rattle.ms_runs_examples.proofs.plain_runs.heap.Goals as goal

pub returns-clause-malloc : goal.returns-clause-malloc
unfolding words
returns-clause-malloc c = refl

pub returns-clause-malloc_to_the_limit : goal.returns-clause-malloc_to_the_limit
unfolding words
returns-clause-malloc_to_the_limit c = refl

pub returns-clause-malloc_past_the_limit : goal.returns-clause-malloc_past_the_limit
unfolding words
returns-clause-malloc_past_the_limit c = refl

pub returns-clause-own_malloc : goal.returns-clause-own_malloc
unfolding words
returns-clause-own_malloc c = refl

pub returns-clause-calloc : goal.returns-clause-calloc
unfolding words
returns-clause-calloc c = refl

pub returns-clause-calloc_of_a_great_product : goal.returns-clause-calloc_of_a_great_product
unfolding words
returns-clause-calloc_of_a_great_product c = refl

pub returns-clause-realloc_keeps : goal.returns-clause-realloc_keeps
unfolding words
returns-clause-realloc_keeps c = refl

pub returns-clause-realloc_makes : goal.returns-clause-realloc_makes
unfolding words
returns-clause-realloc_makes c = refl

pub returns-clause-realloc_ends : goal.returns-clause-realloc_ends
unfolding words
returns-clause-realloc_ends c = refl

pub returns-clause-realloc_past_the_limit : goal.returns-clause-realloc_past_the_limit
unfolding words
returns-clause-realloc_past_the_limit c = refl

pub returns-clause-realloc_of_null : goal.returns-clause-realloc_of_null
unfolding words
returns-clause-realloc_of_null c = refl

pub returns-clause-realloc_of_no_block : goal.returns-clause-realloc_of_no_block
unfolding words
returns-clause-realloc_of_no_block c = refl

pub returns-clause-free_of_null : goal.returns-clause-free_of_null
unfolding words
returns-clause-free_of_null c = refl

pub returns-clause-free_twice : goal.returns-clause-free_twice
unfolding words
returns-clause-free_twice c = refl

pub returns-clause-read_after_free : goal.returns-clause-read_after_free
unfolding words
returns-clause-read_after_free c = refl

pub returns-clause-ended_blocks_count : goal.returns-clause-ended_blocks_count
unfolding words
returns-clause-ended_blocks_count c = refl

pub returns-clause-malloc_of_nothing : goal.returns-clause-malloc_of_nothing
unfolding words
returns-clause-malloc_of_nothing c = refl

pub returns-clause-nothing_takes_room : goal.returns-clause-nothing_takes_room
unfolding words
returns-clause-nothing_takes_room c = refl

pub returns-clause-realloc_makes_all : goal.returns-clause-realloc_makes_all
unfolding words
returns-clause-realloc_makes_all c = refl

pub returns-clause-refused_makes_none : goal.returns-clause-refused_makes_none
unfolding words
returns-clause-refused_makes_none c = refl
