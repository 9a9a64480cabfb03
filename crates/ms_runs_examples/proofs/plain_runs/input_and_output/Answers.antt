use Rattle.std.proofs.Common.{refl}
use Rattle.ms_bits.specs.Words.{words}
use Rattle.ms_runs_examples.proofs.plain_runs.input_and_output.Goals as goal

pub returns-clause-putchar : goal.returns-clause-putchar
unfolding words
returns-clause-putchar c = refl

pub returns-clause-puts : goal.returns-clause-puts
unfolding words
returns-clause-puts c = refl

pub returns-clause-puts_without_end : goal.returns-clause-puts_without_end
unfolding words
returns-clause-puts_without_end c = refl

pub returns-clause-getchar : goal.returns-clause-getchar
unfolding words
returns-clause-getchar c = refl

pub returns-clause-getchar_at_the_end : goal.returns-clause-getchar_at_the_end
unfolding words
returns-clause-getchar_at_the_end c = refl

pub returns-clause-read : goal.returns-clause-read
unfolding words
returns-clause-read c = refl

pub returns-clause-read_twice : goal.returns-clause-read_twice
unfolding words
returns-clause-read_twice c = refl

pub returns-clause-read_of_another : goal.returns-clause-read_of_another
unfolding words
returns-clause-read_of_another c = refl

pub returns-clause-read_of_another_past_the_end : goal.returns-clause-read_of_another_past_the_end
unfolding words
returns-clause-read_of_another_past_the_end c = refl

pub returns-clause-write : goal.returns-clause-write
unfolding words
returns-clause-write c = refl

pub returns-clause-write_to_another : goal.returns-clause-write_to_another
unfolding words
returns-clause-write_to_another c = refl

pub returns-clause-write_to_another_past_the_end : goal.returns-clause-write_to_another_past_the_end
unfolding words
returns-clause-write_to_another_past_the_end c = refl

pub returns-clause-exit : goal.returns-clause-exit
unfolding words
returns-clause-exit c = refl

pub returns-clause-abort : goal.returns-clause-abort
unfolding words
returns-clause-abort c = refl

pub returns-clause-unreachable : goal.returns-clause-unreachable
unfolding words
returns-clause-unreachable c = refl
