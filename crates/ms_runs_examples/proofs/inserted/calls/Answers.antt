use Rattle.std.proofs.Common.{refl}
use Rattle.ms_bits.specs.Conversions.{cast_of}
use Rattle.ms_bits.specs.Arithmetic.{binary_of, or_of}
use Rattle.ms_bits.specs.Fill.{undef_word_of, number_of_bits, undef_bit, made_byte}
use Rattle.ms_bits.specs.Signed.{signed, wrap}
use Rattle.ms_runs.specs.Origins.{depth_limit}
use Rattle.ms_pass_tasks.specs.Tasks.{numeral}
use Rattle.ms_runs_examples.proofs.inserted.calls.Goals as goal

pub returns-clause-same_run : goal.returns-clause-same_run
unfolding depth_limit binary_of or_of cast_of numeral undef_word_of number_of_bits undef_bit made_byte signed wrap
returns-clause-same_run c = refl

pub returns-clause-report : goal.returns-clause-report
unfolding depth_limit binary_of or_of cast_of numeral undef_word_of number_of_bits undef_bit made_byte signed wrap
returns-clause-report c = refl
