use Rattle.std.proofs.Common.{refl}
use Rattle.ms_bits.specs.Conversions.{compare_of, cast_of, select_of, holds}
use Rattle.ms_bits.specs.Arithmetic.{binary_of, shl_of, or_of}
use Rattle.ms_bits.specs.Formulas.{select_mask, compare_mask, order_mask, least, greatest}
use Rattle.ms_bits.specs.Fill.{undef_word_of, number_of_bits, undef_bit, made_byte}
use Rattle.ms_runs.specs.Origins.{depth_limit}
use Rattle.ms_pass_tasks.specs.Tasks.{numeral}
use Rattle.ms_runs_examples.proofs.inserted.branches.Goals as goal

pub returns-clause-same_run : goal.returns-clause-same_run
unfolding depth_limit compare_of binary_of shl_of or_of cast_of numeral select_mask select_of compare_mask holds order_mask least greatest undef_word_of number_of_bits undef_bit made_byte
returns-clause-same_run c = refl

pub returns-clause-report : goal.returns-clause-report
unfolding depth_limit compare_of binary_of shl_of or_of cast_of numeral select_mask select_of compare_mask holds order_mask least greatest undef_word_of number_of_bits undef_bit made_byte
returns-clause-report c = refl
