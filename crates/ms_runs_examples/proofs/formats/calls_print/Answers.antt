use Rattle.std.proofs.Common.{refl}
use Rattle.std.specs.Fmt.{digits}
use Rattle.ms_bits.specs.Signed.{signed}
use Rattle.ms_bits.specs.Words.{words}
use Rattle.ms_runs_examples.proofs.formats.calls_print.Goals as goal

pub returns-clause-numbers_and_a_string : goal.returns-clause-numbers_and_a_string
unfolding words signed digits
returns-clause-numbers_and_a_string c = refl

pub returns-clause-zero_byte : goal.returns-clause-zero_byte
unfolding words digits
returns-clause-zero_byte c = refl

pub returns-clause-least_number : goal.returns-clause-least_number
unfolding words signed digits
returns-clause-least_number c = refl
