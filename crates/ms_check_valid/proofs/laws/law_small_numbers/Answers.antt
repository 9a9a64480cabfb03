use Rattle.ms_check_valid.proofs.SmallNumbers.{small_numbers}
use Rattle.ms_check_valid.proofs.laws.law_small_numbers.Goals as goal

pub returns : goal.returns
returns c = small_numbers
