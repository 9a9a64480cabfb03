use Rattle.ms_check_valid.proofs.Refused.{invalid, decided}
use Rattle.ms_check_valid.proofs.laws.law_refusals.Goals as goal

pub returns-clause-invalid : goal.returns-clause-invalid
returns-clause-invalid c = invalid

pub returns-clause-either : goal.returns-clause-either
returns-clause-either c = decided
