use Rattle.ms_check_valid.proofs.AtInstructions.{fits_at}
use Rattle.ms_check_valid.proofs.ByParts.{valid_by_parts, fits_outside}
use Rattle.ms_check_valid.proofs.laws.law_valid_parts.Goals as goal

pub returns : goal.returns
returns c = λ m. ((λ v. (fits_outside m v, fits_at m v)), (λ h. valid_by_parts m h.0 h.1))
