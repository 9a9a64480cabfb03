use Rattle.ms_trail.proofs.Passing.{read_is, uses_checked}
use Rattle.ms_trail.proofs.laws.law_found_uses_end.Goals as goal

pub returns : goal.returns
returns c = record { read = read_is; checked = uses_checked }
