use Rattle.ms_trail_uses.proofs.CodeUses.{code_reads}
use Rattle.ms_trail.proofs.laws.law_uses_are_found.Goals as goal

pub returns : goal.returns
returns c = λ fill xs ms at u values root world filled holds k inst bare e. code_reads fill xs ms at u values root world filled holds k inst bare e
