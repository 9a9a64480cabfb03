use Rattle.ms_runs_fills_laws.proofs.Certain.{certain}
use Rattle.ms_runs_fills_laws.proofs.choices.masks_are_certain.Goals as goal

pub returns : goal.returns
returns c = λ m formed valid calm bare setup bytes n told fills are. certain m formed valid calm bare setup bytes n told fills are
