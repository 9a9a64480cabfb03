use Rattle.ms_runs_fills_laws.proofs.Whole.{checked_holds}
use Rattle.ms_runs_fills_laws.proofs.fills.checked_runs.Goals as goal

pub returns : goal.returns
returns c = λ m formed valid calm bare j faithful setup fair. checked_holds m formed valid calm bare j faithful setup fair
