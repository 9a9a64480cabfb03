use Rattle.ms_runs_fills_laws.proofs.Chosen.{shadow_holds_chosen, checked_holds_chosen}
use Rattle.ms_runs_fills_laws.proofs.choices.clean_under_choices.Goals as goal

pub returns-clause-shadow_runs : goal.returns-clause-shadow_runs
returns-clause-shadow_runs c = λ m formed valid calm bare setup bytes. shadow_holds_chosen m formed valid calm bare setup bytes

pub returns-clause-instrumented : goal.returns-clause-instrumented
returns-clause-instrumented c = λ m formed valid calm bare j faithful setup fair. checked_holds_chosen m formed valid calm bare j faithful setup fair
