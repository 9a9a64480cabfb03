use Rattle.ms_runs_fills_laws.proofs.Sure.{good_start}
use Rattle.ms_runs_fills_laws.proofs.Whole.{start_alike, steps_alike, steps_sound}
use Rattle.ms_runs_fills_laws.proofs.fills.low_steps.Goals as goal

pub returns-clause-starts : goal.returns-clause-starts
returns-clause-starts c = start_alike

pub returns-clause-steps : goal.returns-clause-steps
returns-clause-steps c = λ m formed valid calm setup fill one. steps_alike m formed valid calm setup fill one

pub returns-clause-good_starts : goal.returns-clause-good_starts
returns-clause-good_starts c = good_start

pub returns-clause-good_steps : goal.returns-clause-good_steps
returns-clause-good_steps c = λ m formed valid calm setup bytes. steps_sound m formed valid calm setup bytes
