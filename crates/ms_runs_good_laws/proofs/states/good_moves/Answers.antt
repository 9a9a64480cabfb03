use Rattle.ms_runs.specs.Act.{plain_reading}
use Rattle.ms_runs.specs.Shadow.{shadow_reading}
use Rattle.ms_runs_good_laws.specs.GoodStates.{IsBelow, PoisonedBelow}
use Rattle.ms_runs_good_laws.proofs.Moves.{moves_good}
use Rattle.ms_runs_good_laws.proofs.Readings.{plain_unset, plain_read, shadow_unset, shadow_read}
use Rattle.ms_runs_good_laws.proofs.states.good_moves.Goals as goal

pub returns-clause-plain_runs : goal.returns-clause-plain_runs
returns-clause-plain_runs c = λ m formed valid setting frame below frames good inst due site words lift after effect fits.
    moves_good IsBelow plain_reading setting m formed valid frame below frames good plain_unset (plain_read setting frame.values) inst due site words lift after effect fits

pub returns-clause-shadow_runs : goal.returns-clause-shadow_runs
returns-clause-shadow_runs c = λ m formed valid setting frame below frames good inst due site words lift after effect fits.
    moves_good PoisonedBelow shadow_reading setting m formed valid frame below frames good shadow_unset (shadow_read setting frame.values) inst due site words lift after effect fits
