use Rattle.ms_runs.specs.Plain.{setting_of, plain_step, plain_start}
use Rattle.ms_runs.specs.Shadow.{shadow_step, shadow_start}
use Rattle.ms_runs_good_laws.proofs.RunsReached.{run_is}
use Rattle.ms_runs_good_laws.proofs.Sound.{plain_reached, shadow_reached, plain_bytes}
use Rattle.ms_runs_good_laws.proofs.runs.runs_stay_good.Goals as goal

pub returns-clause-plain_runs : goal.returns-clause-plain_runs
returns-clause-plain_runs c = plain_reached

pub returns-clause-shadow_runs : goal.returns-clause-shadow_runs
returns-clause-shadow_runs c = shadow_reached

pub returns-clause-plain_answers : goal.returns-clause-plain_answers
returns-clause-plain_answers c = λ m setup. run_is (λ s. s.world) (plain_step (setting_of m setup) m) setup.steps (plain_start m setup)

pub returns-clause-shadow_answers : goal.returns-clause-shadow_answers
returns-clause-shadow_answers c = λ d m setup. run_is (λ s. s.world) (shadow_step d (setting_of m setup) m) setup.steps (shadow_start m setup)

pub returns-clause-output : goal.returns-clause-output
returns-clause-output c = plain_bytes
