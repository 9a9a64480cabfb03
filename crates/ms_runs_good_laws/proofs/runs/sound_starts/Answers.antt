use Rattle.ms_runs_good_laws.proofs.Sound.{plain_sound, shadow_sound}
use Rattle.ms_runs_good_laws.proofs.runs.sound_starts.Goals as goal

pub returns-clause-plain_runs : goal.returns-clause-plain_runs
returns-clause-plain_runs c = plain_sound

pub returns-clause-shadow_runs : goal.returns-clause-shadow_runs
returns-clause-shadow_runs c = shadow_sound
