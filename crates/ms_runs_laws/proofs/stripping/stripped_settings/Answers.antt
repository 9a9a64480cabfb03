use Rattle.std.proofs.Common.{refl}
use Rattle.ms_runs_laws.proofs.Stripped.{addresses_kept, setting_kept, start_kept, frame_kept}
use Rattle.ms_runs_laws.proofs.stripping.stripped_settings.Goals as goal

pub returns-clause-types : goal.returns-clause-types
returns-clause-types c = λ m. refl

pub returns-clause-addresses : goal.returns-clause-addresses
returns-clause-addresses c = λ m i x. addresses_kept m x i

pub returns-clause-settings : goal.returns-clause-settings
returns-clause-settings c = setting_kept

pub returns-clause-worlds : goal.returns-clause-worlds
returns-clause-worlds c = start_kept

pub returns-clause-plain_frames : goal.returns-clause-plain_frames
returns-clause-plain_frames c = λ reading m. frame_kept reading m

pub returns-clause-shadow_frames : goal.returns-clause-shadow_frames
returns-clause-shadow_frames c = λ reading m. frame_kept reading m
