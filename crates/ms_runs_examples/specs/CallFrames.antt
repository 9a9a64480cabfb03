-- Frames of `recursion` that stand at its call, and what that call comes to above so many of them.
use Rattle.std.specs.Prelude.{ℕ, zero, suc, List, [], ◌∷◌, None}
use Rattle.ms_runs.specs.World.{World, Enters}
use Rattle.ms_runs.specs.Control.{Frame, Outcome, after_effect}
use Rattle.ms_runs.specs.Act.{plain_reading}
use Rattle.ms_runs.specs.Plain.{setting_of, start_world}
use Rattle.ms_runs_examples.specs.Setups.{defaults}
use Rattle.ms_runs_examples.specs.Programs.{recursion}

-- a frame of the function of `recursion` that stands at its call
abbrev pub frame_at_call : Frame ℕ
frame_at_call = record { func = 0; block = 2; place = 1; values = λ x. 0; mark = 0x720000000000; heap = [] }

-- so many of these frames
abbrev pub frames_at_call : ℕ → List (Frame ℕ)
frames_at_call zero = []
frames_at_call (suc n) = frame_at_call ∷ frames_at_call n

-- the world in which `recursion` starts
abbrev pub recursion_world : World
recursion_world = start_world (recursion 1) defaults

-- what that call comes to where so many frames stand below its own
abbrev pub called_above : ℕ → Outcome ℕ
called_above n =
    after_effect plain_reading (setting_of (recursion 1) defaults) (recursion 1) 5 None [] (λ v world. v) (λ v world. world) frame_at_call (frames_at_call n)
    (Enters 0 recursion_world)
