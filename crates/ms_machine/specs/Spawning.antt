-- Fibers that begin (own).
use Rattle.std.specs.Prelude.{◌≡◌, ℕ, true, [], ◌∷◌}
use Rattle.ms_ir.specs.declared.syntax.Module.{Module}
use Rattle.ms_runs.specs.World.{World}
use Rattle.ms_runs.specs.Control.{entered}
use Rattle.ms_runs.specs.Act.{plain_reading}
use Rattle.ms_machine_frames.specs.declared.fibers.Fiber.{Fiber}
use Rattle.ms_machine_frames.specs.Owning.{is_spawned, Owns}
use Rattle.ms_machine_frames.specs.Standing.{frames_of}
use Rattle.ms_machine.specs.Running.{AllStandFor}

-- a fiber stands for the first frame of a function with an argument, in any world in which a fiber beside `main`'s has the turn
abbrev pub SpawnedFor : Module → (func argument : ℕ) → Fiber → Type 0
SpawnedFor m func argument fiber =
    (world : World) → is_spawned world ≡ true
    → AllStandFor m (frames_of fiber) (entered plain_reading m func (argument ∷ []) world ∷ [])
    × Owns fiber world (entered plain_reading m func (argument ∷ []) world ∷ [])
