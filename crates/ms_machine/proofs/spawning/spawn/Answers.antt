use Rattle.std.proofs.Common.{[], ◌∷◌}
use Rattle.ms_runs.specs.Control.{entered}
use Rattle.ms_runs.specs.Act.{plain_reading}
use Rattle.ms_machine_frames.specs.Crossing.{Spawned}
use Rattle.ms_machine_frames.specs.Standing.{frames_of}
use Rattle.ms_machine_steps.proofs.Spawning.{start_routine, spawned_stands, spawned_owns}
use Rattle.std.proofs.lemmas.Result.{IfOk-weaker}
use Rattle.ms_machine.specs.Spawning.{SpawnedFor}
use Rattle.ms_machine.proofs.Programs.{frames_from}
use Rattle.ms_machine.proofs.spawning.spawn.Goals as goal

pub spawn_fiber-requires : goal.spawn_fiber-requires
spawn_fiber-requires c = start_routine c.args.m.now c.program.result.now c.program.ensures c.args.func c.requires.start

pub returns : goal.returns
returns c =
    let m = c.args.m.now in
    let p = c.program.result.now in
    let f = c.args.func in
    let a = c.args.argument in
    record {
      spawned =
          IfOk-weaker c.spawn_fiber.result (Spawned p f a) (SpawnedFor m f a)
          (λ fiber s world turn. (
            frames_from m p c.program.ensures (frames_of fiber) (entered plain_reading m f (a ∷ []) world ∷ []) (spawned_stands m p c.program.ensures f c.requires.start a fiber s world turn),
            spawned_owns m p c.program.ensures f c.requires.start a fiber s world turn,
          )) c.spawn_fiber.ensures.spawned;
    }
