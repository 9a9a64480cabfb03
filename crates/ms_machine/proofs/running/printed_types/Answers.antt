use Rattle.ms_machine_frames.specs.Standing.{frames_of}
use Rattle.ms_machine.proofs.Programs.{frames_to, waiting_to}
use Rattle.ms_machine.proofs.running.printed_types.Goals as goal

pub printed_types-requires : goal.printed_types-requires
printed_types-requires c = waiting_to c.args.m.now c.program.result.now c.program.ensures c.args.fiber.now c.requires

pub returns : goal.returns
returns c = λ u frames call stand waits asks.
    let m = c.args.m.now in
    let p = c.program.result.now in
    c.printed_types.ensures m u frames call c.program.ensures (frames_to m p c.program.ensures (frames_of c.args.fiber.now) frames stand) waits asks
