use Rattle.std.proofs.Common.{arith}
use Rattle.ms_machine_frames.specs.Standing.{frames_of}
use Rattle.ms_machine.proofs.FramesDue.{as_many, frames_counted}
use Rattle.ms_machine.proofs.inspect.frames.Goals as goal

pub returns-then-below-clause-stand : goal.returns-then-below-clause-stand
returns-then-below-clause-stand c = λ m frames stand.
    let fiber = c.args.fiber.now in
    let same = as_many m (frames_of fiber) frames stand in
    let count = frames_counted fiber in
    let below = c.len-below.ensures in
    let few = c.if-below.true in
    omega (arith, same, count, below, few)

pub returns-else-below-clause-stand : goal.returns-else-below-clause-stand
returns-else-below-clause-stand c = λ m frames stand.
    let fiber = c.args.fiber.now in
    let same = as_many m (frames_of fiber) frames stand in
    let count = frames_counted fiber in
    let below = c.len-below.ensures in
    let many = c.if-below.false in
    omega (arith, same, count, below, many)
