use Rattle.std.proofs.Common.{OnOk}
use Rattle.ms_runs.specs.Origins.{copy_planes}
use Rattle.ms_host.specs.Shows.{Shows}
use Rattle.ms_runtime.proofs.OnMemory.{with3}
use Rattle.ms_runtime.proofs.memory.copy.Goals as goal

pub returns-clause-served : goal.returns-clause-served
returns-clause-served c = λ setting beside meant shows.
    with3 (λ to from n. OnOk c.copy_planes.result (Shows c.copy_planes.new.self beside (copy_planes to from n meant))) c.word-to.ensures c.word-from.ensures c.word-n.ensures (c.copy_planes.ensures.copied beside meant shows)
