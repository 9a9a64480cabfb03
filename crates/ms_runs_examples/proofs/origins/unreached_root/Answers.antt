use Rattle.std.proofs.Common.{arith}
use Rattle.ms_runs_examples.proofs.origins.unreached_root.Goals as goal

pub returns : goal.returns
returns c = λ h. h.cells 0 (omega arith)
