use Rattle.std.proofs.Common.{◌≡◌, ◌++◌, map, take}
use Rattle.ms_ir.specs.Written.{targets}
use Rattle.ms_check_valid.specs.FlowGraph.{name_place}
use Rattle.ms_check_tables.proofs.targets.push_targets.Given as goal

abbrev pub invariant-loop-place : goal.invariant-loop-place
invariant-loop-place l = l.numbers.items ≡ l.fn.numbers.items ++ map (name_place l.blocks) (take l.place (targets l.op))
