use Rattle.std.proofs.Common.{◌≡◌, ◌++◌, take}
use Rattle.ms_ir.specs.Locals.{results}
use Rattle.ms_check_flow.proofs.numbers.push_results.Given as goal

abbrev pub invariant-loop-inst : goal.invariant-loop-inst
invariant-loop-inst l = l.names ≡ l.fn.names ++ results (take l.inst-index l.insts)
