use Rattle.std.proofs.Common.{drop}
use Rattle.ms_ir.specs.Locals.{results}
use Rattle.ms_machine.proofs.Naming.{Passed}
use Rattle.ms_machine.proofs.names.seek_result.Given as goal

abbrev pub invariant-loop-inst : goal.invariant-loop-inst
invariant-loop-inst l = Passed (results l.insts) (results (drop l.inst-index l.insts)) l.name l.from l.passed
