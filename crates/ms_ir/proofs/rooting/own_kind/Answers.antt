use Rattle.ms_ir.specs.Instructions.{func_index}
use Rattle.ms_ir.proofs.RootKinds.{called_roots}
use Rattle.ms_ir.proofs.rooting.own_kind.Goals as goal

pub returns-in-Call : goal.returns-in-Call
returns-in-Call c = λ site. called_roots (func_index c.args.callees.now.funcs.now) site _ _ c.in-Call.callee _ _ c.in-Call.is c.kind.ensures
