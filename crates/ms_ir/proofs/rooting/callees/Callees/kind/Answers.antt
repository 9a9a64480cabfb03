use Rattle.std.proofs.Common.{◌∙◌}
use Rattle.ms_ir.specs.Instructions.{func_index}
use Rattle.ms_ir.proofs.RootKinds.{called_as, called_as_none}
use Rattle.ms_ir.proofs.rooting.callees.Callees.kind.Goals as goal

pub returns-in-Some : goal.returns-in-Some
returns-in-Some c = c.kind_of.ensures ∙ called_as (func_index c.args.self.now.funcs.now) c.args.callee.now c.in-Some.external c.in-Some.ensures

pub returns-in-None : goal.returns-in-None
returns-in-None c = called_as_none (func_index c.args.self.now.funcs.now) c.args.callee.now c.in-None.ensures
