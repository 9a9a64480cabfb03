use Rattle.ms_check_types.specs.Bodies.{module_of, func_of}
use Rattle.ms_check_types.proofs.Calling.{call_case}
use Rattle.ms_check_types.proofs.instructions.op_fault.Goals as goal

pub returns-in-Call : goal.returns-in-Call
returns-in-Call c =
    call_case (module_of c.args.body.now) (func_of c.args.body.now) c.args.op.now c.in-Call.ret c.in-Call.callee c.in-Call.args c.as_slice-in-Call.result.now _
    c.in-Call.is c.as_slice-in-Call.ensures c.call_fault.ensures
