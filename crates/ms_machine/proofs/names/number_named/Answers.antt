use Rattle.ms_machine.proofs.Naming.{param_found, param_passed}
use Rattle.ms_machine.proofs.names.number_named.Goals as goal

pub returns-in-Ok : goal.returns-in-Ok
returns-in-Ok c = param_found c.args.func.now c.as_slice.result.now c.args.name.now c.in-Ok.number c.as_slice.ensures c.in-Ok.ensures

pub returns-in-Err : goal.returns-in-Err
returns-in-Err c =
    param_passed c.args.func.now c.as_slice.result.now c.as_slice-in-Err.result.now c.args.name.now c.in-Err.count c.seek_blocks.result c.as_slice.ensures c.as_slice-in-Err.ensures c.in-Err.ensures
    c.seek_blocks.ensures
