use Rattle.ms_machine.proofs.Placing.{func_found}
use Rattle.ms_machine.proofs.places.find_func.Goals as goal

pub returns-in-Ok-clause-found : goal.returns-in-Ok-clause-found
returns-in-Ok-clause-found c =
    let l = c.loop-index in
    func_found c.args.funcs.now l.index l.left c.args.number c.index-funcs-index.result c.as_slice.result.now c.in-Ok.part.block c.in-Ok.part.inst c.loop-index-test.true c.index-funcs-index.is l.invariant
    c.as_slice.ensures c.in-Ok.ensures.found
