use Rattle.ms_machine.proofs.Placing.{func_is}
use Rattle.ms_machine.proofs.places.func_of.Goals as goal

pub returns : goal.returns
returns c =
    let place = c.place_at-place.result in
    func_is c.args.m.now c.as_slice-funcs.result.now c.args.number place.func place.block place.inst c.index-funcs-place.result c.as_slice-funcs.ensures c.index-funcs-place.is c.place_at-place.ensures
