use Rattle.ms_check_types.proofs.Values.{values_are}
use Rattle.ms_check_types.proofs.locals.values_of.Goals as goal

pub returns : goal.returns
returns c =
    values_are c.args.func.now _ _ _ c.as_slice.result.now c.as_slice-2.result.now c.as_slice.ensures c.as_slice-2.ensures c.new-typed.ensures
    c.in_ok-push_params.ensures c.in_ok-push_blocks.ensures
