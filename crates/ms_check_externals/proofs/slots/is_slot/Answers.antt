use Rattle.ms_check_externals.proofs.SlotsOf.{among_first, among_last}
use Rattle.ms_check_externals.proofs.slots.is_slot.Goals as goal

pub returns-then-is_param_slot : goal.returns-then-is_param_slot
returns-then-is_param_slot c = among_first c.args.global.now c.is_param_slot.result c.is_param_slot.ensures c.if-is_param_slot.true

pub returns-else-is_param_slot : goal.returns-else-is_param_slot
returns-else-is_param_slot c =
    among_last c.args.global.now c.is_param_slot.result c.is_retval_slot.result c.is_param_slot.ensures c.if-is_param_slot.false c.is_retval_slot.ensures
