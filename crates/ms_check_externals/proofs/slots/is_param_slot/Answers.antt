use Rattle.ms_ir.specs.declared.calls.Slot.TheVariants.{ParamMasks}
use Rattle.ms_ir.specs.Signatures.{slot_global}
use Rattle.ms_check_valid.specs.ExternalsFit.{slot_eq}
use Rattle.ms_check_externals.proofs.SlotsOf.{or_then}
use Rattle.ms_check_externals.proofs.slots.is_param_slot.Goals as goal

pub returns-then-is_row_slot : goal.returns-then-is_row_slot
returns-then-is_row_slot c = or_then c.is_row_slot.result (slot_eq c.args.global.now (slot_global ParamMasks)) _ c.is_row_slot.ensures c.if-is_row_slot.true
