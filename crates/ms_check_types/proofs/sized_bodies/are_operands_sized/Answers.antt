use Rattle.std.proofs.Common.{sym, ◌∙◌, arith}
use Rattle.ms_ir.specs.Instructions.{operands}
use Rattle.ms_check_types.specs.SizedParts.{is_typed_sized}
use Rattle.ms_check_types.proofs.OneByOne.{all_on, all_stop, all_done}
use Rattle.ms_check_types.proofs.sized_bodies.are_operands_sized.Goals as goal

pub returns-then-not-is_operand_at_sized : goal.returns-then-not-is_operand_at_sized
returns-then-not-is_operand_at_sized c =
    all_stop (is_typed_sized c.args.extents.now) (operands c.args.op.now) c.loop-place.place _ (sym c.is_operand_at_sized.ensures ∙ c.if-not-is_operand_at_sized.true) c.loop-place.invariant

pub loop-place-preserved : goal.loop-place-preserved
loop-place-preserved c =
    all_on (is_typed_sized c.args.extents.now) (operands c.args.op.now) c.loop-place.place _ (sym c.is_operand_at_sized.ensures ∙ c.if-not-is_operand_at_sized.false) c.loop-place.invariant

pub returns : goal.returns
returns c = all_done (is_typed_sized c.args.extents.now) (operands c.args.op.now) c.loop-place.place _ (omega arith) c.loop-place.invariant
