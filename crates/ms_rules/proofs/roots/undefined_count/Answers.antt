use Rattle.std.proofs.Common.{arith}
use Rattle.ms_ir.specs.Instructions.{operands}
use Rattle.ms_rules.proofs.Operands.{undefs_none, undefs_more}
use Rattle.ms_rules.proofs.RootCounts.{one_at_most}
use Rattle.ms_rules.specs.Tracking.{operand_at}
use Rattle.ms_rules.proofs.roots.undefined_count.Goals as goal

pub loop-place-init : goal.loop-place-init
loop-place-init c = record { counted = undefs_none (operands c.args.op.now); few = omega arith }

pub loop-place-preserved : goal.loop-place-preserved
loop-place-preserved c =
    let kept = c.loop-place.invariant in
    let os = operands c.args.op.now in
    let place = c.loop-place.place in
    record {
      counted = undefs_more os place c.loop-place.count _ (omega arith) (omega (arith, c.undefined_at-count.ensures)) kept.counted;
      few = omega (arith, c.undefined_at-count.ensures, one_at_most (operand_at os place).1, kept.few);
    }
