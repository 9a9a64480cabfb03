use Rattle.ms_ir.specs.Written.{targets}
use Rattle.ms_check_valid.specs.FlowGraph.{name_place}
use Rattle.ms_check_tables.proofs.Items.{mapped_next}
use Rattle.ms_check_tables.proofs.targets.push_targets.Goals as goal

pub loop-place-preserved : goal.loop-place-preserved
loop-place-preserved c =
    mapped_next (name_place c.args.blocks.now) (targets c.args.op.now) c.loop-place.place c.args.numbers.now.items c.loop-place.numbers.items c.push_target.new.numbers.items
    c.in_ok-push_target.ensures c.loop-place.invariant
