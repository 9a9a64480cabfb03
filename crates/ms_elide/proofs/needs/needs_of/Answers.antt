use Rattle.std.proofs.Common.{length, ap, arith}
use Rattle.ms_check_tables.specs.FirstPlace.{first_place}
use Rattle.ms_elide.proofs.Steps.{all_rows}
use Rattle.ms_elide.proofs.needs.needs_of.Goals as goal

pub returns : goal.returns
returns c =
    let size = ap length c.as_slice-block-items.ensures in
    all_rows c.args.func.now (first_place c.args.scope.now.locals.now) (first_place c.args.scope.now.functions.now) c.loop-block.block-index c.in_ok-needs.needs.items c.loop-block.needs.items
    (omega (arith, c.loop-block-test.false, size)) c.in_ok-needs.ensures c.loop-block.invariant
