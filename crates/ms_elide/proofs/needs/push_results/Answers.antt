use Rattle.std.proofs.Common.{map}
use Rattle.std.proofs.lemmas.List.{map-append}
use Rattle.ms_check_tables.specs.FirstPlace.{first_place}
use Rattle.ms_elide.specs.Needed.{row_needs, result_row}
use Rattle.ms_elide.proofs.Steps.{one_result}
use Rattle.ms_elide.proofs.needs.push_results.Goals as goal

pub loop-inst-preserved : goal.loop-inst-preserved
loop-inst-preserved c =
    let to = row_needs (first_place c.args.scope.now.locals.now) (first_place c.args.scope.now.functions.now) in
    one_result result_row (map to) (map-append to) c.args.insts.now c.loop-inst.inst-index c.inst-item.result c.args.needs.now.items c.loop-inst.needs.items c.push_result.new.needs.items
    c.loop-inst-test.true c.inst-item.is c.in_ok-push_result.ensures c.loop-inst.invariant
