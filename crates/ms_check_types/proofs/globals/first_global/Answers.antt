use Rattle.ms_check_types.proofs.GlobalSizes.{global_after, global_here, no_global}
use Rattle.ms_check_types.proofs.globals.first_global.Goals as goal

pub returns-in-None : goal.returns-in-None
returns-in-None c =
    global_here c.args.extents.now c.loop-global.taken c.args.globals.now c.loop-global.global-index c.global-item.result _ c.loop-global-test.true c.global-item.is
    c.in-None.ensures.is c.loop-global.invariant.0

pub loop-global-preserved : goal.loop-global-preserved
loop-global-preserved c =
    let after = global_after c.args.extents.now c.loop-global.taken c.in-Some.after c.args.globals.now c.loop-global.global-index c.global-item.result _ c.loop-global-test.true c.global-item.is
    c.in-Some.ensures.is c.loop-global.invariant.0 in
    (after, c.in-Some.ensures.within)

pub returns : goal.returns
returns c = no_global c.args.extents.now c.loop-global.taken c.args.globals.now c.loop-global.global-index _ c.loop-global-test.false c.loop-global.invariant.0
