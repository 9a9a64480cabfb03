use Rattle.ms_check_types.proofs.Stepping.{leads_stop, leads_more}
use Rattle.ms_check_types.proofs.steps.leads_on.Goals as goal

pub returns-in-None : goal.returns-in-None
returns-in-None c =
    let l = c.loop-index_ty in
    leads_stop c.args.symbols.now.source.now.types c.args.indices.now l.index_ty-index c.loop-index_ty-item.result l.whole.now _
    c.loop-index_ty-test.true c.loop-index_ty-item.is c.in-None.ensures l.invariant

pub loop-index_ty-preserved : goal.loop-index_ty-preserved
loop-index_ty-preserved c =
    let l = c.loop-index_ty in
    leads_more c.args.symbols.now.source.now.types c.args.indices.now l.index_ty-index c.loop-index_ty-item.result l.whole.now c.in-Some.next.now _
    c.loop-index_ty-test.true c.loop-index_ty-item.is c.in-Some.ensures l.invariant
