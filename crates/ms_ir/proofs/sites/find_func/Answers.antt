use Rattle.ms_ir.proofs.Searching.{func_found, funcs_passed}
use Rattle.ms_ir.proofs.sites.find_func.Goals as goal

pub returns-then-left-count-clause-found : goal.returns-then-left-count-clause-found
returns-then-left-count-clause-found c =
    let l = c.loop-index in
    func_found c.args.funcs.now l.index l.left c.args.number c.sites_of_blocks-count.result c.index-funcs-index.result c.as_slice.result.now c.loop-index-test.true c.index-funcs-index.is
    l.invariant.rest c.as_slice.ensures c.sites_of_blocks-count.ensures c.if-left-count.true

pub loop-index-preserved : goal.loop-index-preserved
loop-index-preserved c =
    let l = c.loop-index in
    let passed = funcs_passed c.args.funcs.now l.index l.left c.args.number c.sites_of_blocks-count.result c.index-funcs-index.result c.as_slice.result.now c.loop-index-test.true c.index-funcs-index.is
    c.requires.few l.invariant.rest l.invariant.below c.as_slice.ensures c.sites_of_blocks-count.ensures c.if-left-count.false in
    record { rest = passed.0; below = passed.1 }
