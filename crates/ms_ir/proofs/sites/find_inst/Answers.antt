use Rattle.std.proofs.Common.{◌≡◌, false, rules}
use Rattle.ms_ir.proofs.Searching.{inst_found}
use Rattle.ms_ir.proofs.sites.find_inst.Goals as goal

pub returns-then-left-eq0-clause-found : goal.returns-then-left-eq0-clause-found
returns-then-left-eq0-clause-found c =
    let l = c.loop-index in
    let unmarked : c.index-insts-index.result.marked ≡ false = search rules in
    inst_found c.args.insts.now l.index l.left c.args.number c.index-insts-index.result c.loop-index-test.true c.index-insts-index.is unmarked l.invariant.rest c.if-left-eq0.true
