use Rattle.std.proofs.Common.{arith}
use Rattle.ms_check_tables.specs.FirstPlace.{first_place}
use Rattle.ms_pass.proofs.InstWalk.{counts_next, counts_end, small_next}
use Rattle.ms_pass.proofs.counts.Counts.after_insts.Goals as goal

pub after_inst-counts-requires : goal.after_inst-counts-requires
after_inst-counts-requires c =
    small_next (first_place c.args.functions.now) c.loop-inst.counts _ c.args.insts.now c.loop-inst.inst-index c.inst-item.result c.loop-inst-test.true c.inst-item.is c.loop-inst.invariant c.requires

pub loop-inst-preserved : goal.loop-inst-preserved
loop-inst-preserved c =
    counts_next (first_place c.args.functions.now) c.loop-inst.counts c.after_inst-counts.result _ c.args.insts.now c.loop-inst.inst-index c.inst-item.result c.loop-inst-test.true c.inst-item.is
    c.after_inst-counts.ensures c.loop-inst.invariant

pub returns : goal.returns
returns c = counts_end (first_place c.args.functions.now) c.loop-inst.counts _ c.args.insts.now c.loop-inst.inst-index (omega arith) c.loop-inst.invariant
