use Rattle.std.proofs.Common.{get_or, refl, arith}
use Rattle.ms_ir.specs.Instructions.{operands}
use Rattle.ms_trail_moves.specs.Sources.{sources}
use Rattle.ms_trail.proofs.Called.{params_none, params_more, params_all}
use Rattle.ms_trail.proofs.calls.tell_params.Goals as goal

pub loop-k-init : goal.loop-k-init
loop-k-init c =
    params_none c.args.stamp.event c.args.stamp.site c.args.number c.args.params.now c.args.masks.now (sources c.args.caller (operands c.args.row.inst.now.op) c.args.row.roots) c.args.log.now

pub tell_param-requires-clause-few : goal.tell_param-requires-clause-few
tell_param-requires-clause-few c = omega (arith, c.loop-k.invariant.count, c.requires.few, c.loop-k-test.true)

pub loop-k-preserved : goal.loop-k-preserved
loop-k-preserved c =
    params_more c.args.stamp.event c.args.stamp.site c.args.number c.args.params.now c.args.masks.now (sources c.args.caller (operands c.args.row.inst.now.op) c.args.row.roots) c.args.log.now c.loop-k.log c.tell_param.new.log c.loop-k.k
    c.loop-k-test.true c.index-params-k.result c.index-params-k.is (get_or c.args.masks.now c.loop-k.k 0) refl c.in_ok-tell_param.ensures.told c.tell_param.ensures.count c.loop-k.invariant

pub returns-clause-told : goal.returns-clause-told
returns-clause-told c =
    params_all c.args.stamp.event c.args.stamp.site c.args.number c.args.params.now c.args.masks.now (sources c.args.caller (operands c.args.row.inst.now.op) c.args.row.roots) c.args.log.now c.loop-k.log c.loop-k.k (omega (arith, c.loop-k-test.false)) c.loop-k.invariant
