use Rattle.std.proofs.Common.{arith}
use Rattle.ms_runtime.proofs.NotedCalls.{noting_none, noting_more, noting_all}
use Rattle.ms_runtime.proofs.runs.record_calls.Goals as goal

pub loop-alloc-init : goal.loop-alloc-init
loop-alloc-init c = noting_none c.args.m.now c.args.fiber.now c.args.started c.args.count c.args.recorded.now.items

pub loop-alloc-preserved : goal.loop-alloc-preserved
loop-alloc-preserved c =
    noting_more c.args.m.now c.args.fiber.now c.args.started c.args.count c.args.recorded.now.items c.loop-alloc.recorded.items c.loop-alloc.invariant (omega (arith, c.loop-alloc-test.true, c.len.ensures, c.loop-alloc.recorded.ok)) c.in_ok-sites.sites c.in_ok-sites.ensures c.push.new.self.items c.in_ok-push.ensures.items

pub returns : goal.returns
returns c = noting_all c.args.m.now c.args.fiber.now c.args.started c.args.count c.args.recorded.now.items c.loop-alloc.recorded.items c.loop-alloc.invariant (omega (arith, c.loop-alloc-test.false, c.len.ensures, c.loop-alloc.recorded.ok))
