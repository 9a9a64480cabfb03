use Rattle.std.proofs.Common.{◌-◌}
use Rattle.std.specs.Prelude.{option_copied}
use Rattle.ms_where.proofs.Calls.{calls_within, at_none, at_end, ended, pushed}
use Rattle.ms_where.proofs.nodes.Debug.push_calls.Goals as goal

pub returns-in-None : goal.returns-in-None
returns-in-None c =
    ended c.loop.out.items (calls_within c.args.self.now (64 - c.loop.counter) (option_copied c.loop.call)) _
    (rw c.in-None.is (at_none c.args.self.now (64 - c.loop.counter))) c.loop.invariant

pub loop-preserved : goal.loop-preserved
loop-preserved c =
    pushed c.args.self.now c.loop.counter c.in-Some.node.now (option_copied c.node_in-call.result) c.loop.out.items c.push_line.new.out.items _
    c.loop-test.true (rw c.in-Some.is at c.loop.invariant) c.in_ok-push_line-in-Some.ensures c.node_in-call.ensures

pub returns : goal.returns
returns c =
    ended c.loop.out.items (calls_within c.args.self.now (64 - c.loop.counter) (option_copied c.loop.call)) _
    (at_end c.args.self.now c.loop.counter (option_copied c.loop.call) c.loop-test.false) c.loop.invariant
