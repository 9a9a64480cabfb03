use Rattle.std.proofs.Common.{arith}
use Rattle.ms_trail_moves.proofs.checks.none_writes.Goals as goal

pub returns : goal.returns
returns c = λ j other from within stands. c.loop-number.invariant j other from (omega (arith, within, c.loop-number-test.false)) stands
