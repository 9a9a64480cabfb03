use Rattle.std.proofs.Common.{slice_index, arith}
use Rattle.ms_check_flow.proofs.Counts.{counted_later}
use Rattle.ms_check_flow.proofs.counting.take_off.Goals as goal

pub returns-then-due-place-eq0-clause-short : goal.returns-then-due-place-eq0-clause-short
returns-then-due-place-eq0-clause-short c =
    let xs = c.args.numbers.now in
    let i = c.loop-number.number-index in
    let less = counted_later xs i c.loop-number-test.true in
    let so_far = c.loop-number.invariant (slice_index xs i) in
    let none = c.if-due-place-eq0.true in
    λ e. (slice_index xs i, omega (arith, less, so_far, none))
