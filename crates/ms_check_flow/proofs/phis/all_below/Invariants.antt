use Rattle.std.proofs.Common.{◌<◌, take, All}
use Rattle.ms_check_flow.proofs.phis.all_below.Given as goal

abbrev pub invariant-loop-number : goal.invariant-loop-number
invariant-loop-number l = All (λ n. n < l.len) (take l.number-index l.numbers)
