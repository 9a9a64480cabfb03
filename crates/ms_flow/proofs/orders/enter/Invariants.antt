use Rattle.std.proofs.Common.{◌<◌, length, All}
use Rattle.ms_flow.proofs.orders.enter.Given as goal

abbrev pub invariant-loop-next : goal.invariant-loop-next
invariant-loop-next l = All (λ s. s.block < length l.g.next) l.steps.items
