use Rattle.std.proofs.Common.{◌≡◌, ◌<◌, length, vec_len, All}
use Rattle.ms_flow.proofs.orders.postorder.Given as goal

abbrev pub invariant-loop : goal.invariant-loop
invariant-loop l = record {
  len : vec_len l.entered ≡ length l.g.next;
  steps : All (λ s. s.block < length l.g.next) l.steps.items;
  done : All (λ b. b < length l.g.next) l.done.items;
}
