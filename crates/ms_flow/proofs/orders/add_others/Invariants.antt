use Rattle.std.proofs.Common.{◌≡◌, ℕ, ◌<◌, true, false, get_or, All, Contains}
use Rattle.ms_flow.proofs.orders.add_others.Given as goal

abbrev pub invariant-loop-block : goal.invariant-loop-block
invariant-loop-block l = record {
  blocks : All (λ b. b < l.len) l.order.items;
  flags : (b : ℕ) → get_or l.stands.items b false ≡ true → Contains l.order.items b;
  all : (b : ℕ) → b < l.block → Contains l.order.items b;
}
