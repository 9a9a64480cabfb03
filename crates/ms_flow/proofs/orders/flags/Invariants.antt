use Rattle.std.proofs.Common.{◌≡◌, ℕ, true, false, get_or, take, vec_len, Contains}
use Rattle.ms_flow.proofs.orders.flags.Given as goal

abbrev pub invariant-loop-block : goal.invariant-loop-block
invariant-loop-block l = record {
  len : vec_len l.stands ≡ l.len;
  flags : (b : ℕ) → get_or l.stands.items b false ≡ true → Contains (take l.block-index l.order) b;
}
