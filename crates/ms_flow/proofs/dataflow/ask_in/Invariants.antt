use Rattle.std.proofs.Common.{◌≡◌, ℕ, ◌-◌, ◌<◌, ◌≤◌, ◌⊎◌, true, false, length, get_or}
use Rattle.ms_flow.specs.Search.{IsUndefined, use_at}
use Rattle.ms_flow.proofs.dataflow.ask_in.Given as goal

abbrev pub invariant-loop-from : goal.invariant-loop-from
invariant-loop-from l = record {
  within : l.from ≤ length l.questions;
  kills : length l.state.kills.items ≡ length l.g.next;
  words : length l.state.arriving.items ≡ length l.g.next;
  queued : length l.state.queued.items ≡ length l.g.next;
  marked : (k : ℕ) → k < l.from → IsUndefined l.g (use_at l.uses (get_or l.questions k (0, 0)).1) → get_or l.undefined (get_or l.questions k (0, 0)).1 false ≡ true;
  right : (k : ℕ) → get_or l.undefined k false ≡ true → (get_or l.initial.undefined k false ≡ true) ⊎ IsUndefined l.g (use_at l.uses k);
}

abbrev pub decreases-loop-from : goal.decreases-loop-from
decreases-loop-from l = length l.questions - l.from
