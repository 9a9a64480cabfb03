use Rattle.std.proofs.Common.{◌≡◌, ℕ, ◌<◌, true, false, get_or}
use Rattle.ms_flow.proofs.Answered.{Judged, IsRight}
use Rattle.ms_flow.proofs.dataflow.judge.Given as goal

abbrev pub invariant-loop-which : goal.invariant-loop-which
invariant-loop-which l = record {
  marked : (k : ℕ) → k < l.which-index → Judged l.uses l.values l.kills l.words l.undefined (get_or l.questions k (0, 0)).1;
  kept : (k : ℕ) → get_or l.initial.undefined k false ≡ true → get_or l.undefined k false ≡ true;
  right : (k : ℕ) → get_or l.undefined k false ≡ true → IsRight l.uses l.values l.kills l.words l.initial.undefined k;
}
