use Rattle.std.proofs.Common.{◌≡◌, ℕ, ◌<◌, ◌⊎◌, length, IsTrue, All, Contains}
use Rattle.ms_flow.specs.Search.{use_at}
use Rattle.ms_flow.proofs.questions.questions.Given as goal

abbrev pub invariant-loop-which : goal.invariant-loop-which
invariant-loop-which l = record {
  asked : (k : ℕ) → k < l.which → Contains l.questions.items ((use_at l.uses k).value, k)
      ⊎ (IsTrue (use_at l.uses k).after × Contains l.definitions ((use_at l.uses k).block, (use_at l.uses k).value));
  places : All (λ x. x.1 < length l.uses) l.questions.items;
  values : All (λ x. x.0 ≡ (use_at l.uses x.1).value) l.questions.items;
}
