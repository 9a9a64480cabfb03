use Rattle.std.proofs.Common.{◌≡◌, ℕ, ◌<◌, ◌≤◌, true, length, List, Result, Ok, Err, sym, ◌∙◌, Contains}
use Rattle.std.specs.Result.{is_ok, IfOk, MatchResult}
use Rattle.std.specs.List.{HoldsAt}
use Rattle.std.specs.Ordering.{nat_cmp, ordering_then}
use Rattle.std.proofs.lemmas.Bool.{false≢true}
use Rattle.std.proofs.lemmas.Map.Lookups.{exact_pairs, exact_unsigned}
use Rattle.std.specs.declared.cmp.Ordering.TheVariants.{Equal}
use Rattle.ms_flow.proofs.definitions.has_definition.Goals as goal

found : (r : Result ℕ ℕ) (xs : List (ℕ × ℕ)) (block value : ℕ)
    → MatchResult r (λ i. i < length xs) (λ i. i ≤ length xs)
    → IfOk r (HoldsAt (λ y. ordering_then (nat_cmp y.0 block) (nat_cmp y.1 value) ≡ Equal) xs)
    → is_ok r ≡ true → Contains xs (block, value)
found (Ok k) xs block value below at answer = (k, below, exact_pairs nat_cmp nat_cmp exact_unsigned exact_unsigned _ _ (at (block, value)))
found (Err k) xs block value below at answer = absurd (false≢true answer)

pub returns : goal.returns
returns c answer =
    found c.binary_search.result c.args.definitions.now c.args.block c.args.value c.binary_search.ensures.bound c.binary_search.ensures.ok (sym c.is_ok.ensures.value ∙ answer)
