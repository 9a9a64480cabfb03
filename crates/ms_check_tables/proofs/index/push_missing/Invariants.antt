use Rattle.std.proofs.Common.{◌≡◌, ℕ}
use Rattle.ms_check_tables.specs.Index.{place_from}
use Rattle.ms_check_tables.proofs.index.push_missing.Given as goal

abbrev pub invariant-loop : goal.invariant-loop
invariant-loop l = (first n : ℕ) → place_from first l.places.items n ≡ place_from first l.initial.places.items n
