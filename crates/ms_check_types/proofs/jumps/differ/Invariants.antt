use Rattle.std.proofs.Common.{◌≡◌, ℕ, drop, true}
use Rattle.std.specs.Prelude.{nat_eq}
use Rattle.std.specs.List.{list_any}
use Rattle.std.specs.Ordering.{nat_cmp}
use Rattle.std.specs.BTreeSet.{contains}
use Rattle.ms_check_valid.specs.TypesAgree.{differ}
use Rattle.ms_check_types.proofs.jumps.differ.Given as goal

abbrev pub invariant-loop-place : goal.invariant-loop-place
invariant-loop-place l = record {
  different : differ (drop l.place l.cases) ≡ true;
  seen : (n : ℕ) → contains nat_cmp l.later n ≡ list_any (λ other. nat_eq other.0 n) (drop l.place l.cases);
}
