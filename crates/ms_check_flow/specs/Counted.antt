-- How often a number stands in a list (own). What the crate promises does not name this file.
use Rattle.std.specs.Prelude.{ℕ, List, nat_eq, count_by}

abbrev pub count_of : ℕ → List ℕ → ℕ
count_of k numbers = count_by (λ n. nat_eq n k) numbers
