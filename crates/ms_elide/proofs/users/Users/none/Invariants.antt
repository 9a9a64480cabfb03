use Rattle.std.proofs.Common.{◌≡◌, ℕ, [], map, vec_len, slice_index_or}
use Rattle.ms_elide.proofs.users.Users.none.Given as goal

abbrev pub invariant-loop : goal.invariant-loop
invariant-loop l = record {
  len : vec_len l.rows ≡ l.counter;
  empty : (item : ℕ) → slice_index_or (map (λ row. row.items) l.rows.items) item [] ≡ [];
}
