-- The file of a scope, within so many scopes.
use Rattle.std.proofs.Common.{◌≡◌, ℕ, zero, suc, ◌+◌, ◌-◌, ◌<◌, ◌≤◌, true, false, Option, Some, None, refl, arith}
use Rattle.std.specs.Prelude.{option_and_then, codes}
use Rattle.std.specs.Option.{is_some}
use Rattle.std.specs.List.{find}
use Rattle.ms_where_places.specs.declared.marks.Mark.{Mark}
use Rattle.ms_where_places.specs.Told.{Told}
use Rattle.ms_where.specs.Nodes.{field, node_in}
use Rattle.ms_where.specs.Positions.{along, file_of, most}

unfoldable pub file_within : Told → ℕ → Option Mark → Option Mark
file_within d n scope = option_and_then (node_in d (codes "file:")) (find (λ m. is_some (field d (codes "file:") m)) (along d (codes "scope:") n scope))

pub whole : (d : Told) (scope : Option Mark) → file_within d 64 scope ≡ file_of d scope
unfolding file_within file_of most
whole d scope = refl

pub at_none : (d : Told) (n : ℕ) → file_within d n None ≡ None
unfolding file_within along
at_none d zero = refl
at_none d (suc n) = refl

pub at_end : (d : Told) (turn : ℕ) (scope : Option Mark) → 64 ≤ turn → file_within d (64 - turn) scope ≡ None
unfolding file_within along
at_end d turn scope l = let left : 64 - turn ≡ 0 = omega arith in rw left refl

pub has_file : (d : Told) (turn : ℕ) (m : Mark) → turn < 64 → is_some (field d (codes "file:") m) ≡ true → file_within d (64 - turn) (Some m) ≡ node_in d (codes "file:") m
unfolding file_within along
has_file d turn m l e = let left : 64 - turn ≡ suc (64 - (turn + 1)) = omega arith in rw (left, e) refl

pub goes_on : (d : Told) (turn : ℕ) (m : Mark) → turn < 64 → is_some (field d (codes "file:") m) ≡ false → file_within d (64 - turn) (Some m) ≡ file_within d (64 - (turn + 1)) (node_in d (codes "scope:") m)
unfolding file_within along
goes_on d turn m l e = let left : 64 - turn ≡ suc (64 - (turn + 1)) = omega arith in rw (left, e) refl
