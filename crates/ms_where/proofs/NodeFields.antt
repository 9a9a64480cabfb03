-- The first of some tokens that is spelled so.
use Rattle.std.proofs.Common.{◌≡◌, ℕ, suc, ◌+◌, ◌-◌, ◌<◌, ◌≤◌, true, false, Some, None, refl, arith}
use Rattle.std.specs.Str.{bytes_eq}
use Rattle.ms_lex.specs.Tokens.{Text}
use Rattle.ms_where_places.specs.Told.{Told, spelling_at}
use Rattle.ms_where.specs.Nodes.{first_spelled}

pub passed : (d : Told) (word : Text) (from to : ℕ) → from < to → bytes_eq (spelling_at d from) word ≡ false → first_spelled d word from to ≡ first_spelled d word (from + 1) to
unfolding first_spelled
passed d word from to l e = let count : to - from ≡ suc (to - (from + 1)) = omega arith in rw (count, e) refl

pub met : (d : Told) (word : Text) (from to : ℕ) → from < to → bytes_eq (spelling_at d from) word ≡ true → first_spelled d word from to ≡ Some from
unfolding first_spelled
met d word from to l e = let count : to - from ≡ suc (to - (from + 1)) = omega arith in rw (count, e) refl

pub ended : (d : Told) (word : Text) (from to : ℕ) → to ≤ from → first_spelled d word from to ≡ None
unfolding first_spelled
ended d word from to l = let count : to - from ≡ 0 = omega arith in rw count refl
