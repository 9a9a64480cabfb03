-- What a list holds.
use Rattle.std.specs.Prelude.{ℕ, List, get_or}

-- what a list holds: 0 past its end
abbrev pub held : List ℕ → ℕ → ℕ
held xs k = get_or xs k 0
