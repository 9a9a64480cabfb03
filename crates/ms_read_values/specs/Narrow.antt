-- Integer types of 1 to 64 bits, which are all that a text has.
use Rattle.std.specs.Prelude.{ℕ, ◌≤◌}

abbrev pub IsWidth : ℕ → Type 0
IsWidth width = (1 ≤ width) × (width ≤ 64)
