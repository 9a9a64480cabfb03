-- Counters of 64 bits, which stand still at their greatest number.
use Rattle.std.specs.Prelude.{ℕ, ◌+◌, ◌-◌, ◌^◌, ◌≤◌, min}

-- the greatest number that a counter shows
abbrev pub last_count : ℕ
last_count = 2 ^ 64 - 1

-- the counter is higher now by at least n, or stands at its greatest number
abbrev pub RoseBy : ℕ → ℕ → ℕ → Type 0
RoseBy n before now = min (before + n) last_count ≤ now

-- the counter is higher now, or stands at its greatest number
abbrev pub Rose : ℕ → ℕ → Type 0
Rose before now = RoseBy 1 before now
