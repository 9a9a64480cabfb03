-- The first and the last number that passes a test, among those below a number.
use Rattle.std.specs.Prelude.{ℕ, zero, suc, Bool, if◌then◌else◌, Option, Some, None}

-- one of two, where there is one: the first of them
abbrev pub either : {A : Type 0} → Option A → Option A → Option A
either None second = second
either (Some x) second = Some x

-- a number, where it passes
abbrev pub passing : (ℕ → Bool) → ℕ → Option ℕ
passing p n = if p n then Some n else None

abbrev pub first_below : (ℕ → Bool) → ℕ → Option ℕ
first_below p zero = None
first_below p (suc n) = either (first_below p n) (passing p n)

abbrev pub last_below : (ℕ → Bool) → ℕ → Option ℕ
last_below p zero = None
last_below p (suc n) = either (passing p n) (last_below p n)
