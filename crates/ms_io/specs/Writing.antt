-- What a sink has written. It is `None` where an implementation doesn't tell it.
use Rattle.std.specs.Prelude.{◌≡◌, ℕ, List, take, ◌++◌, Option, option_map}

-- what is written with these bytes after it
abbrev pub with_appended : Option (List ℕ) → List ℕ → Option (List ℕ)
with_appended written bytes = option_map (λ before. before ++ bytes) written

-- the first bytes of these, none or some or all, stand after what was written before
abbrev pub AppendsPrefix : Option (List ℕ) → Option (List ℕ) → List ℕ → Type 0
AppendsPrefix before now bytes = (n : ℕ) × (now ≡ with_appended before (take n bytes))
