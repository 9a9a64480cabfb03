-- The operands of an instruction, one by one.
use Rattle.std.specs.Prelude.{Bool, true, Option, Some, None}

-- a test holds of what stands at a place, if anything does
abbrev pub holds_at : {A : Type 0} → (A → Bool) → Option A → Bool
holds_at test None = true
holds_at test (Some a) = test a
