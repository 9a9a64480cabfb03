-- What each input of a list is run with.
use Rattle.std.specs.Prelude.{ℕ, List, [], unwrap_or, slice_get}
use Rattle.ms_runs.specs.declared.runs.Setup.{Setup}

-- a setup with an input in place of its own
abbrev pub with_input : Setup → List ℕ → Setup
with_input setup input = record setup { input = input }

-- the input with a number
abbrev pub input_of : List (List ℕ) → ℕ → List ℕ
input_of inputs k = unwrap_or (slice_get inputs k) []
