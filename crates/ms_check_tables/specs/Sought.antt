-- The first of names that are sought (own).
use Rattle.std.specs.Prelude.{Bool, List, [], ◌∷◌, Option, Some, None, if◌then◌else◌}
use Rattle.ms_ir.specs.Written.{Mention}
use Rattle.ms_ir.specs.Locals.{Spelled}
use Rattle.ms_check_valid.specs.NamesKnown.{spelled}

-- the first that a test takes, as it is spelled
abbrev pub first_sought : (Mention → Bool) → List Mention → Option Spelled
first_sought sought [] = None
first_sought sought (x ∷ xs) = if sought x then Some (spelled x) else first_sought sought xs
