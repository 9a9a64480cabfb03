-- The names that aren't defined, where those that are defined are given (own).
use Rattle.std.specs.Prelude.{ℕ, Bool, not, List, map, filter}
use Rattle.ms_ir.specs.declared.syntax.Name.{Name}
use Rattle.ms_ir.specs.Equal.{has_name}
use Rattle.ms_ir.specs.Locals.{Spelled}
use Rattle.ms_ir.specs.Written.{Mention, OfType, OfLocal, OfGlobal}
use Rattle.ms_check_valid.specs.NamesKnown.{spelled}

-- a name isn't among those of its kind
abbrev pub is_missing : (types symbols locals : List Name) → Mention → Bool
is_missing types symbols locals (OfType x) = not (has_name types x)
is_missing types symbols locals (OfLocal x) = not (has_name locals x)
is_missing types symbols locals (OfGlobal x) = not (has_name symbols x)

-- those of some names that a test takes, each with a site
abbrev pub missing_at : (Mention → Bool) → ℕ → List Mention → List (ℕ × Spelled)
missing_at missing site xs = map (λ x. (site, spelled x)) (filter missing xs)
