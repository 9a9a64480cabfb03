-- The reports of a run that reports each use once (own).
use Rattle.std.specs.Prelude.{List, [], ◌∷◌, ◌++◌, if◌then◌else◌}
use Rattle.std.specs.List.{list_any}
use Rattle.ms_runs.specs.declared.runs.Report.{Report}
use Rattle.ms_runs.specs.Origins.{same_use}

-- some reports with one more, where none of them is of its use
abbrev pub with_new : List Report → Report → List Report
with_new told r = if list_any (same_use r) told then told else told ++ r ∷ []

abbrev pub firsts_after : List Report → List Report → List Report
firsts_after told [] = told
firsts_after told (r ∷ rest) = firsts_after (with_new told r) rest

-- of some reports the first of each use, in order
abbrev pub firsts : List Report → List Report
firsts reports = firsts_after [] reports
