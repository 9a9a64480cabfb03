-- How the places of blind uses are printed after the closing lines: a line for each, the first used first, and the lines under its site.
use Rattle.std.specs.Prelude.{ℕ, ◌-◌, List, [], ◌∷◌, ◌++◌, length, take, eqb, if◌then◌else◌, codes, decimal}
use Rattle.ms_ir.specs.declared.syntax.Module.{Module}
use Rattle.ms_runs.specs.declared.runs.BlindPlace.{BlindPlace}
use Rattle.ms_report.specs.RunTexts.{site_text}
use Rattle.ms_report.specs.WithLines.{Lines}

-- at most so many places are printed
abbrev pub most_places : ℕ
most_places = 20

abbrev pub times_text : ℕ → List ℕ
times_text count = if eqb count 1 then codes "once" else decimal count ++ codes " times"

abbrev pub blind_line : Module → BlindPlace → List ℕ
blind_line m p = codes "    blind" ++ site_text m p.site ++ codes ", " ++ times_text p.count ++ codes "\n"

-- the lines of these places
abbrev pub blind_with : Lines → Module → List BlindPlace → List ℕ
blind_with under m [] = []
blind_with under m (p ∷ ps) = blind_line m p ++ under p.site ++ blind_with under m ps

-- how many more there are, where there are more
abbrev pub more_line : ℕ → List ℕ
more_line count = codes "    more blind places: " ++ decimal count ++ codes "\n"

abbrev pub further_places : ℕ → List ℕ
further_places count = if eqb count 0 then [] else more_line count

-- the lines of places
abbrev pub places_with : Lines → Module → List BlindPlace → List ℕ
places_with under m ps = blind_with under m (take most_places ps) ++ further_places (length ps - most_places)
