-- What is printed of the schedules that were tried, after the closing lines of the run that is told.
use Rattle.std.specs.Prelude.{ℕ, ◌/◌, ◌%◌, Bool, true, false, List, [], ◌∷◌, ◌++◌, codes, decimal}
use Rattle.ms_report.specs.ReportTexts.{hexadecimal}
use Rattle.ms_report.specs.RunTexts.{line}

-- bytes in two lower-case hexadecimal digits each
abbrev pub hex_text : List ℕ → List ℕ
hex_text [] = []
hex_text (b ∷ bytes) = hexadecimal (b / 16) ++ hexadecimal (b % 16) ++ hex_text bytes

-- whether these are all, at the end of the line
abbrev pub extent_text : (all : Bool) → List ℕ
extent_text true = codes ", all\n"
extent_text false = codes ", more\n"

abbrev pub tried_line : (tried : ℕ) → (all : Bool) → List ℕ
tried_line tried all = codes "schedules: " ++ decimal tried ++ extent_text all

-- the schedule of the run, where that isn't clean
abbrev pub schedule_line : (shown : Bool) → (schedule : List ℕ) → List ℕ
schedule_line false schedule = []
schedule_line true schedule = line (codes "schedule") (hex_text schedule)

-- how many schedules were tried, and how many different pairs of output and end their runs had
abbrev pub schedules_text : (tried : ℕ) → (all : Bool) → (outcomes : ℕ) → (shown : Bool) → (schedule : List ℕ) → List ℕ
schedules_text tried all outcomes shown schedule = tried_line tried all ++ line (codes "outcomes") (decimal outcomes) ++ schedule_line shown schedule
