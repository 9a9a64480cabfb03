-- How calls are printed that stand at a report, or where a run ended: a line for each, the innermost first.
use Rattle.std.specs.Prelude.{ℕ, ◌+◌, ◌-◌, Bool, List, [], ◌∷◌, ◌++◌, length, take, eqb, if◌then◌else◌, slice_get, Option, Some, None, codes, decimal}
use Rattle.ms_ir.specs.declared.syntax.Module.{Module}
use Rattle.ms_runs.specs.declared.runs.Calls.{Calls}
use Rattle.ms_runs.specs.declared.runs.End.{End}
use Rattle.ms_runs.specs.declared.runs.End.TheVariants.{Trap}
use Rattle.ms_runs.specs.declared.runs.Report.{Report}
use Rattle.ms_runs.specs.declared.runs.RunResult.{RunResult}
use Rattle.ms_report.specs.RunTexts.{line, site_text, end_text, verdict_line}
use Rattle.ms_report.specs.ReportTexts.{report_line}
use Rattle.ms_report.specs.WithLines.{Lines, under_line, end_site, origins_with}

-- at most so many calls are printed
abbrev pub most_calls : ℕ
most_calls = 64

abbrev pub called_line : Module → ℕ → List ℕ
called_line m site = codes "  called" ++ site_text m site ++ codes "\n"

abbrev pub started_line : Module → ℕ → List ℕ
started_line m site = codes "  started" ++ site_text m site ++ codes "\n"

-- the lines of calls at these sites
abbrev pub called_with : Lines → Module → List ℕ → List ℕ
called_with under m [] = []
called_with under m (site ∷ rest) = called_line m site ++ under site ++ called_with under m rest

-- how many more there are, where there are more
abbrev pub further_line : ℕ → List ℕ
further_line count = if eqb count 0 then [] else codes "  more calls: " ++ decimal count ++ codes "\n"

-- the line of the call that made the thread; that of `main` was made by none
abbrev pub started_with : Lines → Module → ℕ → List ℕ
started_with under m site = if eqb site 0 then [] else started_line m site ++ under site

-- the lines of calls
abbrev pub calls_with : Lines → Module → Calls → List ℕ
calls_with under m calls =
    called_with under m (take most_calls calls.sites) ++ further_line (length calls.sites - most_calls) ++ started_with under m calls.started

-- those of calls that are told, if they are
abbrev pub calls_if : Lines → Module → Option Calls → List ℕ
calls_if under m None = []
calls_if under m (Some calls) = calls_with under m calls

-- the lines of reports from the one with an index on, which counts from 0 as their calls do, each with the lines of its calls
abbrev pub reports_calling : Lines → Module → List Calls → ℕ → List Report → List ℕ
reports_calling under m calls index [] = []
reports_calling under m calls index (r ∷ rest) =
    report_line m (index + 1) r ++ under r.site ++ calls_if under m (slice_get calls index) ++ origins_with under m r.origin r.chain
    ++ reports_calling under m calls (index + 1) rest

-- those of the calls that stand where a run ended, if it trapped
abbrev pub ended_with : Lines → Module → End → Option Calls → List ℕ
ended_with under m (Trap kind site) calls = calls_if under m calls
ended_with under m other calls = []

-- the closing lines, with those of these calls below the line of how the run ended
abbrev pub closing_calling : Lines → Module → RunResult → Option Calls → Bool → List ℕ
closing_calling under m r calls verdict =
    line (codes "end") (end_text m r.«end») ++ under_line under (end_site r.«end») ++ ended_with under m r.«end» calls
    ++ line (codes "reports") (decimal (length r.reports)) ++ line (codes "blind") (decimal r.blind) ++ verdict_line verdict r
