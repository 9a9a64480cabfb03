-- The setups that example modules run with, and what their runs answer.
use Rattle.std.specs.Prelude.{ℕ, List, [], ◌∷◌, false}
use Rattle.ms_bits.specs.declared.traps.Trap.{Trap}
use Rattle.ms_runs.specs.declared.runs.End.{End}
use Rattle.ms_runs.specs.declared.runs.End.TheVariants as «end»
use Rattle.ms_runs.specs.declared.runs.Origin.TheVariants as origin
use Rattle.ms_runs.specs.declared.runs.Report.{Report}
use Rattle.ms_runs.specs.declared.runs.RunResult.{RunResult}
use Rattle.ms_runs.specs.declared.runs.Setup.{Setup}

-- the setup where nothing is asked for: no input, the fill a5, ten million steps, and one report, which ends the run
abbrev pub defaults : Setup
defaults = record { input = []; fill = 0xa5 ∷ []; steps = 10000000; reports = 1; once = false }

-- the same setup with another fill
abbrev pub filled : List ℕ → Setup
filled bytes = record defaults { fill = bytes }

-- the same setup with the fill 1 2 3 4 5
abbrev pub one_to_five : Setup
one_to_five = filled (1 ∷ 2 ∷ 3 ∷ 4 ∷ 5 ∷ [])

-- the same setup with another input
abbrev pub fed : List ℕ → Setup
fed bytes = record defaults { input = bytes }

-- the same setup with another bound of steps
abbrev pub steps : ℕ → Setup
steps n = record defaults { steps = n }

-- a run that printed something and has no report
abbrev pub prints : List ℕ → End → RunResult
prints bytes e = record { output = bytes; «end» = e; reports = []; blind = 0 }

-- a run without output and report that returns from `main` or exits
abbrev pub exits : ℕ → RunResult
exits n = prints [] («end».Exit n)

-- a run without output and report that traps at a site
abbrev pub trapped : Trap → ℕ → RunResult
trapped kind site = prints [] («end».Trap kind site)

-- a run without output and report whose steps are spent
abbrev pub spent : RunResult
spent = prints [] «end».Spent

-- a run without output that ended at its first report
abbrev pub reported : Report → RunResult
reported r = record { output = []; «end» = «end».Reported; reports = r ∷ []; blind = 0 }

-- a report whose origin is a root
abbrev pub report : (site kind part mask width root : ℕ) → Report
report site kind part mask width root =
    record { site = site; kind = kind; part = part; width = width; mask = mask; origin = root; chain = origin.Root root ∷ [] }

-- a report whose origin is neither root nor pair
abbrev pub report_unknown : (site kind part mask width origin : ℕ) → Report
report_unknown site kind part mask width o =
    record { site = site; kind = kind; part = part; width = width; mask = mask; origin = o; chain = [] }

-- a run without output that returned 0 and counted blind uses
abbrev pub counted : ℕ → RunResult
counted n = record { output = []; «end» = «end».Exit 0; reports = []; blind = n }
