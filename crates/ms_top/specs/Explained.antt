-- What `explain` says of a run: its first report, and the way on which the bits of that report came.
use Rattle.std.specs.Prelude.{◌<◌, ◌^◌, Bool, true, false, List, [], ◌∷◌, ◌++◌, length, slice_get, Option, Some, None, option_map, eqb, ltb, ℕ, if◌then◌else◌, codes}
use Rattle.ms_ir.specs.declared.syntax.Module.{Module}
use Rattle.ms_runs.specs.declared.runs.Calls.{Calls}
use Rattle.ms_runs.specs.declared.runs.Setup.{Setup}
use Rattle.ms_runs.specs.Calls.{plain_end_calls}
use Rattle.ms_trail_moves.specs.declared.moves.Source.{Source}
use Rattle.ms_trail_moves.specs.declared.moves.Move.{Move}
use Rattle.ms_trail_moves.specs.declared.moves.Hop.{Hop}
use Rattle.ms_trail_moves.specs.Scanned.{Ascending, trail_of}
use Rattle.ms_trail_moves.specs.Traces.{trace}
use Rattle.ms_runtime.specs.declared.runs.ToldRun.{ToldRun}
use Rattle.ms_trail.specs.declared.found.Trace.{Trace}
use Rattle.ms_trail.specs.declared.found.Trace.TheVariants.{NoReport, TooLong, Found}
use Rattle.ms_trail.specs.Tracing.{limited}
use Rattle.ms_report.specs.TrailTexts.{trail_calling}
use Rattle.ms_report.specs.WithLines.{Lines}
use Rattle.ms_report.specs.CallTexts.{reports_calling}

-- ---- the text

-- the step in which the move of the first of these hops was made
abbrev pub first_event : List Move → List Hop → Option ℕ
first_event moves [] = None
first_event moves (hop ∷ rest) = option_map (λ (move : Move). move.event) (slice_get moves hop.index)

-- with at most so many steps
abbrev pub shortened : Setup → (steps : ℕ) → Setup
shortened s steps = record s { steps = if ltb steps s.steps then steps else s.steps }

-- the calls that stand before that step in the run of the module itself
abbrev pub calls_before : Module → Setup → Option ℕ → Option Calls
calls_before m s None = None
calls_before m s (Some event) = plain_end_calls m (shortened s event)

-- those at the root from which hops lead, where they are wanted
abbrev pub root_calls : (wanted : Bool) → Module → Setup → List Move → List Hop → Option Calls
root_calls false m s moves hops = None
root_calls true m s moves hops = calls_before m s (first_event moves hops)

-- the lines of a way to what a use reads, with those of the calls at its root where they are wanted; none where there is no way,
-- which no run comes to
abbrev pub way_with : Lines → (calls : Bool) → Module → Setup → List Move → Source → Option (List Hop) → List ℕ
way_with under calls m s moves at None = []
way_with under calls m s moves at (Some hops) = trail_calling under m moves at hops (root_calls calls m s moves hops)

abbrev pub too_long : List ℕ
too_long = codes "  trail: too long\n"

-- the lines of what following a run comes to
abbrev pub trace_with : Lines → (calls : Bool) → Module → Setup → Trace → List ℕ
trace_with under calls m s NoReport = []
trace_with under calls m s (TooLong moves) = too_long
trace_with under calls m s (Found moves at) = way_with under calls m s moves at (trail_of moves at)

-- what following the run of a module comes to
unfoldable pub followed : Module → Setup → Trace
followed m s = limited (trace m s)

abbrev pub no_report : List ℕ
no_report = codes "no report\n"

-- the lines of the report of a run with this setup, and of the way of its bits
abbrev pub explained_with : Lines → (calls : Bool) → Module → Setup → ToldRun → List ℕ
explained_with under calls m s t =
    if eqb (length t.result.reports) 0 then no_report else reports_calling under m t.calls 0 t.result.reports ++ trace_with under calls m s (followed m s)

-- ---- what is known of it

-- the moves of what following a run comes to are in the order of their steps, and 32 bits number them
abbrev pub CanLead : Trace → Type 0
CanLead NoReport = Unit {0}
CanLead (TooLong moves) = Unit {0}
CanLead (Found moves at) = Ascending moves × (length moves < 2 ^ 32)
