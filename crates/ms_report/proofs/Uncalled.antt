-- Where there are no lines under sites, the texts with calls are those without once the lines that tell of calls are taken out.
use Rattle.std.proofs.Common.{◌≡◌, ◌∙◌, ◌+◌, ◌-◌, ◌++◌, ℕ, Bool, true, false, List, [], ◌∷◌, length, take, Option, Some, None, refl, sym, ap, append-nil, append_assoc, if◌then◌else◌, eqb, codes}
use Rattle.std.specs.Prelude.{decimal, flat_map, slice_get}
use Rattle.ms_ir.specs.declared.syntax.Module.{Module}
use Rattle.ms_runs.specs.declared.runs.Calls.{Calls}
use Rattle.ms_runs.specs.declared.runs.End.{End}
use Rattle.ms_runs.specs.declared.runs.End.TheVariants as ends
use Rattle.ms_runs.specs.declared.runs.Origin.{Origin}
use Rattle.ms_runs.specs.declared.runs.Report.{Report}
use Rattle.ms_runs.specs.declared.runs.RunResult.{RunResult}
use Rattle.ms_runs.specs.Verdict.{verdict_of}
use Rattle.ms_trail_moves.specs.declared.moves.Source.{Source}
use Rattle.ms_trail_moves.specs.declared.moves.Move.{Move}
use Rattle.ms_trail_moves.specs.declared.moves.Hop.{Hop}
use Rattle.ms_report.specs.RunTexts.{line, end_text, verdict_text, verdict_line}
use Rattle.ms_report.specs.ReportTexts.{origin_line, origin_text, earlier, report_line}
use Rattle.ms_report.specs.SchedulesTexts.{extent_text, tried_line, schedule_line, schedules_text}
use Rattle.ms_report.specs.WithLines.{no_lines, under_line, origin_site, end_site, chain_with, origins_with, closing_text_with}
use Rattle.ms_report.specs.CallTexts.{most_calls, called_line, started_line, called_with, further_line, started_with, calls_if, reports_calling, ended_with, closing_calling}
use Rattle.ms_report.specs.TrailTexts.{move_line, hop_with, hops_with, use_line, trail_with, trail_calling}
use Rattle.ms_report.specs.Uncalled.{tells_call, unless_call, uncalled}
use Rattle.ms_report.proofs.Singles.{Single, literal, joined, of_number, of_hex, of_end, of_verdict, of_origin, of_use, of_bits, of_site}
use Rattle.ms_report.proofs.Indents.{IsLine, newline, line_after, first_cut}
use Rattle.ms_report.proofs.TrailLines.{of_move, of_way, of_source}

-- ---- what is left

-- in front of any text, this one becomes that one
pub record Lacks (text left : List ℕ) : Type 0 where
  pub with : (rest : List ℕ) → uncalled (text ++ rest) ≡ left ++ uncalled rest

pub nothing : Lacks [] []
nothing = record { with = λ rest. refl }

pub whole : (text left : List ℕ) → Lacks text left → uncalled text ≡ left
whole text left lacks = ap uncalled (sym (append-nil text)) ∙ lacks.with [] ∙ append-nil left

pub both : {a b x y : List ℕ} → Lacks a x → Lacks b y → Lacks (a ++ b) (x ++ y)
both {a = a} {b = b} {x = x} {y = y} first second = record {
  with = λ rest. ap uncalled (append_assoc a b rest) ∙ first.with (b ++ rest) ∙ ap (λ t. x ++ t) (second.with rest) ∙ sym (append_assoc x y (uncalled rest));
}

first_line : (line rest : List ℕ) → IsLine line → uncalled (line ++ rest) ≡ unless_call line ++ uncalled rest
first_line line rest is = ap (flat_map unless_call) (first_cut line rest is.ends)

-- another line stays, one of these goes
pub stays : (line : List ℕ) → IsLine line → tells_call line ≡ false → Lacks line line
stays line is other = record { with = λ rest. first_line line rest is ∙ ap (λ (t : Bool). (if t then [] else line) ++ uncalled rest) other }

goes : (line : List ℕ) → IsLine line → tells_call line ≡ true → Lacks line []
goes line is tells = record { with = λ rest. first_line line rest is ∙ ap (λ (t : Bool). (if t then [] else line) ++ uncalled rest) tells }

all_go : {a b : List ℕ} → Lacks a [] → Lacks b [] → Lacks (a ++ b) []
all_go {a = a} {b = b} first second = record { with = λ rest. ap uncalled (append_assoc a b rest) ∙ first.with (b ++ rest) ∙ second.with rest }

-- ---- calls

called_go : (m : Module) (sites : List ℕ) → Lacks (called_with no_lines m sites) []
called_go m [] = nothing
called_go m (site ∷ rest) =
    all_go (all_go (goes (called_line m site) (line_after (joined (literal (codes "  called") refl) (of_site m site)) newline) refl) nothing) (called_go m rest)

started_goes : (m : Module) (site : ℕ) → Lacks (started_with no_lines m site) []
started_goes m site = by_test (eqb site 0)
  where
    by_test : (b : Bool) → Lacks (if b then [] else started_line m site ++ no_lines site) []
    by_test true = nothing
    by_test false = all_go (goes (started_line m site) (line_after (joined (literal (codes "  started") refl) (of_site m site)) newline) refl) nothing

further_goes : (count : ℕ) → Lacks (further_line count) []
further_goes count = by_test (eqb count 0)
  where
    by_test : (b : Bool) → Lacks (if b then [] else codes "  more calls: " ++ decimal count ++ codes "\n") []
    by_test true = nothing
    by_test false = goes (codes "  more calls: " ++ decimal count ++ codes "\n") (line_after (joined (literal (codes "  more calls: ") refl) (of_number count)) newline) refl

calls_go : (m : Module) (calls : Option Calls) → Lacks (calls_if no_lines m calls) []
calls_go m None = nothing
calls_go m (Some c) = all_go (all_go (called_go m (take most_calls c.sites)) (further_goes (length c.sites - most_calls))) (started_goes m c.started)

-- ---- reports

-- no line is under a site
none_there : (site : Option ℕ) → Lacks (under_line no_lines site) (under_line no_lines site)
none_there None = nothing
none_there (Some site) = nothing

origin_stays : (n : ℕ) (text : List ℕ) → Single text → Lacks (origin_line n text) (origin_line n text)
origin_stays n text single =
    stays (origin_line n text) (line_after (joined (joined (joined (literal (codes "  origin ") refl) (of_number n)) (literal (codes ": ") refl)) single) newline) refl

chain_stays : (m : Module) (n : ℕ) (os : List Origin) → Lacks (chain_with no_lines m n os) (chain_with no_lines m n os)
chain_stays m n [] = nothing
chain_stays m n (o ∷ os) = both (both (origin_stays n (origin_text m o) (of_origin m o)) (none_there (origin_site m o))) (chain_stays m (earlier n o) os)

origins_stay : (m : Module) (n : ℕ) (os : List Origin) → Lacks (origins_with no_lines m n os) (origins_with no_lines m n os)
origins_stay m n [] = origin_stays n (codes "unknown") (literal _ refl)
origins_stay m n (o ∷ os) = chain_stays m n (o ∷ os)

report_stays : (m : Module) (n : ℕ) (r : Report) → Lacks (report_line m n r) (report_line m n r)
report_stays m n r = stays (report_line m n r) (line_after (joined (of_use m n r) (of_bits r)) newline) refl

-- a report has the same lines without calls
calling_lacks : (m : Module) (calls : List Calls) (index : ℕ) (rs : List Report) → Lacks (reports_calling no_lines m calls index rs) (reports_calling no_lines m [] index rs)
calling_lacks m calls index [] = nothing
calling_lacks m calls index (r ∷ rs) =
    both
    (both (both (both (report_stays m (index + 1) r) nothing) (calls_go m (slice_get calls index))) (origins_stay m r.origin r.chain))
    (calling_lacks m calls (index + 1) rs)

-- ---- closing lines, schedules and ways

value_line : (name value : List ℕ) → Single name → Single value → IsLine (line name value)
value_line name value named single = line_after (joined (joined named (literal (codes ": ") refl)) single) newline

verdict_stays : (verdict : Bool) (r : RunResult) → Lacks (verdict_line verdict r) (verdict_line verdict r)
verdict_stays false r = nothing
verdict_stays true r = stays (line (codes "verdict") (verdict_text (verdict_of r))) (value_line (codes "verdict") _ (literal _ refl) (of_verdict (verdict_of r))) refl

-- those that stand where a run ended
ended_go : (m : Module) (e : End) (calls : Option Calls) → Lacks (ended_with no_lines m e calls) []
ended_go m (ends.Exit n) calls = nothing
ended_go m (ends.Trap kind site) calls = calls_go m calls
ended_go m ends.Reported calls = nothing
ended_go m ends.Spent calls = nothing

-- with the text that goes after one
gone : {a b x : List ℕ} → Lacks a x → Lacks b [] → Lacks (a ++ b) x
gone {a = a} {b = b} {x = x} first second = record { with = λ rest. ap uncalled (append_assoc a b rest) ∙ first.with (b ++ rest) ∙ ap (λ t. x ++ t) (second.with rest) }

pub closing_lacks : (m : Module) (r : RunResult) (calls : Option Calls) (verdict : Bool) → Lacks (closing_calling no_lines m r calls verdict) (closing_text_with no_lines m r verdict)
closing_lacks m r calls verdict =
    both
    (both
    (both
    (gone (both (stays (line (codes "end") (end_text m r.«end»)) (value_line (codes "end") _ (literal _ refl) (of_end m r.«end»)) refl) (none_there (end_site r.«end»))) (ended_go m r.«end» calls))
    (stays (line (codes "reports") (decimal (length r.reports))) (value_line (codes "reports") _ (literal _ refl) (of_number (length r.reports))) refl))
    (stays (line (codes "blind") (decimal r.blind)) (value_line (codes "blind") _ (literal _ refl) (of_number r.blind)) refl))
    (verdict_stays verdict r)

extent_ends : (all_tried : Bool) → IsLine (extent_text all_tried)
extent_ends true = record { ends = refl }
extent_ends false = record { ends = refl }

schedule_stays : (shown : Bool) (schedule : List ℕ) → Lacks (schedule_line shown schedule) (schedule_line shown schedule)
schedule_stays false schedule = nothing
schedule_stays true schedule = stays (schedule_line true schedule) (value_line (codes "schedule") _ (literal _ refl) (of_hex schedule)) refl

pub schedules_stay : (tried : ℕ) (all_tried : Bool) (outcomes : ℕ) (shown : Bool) (schedule : List ℕ)
    → Lacks (schedules_text tried all_tried outcomes shown schedule) (schedules_text tried all_tried outcomes shown schedule)
schedules_stay tried all_tried outcomes shown schedule =
    both
    (both
    (stays (tried_line tried all_tried) (line_after (joined (literal (codes "schedules: ") refl) (of_number tried)) (extent_ends all_tried)) refl)
    (stays (line (codes "outcomes") (decimal outcomes)) (value_line (codes "outcomes") _ (literal _ refl) (of_number outcomes)) refl))
    (schedule_stays shown schedule)

hop_stays : (m : Module) (hop : Hop) (found : Option Move) → Lacks (hop_with no_lines m hop found) (hop_with no_lines m hop found)
hop_stays m hop None = nothing
hop_stays m hop (Some move) =
    both (stays (move_line m hop.index move hop.byte) (line_after (joined (of_move m hop.index move.site) (of_way move hop.byte)) newline) refl) nothing

hops_stay : (m : Module) (moves : List Move) (hops : List Hop) → Lacks (hops_with no_lines m moves hops) (hops_with no_lines m moves hops)
hops_stay m moves [] = nothing
hops_stay m moves (hop ∷ rest) = both (hop_stays m hop (slice_get moves hop.index)) (hops_stay m moves rest)

use_stays : (at : Source) → Lacks (use_line at) (use_line at)
use_stays at = stays (use_line at) (line_after (joined (literal (codes "  use: ") refl) (of_source at)) newline) refl

trail_lacks : (m : Module) (moves : List Move) (at : Source) (hops : List Hop) (calls : Option Calls) → Lacks (trail_calling no_lines m moves at hops calls) (trail_with no_lines m moves at hops)
trail_lacks m moves at [] calls = use_stays at
trail_lacks m moves at (hop ∷ rest) calls = both (both (gone (hop_stays m hop (slice_get moves hop.index)) (calls_go m calls)) (hops_stay m moves rest)) (use_stays at)

-- ---- whole texts

pub calling_before : (m : Module) (calls : List Calls) (rs : List Report) (rest : List ℕ) → uncalled (reports_calling no_lines m calls 0 rs ++ rest) ≡ reports_calling no_lines m [] 0 rs ++ uncalled rest
calling_before m calls rs rest = (calling_lacks m calls 0 rs).with rest

pub reports_left : (m : Module) (calls : List Calls) (rs : List Report) → uncalled (reports_calling no_lines m calls 0 rs) ≡ reports_calling no_lines m [] 0 rs
reports_left m calls rs = whole (reports_calling no_lines m calls 0 rs) (reports_calling no_lines m [] 0 rs) (calling_lacks m calls 0 rs)

pub closing_left : (m : Module) (r : RunResult) (calls : Option Calls) (verdict : Bool) → uncalled (closing_calling no_lines m r calls verdict) ≡ closing_text_with no_lines m r verdict
closing_left m r calls verdict = whole (closing_calling no_lines m r calls verdict) (closing_text_with no_lines m r verdict) (closing_lacks m r calls verdict)

pub trail_left : (m : Module) (moves : List Move) (at : Source) (hops : List Hop) (calls : Option Calls) → uncalled (trail_calling no_lines m moves at hops calls) ≡ trail_with no_lines m moves at hops
trail_left m moves at hops calls = whole (trail_calling no_lines m moves at hops calls) (trail_with no_lines m moves at hops) (trail_lacks m moves at hops calls)
