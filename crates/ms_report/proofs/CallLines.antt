-- Where no calls are told the texts are those without their lines; with them, once indented lines are taken out, the texts without
-- lines under sites are left.
use Rattle.std.proofs.Common.{◌≡◌, ◌∙◌, ◌+◌, ◌-◌, ◌++◌, ℕ, Bool, true, false, List, [], ◌∷◌, length, take, Option, Some, None, refl, sym, ap, subst, append-nil, codes}
use Rattle.std.specs.Prelude.{eqb, if◌then◌else◌, slice_get, decimal}
use Rattle.ms_ir.specs.declared.syntax.Module.{Module}
use Rattle.ms_runs.specs.declared.runs.Calls.{Calls}
use Rattle.ms_runs.specs.declared.runs.End.{End}
use Rattle.ms_runs.specs.declared.runs.End.TheVariants as ends
use Rattle.ms_runs.specs.declared.runs.Origin.{Origin}
use Rattle.ms_runs.specs.declared.runs.Report.{Report}
use Rattle.ms_runs.specs.declared.runs.RunResult.{RunResult}
use Rattle.ms_where_places.specs.Indented.{IsIndented, unindented}
use Rattle.ms_report.specs.RunTexts.{line, end_text, verdict_line}
use Rattle.ms_report.specs.ReportTexts.{report_line}
use Rattle.ms_report.specs.WithLines.{Lines, no_lines, under_line, end_site, origins_with, reports_with, closing_text_with}
use Rattle.ms_report.specs.CallTexts.{most_calls, called_line, started_line, called_with, further_line, started_with, calls_if, reports_calling, ended_with, closing_calling}
use Rattle.ms_report.proofs.Singles.{literal, joined, of_number, of_site}
use Rattle.ms_report.proofs.Indents.{Leaves, newline, line_after, nothing, whole, both, without, stays, goes, goes_under}
use Rattle.ms_report.proofs.Unindented.{report_stays, origins_leave, end_stays, reports_stay, blind_stays, verdict_leaves}
use Rattle.ms_report.proofs.WithoutLines.{none_under, origins_alone}

-- ---- no calls

pub none_called : (under : Lines) (m : Module) (index : ℕ) (rs : List Report) → reports_calling under m [] index rs ≡ reports_with under m (index + 1) rs
none_called under m index [] = refl
none_called under m index (r ∷ rs) =
    let line = report_line m (index + 1) r ++ under r.site in
    let origins = origins_with under m r.origin r.chain in
    ap (λ (t : List ℕ). t ++ origins ++ reports_calling under m [] (index + 1) rs) (append-nil line)
    ∙ ap (λ (t : List ℕ). line ++ origins ++ t) (none_called under m (index + 1) rs)

none_ended : (under : Lines) (m : Module) (e : End) → ended_with under m e None ≡ []
none_ended under m (ends.Exit n) = refl
none_ended under m (ends.Trap kind site) = refl
none_ended under m ends.Reported = refl
none_ended under m ends.Spent = refl

pub none_called_last : (under : Lines) (m : Module) (r : RunResult) (verdict : Bool) → closing_calling under m r None verdict ≡ closing_text_with under m r verdict
none_called_last under m r verdict =
    let first = line (codes "end") (end_text m r.«end») ++ under_line under (end_site r.«end») in
    ap (λ (t : List ℕ). t ++ line (codes "reports") (decimal (length r.reports)) ++ line (codes "blind") (decimal r.blind) ++ verdict_line verdict r)
    (ap (λ (calls : List ℕ). first ++ calls) (none_ended under m r.«end») ∙ append-nil first)

-- ---- with lines under sites

module _ (under : Lines) (all : (site : ℕ) → IsIndented (under site)) where
  one_leaves : (line : List ℕ) (site : ℕ) → Leaves line line → Leaves (line ++ under site) (line ++ no_lines site)
  one_leaves line site h = subst (Leaves (line ++ under site)) (sym (append-nil line)) (without h (goes (under site) (all site)))

  called_leave : (m : Module) (sites : List ℕ) → Leaves (called_with under m sites) (called_with no_lines m sites)
  called_leave m [] = nothing
  called_leave m (site ∷ rest) =
      both (one_leaves (called_line m site) site (stays (called_line m site) (line_after (joined (literal (codes "  called") refl) (of_site m site)) newline) refl)) (called_leave m rest)

  started_leaves : (m : Module) (site : ℕ) → Leaves (started_with under m site) (started_with no_lines m site)
  started_leaves m site = by_test (eqb site 0)
    where
      by_test : (b : Bool) → Leaves (if b then [] else started_line m site ++ under site) (if b then [] else started_line m site ++ no_lines site)
      by_test true = nothing
      by_test false = one_leaves (started_line m site) site (stays (started_line m site) (line_after (joined (literal (codes "  started") refl) (of_site m site)) newline) refl)

  further_stays : (count : ℕ) → Leaves (further_line count) (further_line count)
  further_stays count = by_test (eqb count 0)
    where
      by_test : (b : Bool) → Leaves (if b then [] else codes "  more calls: " ++ decimal count ++ codes "\n") (if b then [] else codes "  more calls: " ++ decimal count ++ codes "\n")
      by_test true = nothing
      by_test false =
          stays (codes "  more calls: " ++ decimal count ++ codes "\n") (line_after (joined (literal (codes "  more calls: ") refl) (of_number count)) newline) refl

  pub calls_leave : (m : Module) (calls : Option Calls) → Leaves (calls_if under m calls) (calls_if no_lines m calls)
  calls_leave m None = nothing
  calls_leave m (Some c) = both (both (called_leave m (take most_calls c.sites)) (further_stays (length c.sites - most_calls))) (started_leaves m c.started)

  origins_both : (m : Module) (n : ℕ) (os : List Origin) → Leaves (origins_with under m n os) (origins_with no_lines m n os)
  origins_both m n os = subst (Leaves (origins_with under m n os)) (sym (origins_alone m n os)) (origins_leave under all m n os)

  calling_leave : (m : Module) (calls : List Calls) (index : ℕ) (rs : List Report) → Leaves (reports_calling under m calls index rs) (reports_calling no_lines m calls index rs)
  calling_leave m calls index [] = nothing
  calling_leave m calls index (r ∷ rs) =
      both
      (both (both (one_leaves (report_line m (index + 1) r) r.site (report_stays under all m (index + 1) r)) (calls_leave m (slice_get calls index))) (origins_both m r.origin r.chain))
      (calling_leave m calls (index + 1) rs)

  pub calling_before : (m : Module) (calls : List Calls) (rs : List Report) (rest : List ℕ) → unindented (reports_calling under m calls 0 rs ++ rest) ≡ reports_calling no_lines m calls 0 rs ++ unindented rest
  calling_before m calls rs rest = (calling_leave m calls 0 rs).with rest

  pub calling_left : (m : Module) (calls : List Calls) (rs : List Report) → unindented (reports_calling under m calls 0 rs) ≡ reports_calling no_lines m calls 0 rs
  calling_left m calls rs = whole (reports_calling under m calls 0 rs) (reports_calling no_lines m calls 0 rs) (calling_leave m calls 0 rs)

  ended_leaves : (m : Module) (e : End) (calls : Option Calls) → Leaves (ended_with under m e calls) (ended_with no_lines m e calls)
  ended_leaves m (ends.Exit n) calls = nothing
  ended_leaves m (ends.Trap kind site) calls = calls_leave m calls
  ended_leaves m ends.Reported calls = nothing
  ended_leaves m ends.Spent calls = nothing

  end_leaves : (m : Module) (r : RunResult)
      → Leaves (line (codes "end") (end_text m r.«end») ++ under_line under (end_site r.«end»)) (line (codes "end") (end_text m r.«end») ++ under_line no_lines (end_site r.«end»))
  end_leaves m r =
      let first = line (codes "end") (end_text m r.«end») in
      subst (Leaves (first ++ under_line under (end_site r.«end»))) (sym (ap (λ (t : List ℕ). first ++ t) (none_under (end_site r.«end»)) ∙ append-nil first))
      (without (end_stays under all m r) (goes_under under (end_site r.«end») all))

  pub closing_leave : (m : Module) (r : RunResult) (calls : Option Calls) (verdict : Bool) → Leaves (closing_calling under m r calls verdict) (closing_calling no_lines m r calls verdict)
  closing_leave m r calls verdict =
      both (both (both (both (end_leaves m r) (ended_leaves m r.«end» calls)) (reports_stay under all (length r.reports))) (blind_stays under all r.blind)) (verdict_leaves under all verdict r)

  pub closing_calling_left : (m : Module) (r : RunResult) (calls : Option Calls) (verdict : Bool) → unindented (closing_calling under m r calls verdict) ≡ closing_calling no_lines m r calls verdict
  closing_calling_left m r calls verdict =
      whole (closing_calling under m r calls verdict) (closing_calling no_lines m r calls verdict) (closing_leave m r calls verdict)
