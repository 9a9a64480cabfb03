-- The same texts with more lines under each line that names a site.
use Rattle.std.specs.Prelude.{ℕ, ◌+◌, Bool, List, [], ◌∷◌, ◌++◌, length, Option, Some, None, option_map, codes, decimal}
use Rattle.std.specs.Option.{option_map_or}
use Rattle.ms_ir.specs.declared.syntax.Module.{Module}
use Rattle.ms_ir.specs.Roots.{root_numbered}
use Rattle.ms_runs.specs.declared.runs.End.{End}
use Rattle.ms_runs.specs.declared.runs.End.TheVariants.{Trap}
use Rattle.ms_runs.specs.declared.runs.Origin.{Origin}
use Rattle.ms_runs.specs.declared.runs.Origin.TheVariants.{Root, Chain}
use Rattle.ms_runs.specs.declared.runs.Report.{Report}
use Rattle.ms_runs.specs.declared.runs.RunResult.{RunResult}
use Rattle.ms_check_valid.specs.Refusals.{Fault, Unknown, TypeMismatch, BadPhi, Undefined, BadMark}
use Rattle.ms_check.specs.Faults.{fault_of}
use Rattle.ms_report.specs.declared.refusals.Refusal.{Refusal}
use Rattle.ms_report.specs.declared.refusals.Refusal.TheVariants.{Read, Check}
use Rattle.ms_report.specs.RunTexts.{line, end_text, verdict_line}
use Rattle.ms_report.specs.ReportTexts.{origin_line, origin_text, earlier, report_line}
use Rattle.ms_report.specs.RefusalTexts.{refusal_text}

-- the lines under each site
abbrev pub Lines : Type 0
Lines = ℕ → List ℕ

abbrev pub no_lines : Lines
no_lines site = []

-- the lines under a line that names this site, or none
abbrev pub under_line : Lines → Option ℕ → List ℕ
under_line under site = option_map_or under site []

-- ---- which site a line names

-- an origin: that of its root, where it has one, or that of the store
abbrev pub origin_site : Module → Origin → Option ℕ
origin_site m (Root number) = option_map (λ r. r.site) (root_numbered m number)
origin_site m (Chain old site) = Some site

-- how a run ended
abbrev pub end_site : End → Option ℕ
end_site (Trap kind site) = Some site
end_site other = None

-- why a module isn't valid
abbrev pub fault_site : Option Fault → Option ℕ
fault_site (Some (Unknown site name)) = Some site
fault_site (Some (TypeMismatch site operand)) = Some site
fault_site (Some (BadPhi site)) = Some site
fault_site (Some (Undefined site path)) = Some site
fault_site (Some (BadMark site)) = Some site
fault_site other = None

-- why a module is refused
abbrev pub refusal_site : Refusal → Option ℕ
refusal_site (Read cause) = None
refusal_site (Check cause) = fault_site (fault_of cause)

-- ---- the texts

-- the lines of the origins from the number n on
abbrev pub chain_with : Lines → Module → ℕ → List Origin → List ℕ
chain_with under m n [] = []
chain_with under m n (o ∷ rest) = origin_line n (origin_text m o) ++ under_line under (origin_site m o) ++ chain_with under m (earlier n o) rest

-- the lines of an origin with its chain, which is empty where the number is no origin's
abbrev pub origins_with : Lines → Module → ℕ → List Origin → List ℕ
origins_with under m n [] = origin_line n (codes "unknown")
origins_with under m n (o ∷ rest) = chain_with under m n (o ∷ rest)

-- the lines of reports, which are numbered from a number on
abbrev pub reports_with : Lines → Module → ℕ → List Report → List ℕ
reports_with under m number [] = []
reports_with under m number (r ∷ rest) =
    report_line m number r ++ under r.site ++ origins_with under m r.origin r.chain ++ reports_with under m (number + 1) rest

-- how the run ended, its number of reports and of blind uses, and where asked for its verdict
abbrev pub closing_text_with : Lines → Module → RunResult → Bool → List ℕ
closing_text_with under m r verdict =
    line (codes "end") (end_text m r.«end») ++ under_line under (end_site r.«end») ++ line (codes "reports") (decimal (length r.reports))
    ++ line (codes "blind") (decimal r.blind) ++ verdict_line verdict r

-- why a module is refused
abbrev pub refusal_text_with : Lines → Refusal → List ℕ
refusal_text_with under cause = refusal_text cause ++ under_line under (refusal_site cause)
