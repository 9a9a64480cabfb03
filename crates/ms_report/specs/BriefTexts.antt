-- How reports, traps, blind uses and refusals are printed in one line each, as compilers print errors: a place, and what is said of it
-- (own; the form is that of the GNU coding standards, "Formatting Error Messages").
use Rattle.std.specs.Prelude.{ℕ, ◌+◌, ◌-◌, List, [], ◌∷◌, ◌++◌, length, take, eqb, if◌then◌else◌, slice_get, Option, Some, None, codes, decimal}
use Rattle.ms_ir.specs.declared.syntax.Name.{Name}
use Rattle.ms_ir.specs.declared.syntax.Module.{Module}
use Rattle.ms_ir.specs.declared.places.Root.{Root}
use Rattle.ms_ir.specs.Roots.{root_numbered}
use Rattle.ms_runs.specs.declared.runs.Calls.{Calls}
use Rattle.ms_runs.specs.declared.runs.End.{End}
use Rattle.ms_runs.specs.declared.runs.End.TheVariants.{Trap}
use Rattle.ms_runs.specs.declared.runs.Origin.{Origin}
use Rattle.ms_runs.specs.declared.runs.Origin.TheVariants.{Root as Made, Chain}
use Rattle.ms_runs.specs.declared.runs.Report.{Report}
use Rattle.ms_text_grammar.specs.LayoutNames.{name_text}
use Rattle.ms_report.specs.declared.refusals.Refusal.{Refusal}
use Rattle.ms_report.specs.RunTexts.{function_of, trap_name}
use Rattle.ms_report.specs.ReportTexts.{hexadecimal, kind_text, root_name}
use Rattle.ms_report.specs.RefusalTexts.{refusal_text}
use Rattle.ms_report.specs.CallTexts.{most_calls}

-- what is shown of each site: its place, as `unset.c:5:7`, and the name of the variable that it makes, if it makes one
pub record Heads : Type 0 where
  pub place : ℕ → List ℕ
  pub variable : ℕ → Option (List ℕ)

-- ---- parts

abbrev pub name_or_mark : Option Name → List ℕ
name_or_mark None = codes "?"
name_or_mark (Some x) = name_text x

-- the name of the function that has a site
abbrev pub function_part : Module → ℕ → List ℕ
function_part m site = name_or_mark (function_of m site)

abbrev pub caller_parts : Module → List ℕ → List ℕ
caller_parts m [] = []
caller_parts m (site ∷ rest) = codes " < " ++ function_part m site ++ caller_parts m rest

abbrev pub further_part : ℕ → List ℕ
further_part count = if eqb count 0 then [] else codes " < " ++ decimal count ++ codes " more"

abbrev pub started_part : Module → ℕ → List ℕ
started_part m site = if eqb site 0 then [] else codes ", started in " ++ function_part m site

abbrev pub callers_part : Module → Option Calls → List ℕ
callers_part m None = []
callers_part m (Some calls) =
    caller_parts m (take most_calls calls.sites) ++ further_part (length calls.sites - most_calls) ++ started_part m calls.started

-- the function that has a site, and those that called it, if they are told: `[compare < sort < main]`
abbrev pub stack_text : Module → ℕ → Option Calls → List ℕ
stack_text m site calls = codes " [" ++ function_part m site ++ callers_part m calls ++ codes "]"

-- the root to which a way leads, if it leads to one
abbrev pub last_root : Module → List Origin → Option Root
last_root m [] = None
last_root m (Made number ∷ rest) = root_numbered m number
last_root m (Chain old site ∷ rest) = last_root m rest

-- the variable that a root makes, or else what made its bits
abbrev pub made_text : Option (List ℕ) → Root → List ℕ
made_text None r = root_name r.kind
made_text (Some x) r = codes "'" ++ x ++ codes "'"

-- `, of 'wanted' from unset.c:4:3`
abbrev pub root_part : Heads → Option Root → List ℕ
root_part heads None = []
root_part heads (Some r) = codes ", of " ++ made_text (heads.variable r.site) r ++ codes " from " ++ heads.place r.site

-- ---- lines

abbrev pub headed : (place text : List ℕ) → List ℕ
headed place text = place ++ codes ": " ++ text ++ codes "\n"

-- `unset.c:5:7: branch on uninitialised bits 0x1 of i1, of 'wanted' from unset.c:4:3 [main]`
abbrev pub brief_report : Heads → Module → Report → Option Calls → List ℕ
brief_report heads m r calls =
    headed (heads.place r.site)
    (kind_text r.kind ++ codes " on uninitialised bits 0x" ++ hexadecimal r.mask ++ codes " of i" ++ decimal r.width ++ root_part heads (last_root m r.chain)
    ++ stack_text m r.site calls)

-- of reports from the one with an index on, which counts from 0 as their calls do
abbrev pub brief_reports : Heads → Module → List Calls → ℕ → List Report → List ℕ
brief_reports heads m calls index [] = []
brief_reports heads m calls index (r ∷ rest) = brief_report heads m r (slice_get calls index) ++ brief_reports heads m calls (index + 1) rest

-- of how a run ended, where that has a place: `sum.c:9:14: trap overflow [sum < main]`
abbrev pub brief_end : Heads → Module → End → Option Calls → List ℕ
brief_end heads m (Trap kind site) calls = headed (heads.place site) (codes "trap " ++ trap_name kind ++ stack_text m site calls)
brief_end heads m other calls = []

-- of the blind uses at a site: `scale.c:3:12: blind uses: 4 [scale]`
abbrev pub brief_blind : Heads → Module → (site count : ℕ) → List ℕ
brief_blind heads m site count = headed (heads.place site) (codes "blind uses: " ++ decimal count ++ stack_text m site None)

-- of a refusal, whose own line is without a place
abbrev pub brief_refusal : (place : List ℕ) → Refusal → List ℕ
brief_refusal place cause = place ++ codes ": " ++ refusal_text cause
