-- How reports are printed: a line for each report, and below it a line for each origin on the way to its root.
use Rattle.std.specs.Prelude.{ℕ, ◌+◌, false, List, [], ◌∷◌, ◌++◌, eqb, if◌then◌else◌, Option, Some, None, codes, decimal}
use Rattle.std.specs.Fmt.{digits}
use Rattle.ms_ir.specs.declared.syntax.Module.{Module}
use Rattle.ms_runs.specs.declared.runs.Origin.{Origin}
use Rattle.ms_runs.specs.declared.runs.Origin.TheVariants as origin
use Rattle.ms_ir.specs.declared.places.Root.{Root}
use Rattle.ms_ir.specs.declared.places.RootKind.{RootKind}
use Rattle.ms_ir.specs.declared.places.RootKind.TheVariants.{Alloca, Malloc, Realloc, Lifetime, Undef}
use Rattle.ms_runs.specs.declared.runs.Report.{Report}
use Rattle.ms_runs.specs.declared.runs.RunResult.{RunResult}
use Rattle.ms_ir.specs.Roots.{root_numbered}
use Rattle.ms_report.specs.RunTexts.{site_text}

-- in lower-case hexadecimal digits without leading zeros
abbrev pub hexadecimal : ℕ → List ℕ
hexadecimal n = digits 16 false n

-- the name of a kind of use
abbrev pub kind_text : ℕ → List ℕ
kind_text k =
    if eqb k 1 then codes "branch" else
    if eqb k 2 then codes "switch" else
    if eqb k 3 then codes "address" else
    if eqb k 4 then codes "divisor" else
    if eqb k 5 then codes "size" else
    if eqb k 6 then codes "pointer" else
    if eqb k 7 then codes "value" else
    if eqb k 8 then codes "exit" else
    if eqb k 9 then codes "output" else
    if eqb k 10 then codes "string" else
    if eqb k 11 then codes "first-bytes" else
    if eqb k 12 then codes "second-bytes" else
    codes "kind " ++ decimal k

abbrev pub root_name : RootKind → List ℕ
root_name Alloca = codes "alloca"
root_name Malloc = codes "malloc"
root_name Realloc = codes "realloc"
root_name Lifetime = codes "lifetime"
root_name Undef = codes "undef"

-- what made the bits of a root
abbrev pub root_text : Module → Option Root → List ℕ
root_text m None = codes "unknown"
root_text m (Some r) = root_name r.kind ++ site_text m r.site

-- what an origin is
abbrev pub origin_text : Module → Origin → List ℕ
origin_text m (origin.Root number) = root_text m (root_numbered m number)
origin_text m (origin.Chain old site) = codes "stored" ++ site_text m site

abbrev pub origin_line : ℕ → List ℕ → List ℕ
origin_line n text = codes "  origin " ++ decimal n ++ codes ": " ++ text ++ codes "\n"

-- the number of the origin after one with the number n
abbrev pub earlier : ℕ → Origin → ℕ
earlier n (origin.Root number) = n
earlier n (origin.Chain old site) = old

-- the lines of the origins from the number n on
abbrev pub chain_text : Module → ℕ → List Origin → List ℕ
chain_text m n [] = []
chain_text m n (o ∷ rest) = origin_line n (origin_text m o) ++ chain_text m (earlier n o) rest

-- the lines of an origin with its chain, which is empty where the number is no origin's
abbrev pub origins_text : Module → ℕ → List Origin → List ℕ
origins_text m n [] = origin_line n (codes "unknown")
origins_text m n (o ∷ rest) = chain_text m n (o ∷ rest)

-- which report it is, and where which kind of use stands
abbrev pub use_text : Module → ℕ → Report → List ℕ
use_text m number r = codes "report " ++ decimal number ++ codes ": " ++ kind_text r.kind ++ site_text m r.site

-- which bits are used
abbrev pub bits_text : Report → List ℕ
bits_text r = codes ", part " ++ decimal r.part ++ codes ", bits 0x" ++ hexadecimal r.mask ++ codes " of i" ++ decimal r.width

-- the line of the report with a number
abbrev pub report_line : Module → ℕ → Report → List ℕ
report_line m number r = use_text m number r ++ bits_text r ++ codes "\n"

-- the lines of reports, which are numbered from a number on
abbrev pub reports_text : Module → ℕ → List Report → List ℕ
reports_text m number [] = []
reports_text m number (r ∷ rest) = report_line m number r ++ origins_text m r.origin r.chain ++ reports_text m (number + 1) rest

-- the lines of a run's reports, counted from 1
abbrev pub report_text_of : Module → RunResult → List ℕ
report_text_of m r = reports_text m 1 r.reports
