-- Where the lines under each site are indented, the texts are those without once these are taken out.
use Rattle.std.proofs.Common.{◌≡◌, ◌+◌, ◌++◌, ℕ, Bool, true, false, List, [], ◌∷◌, Option, Some, None, refl, length, codes}
use Rattle.std.specs.Prelude.{decimal}
use Rattle.ms_lex.specs.declared.errors.LexError.{LexError}
use Rattle.ms_lex.specs.declared.errors.LexError.TheVariants as lex
use Rattle.ms_read_body.specs.declared.errors.ReadError.{ReadError}
use Rattle.ms_read_body.specs.declared.errors.ReadError.TheVariants as e
use Rattle.ms_ir.specs.declared.syntax.Module.{Module}
use Rattle.ms_runs.specs.declared.runs.Origin.{Origin}
use Rattle.ms_runs.specs.declared.runs.Report.{Report}
use Rattle.ms_runs.specs.declared.runs.RunResult.{RunResult}
use Rattle.ms_runs.specs.Verdict.{verdict_of}
use Rattle.ms_check_valid.specs.Refusals.{Fault, Duplicate, Unknown, TypeMismatch, BadPhi, NoMain, BadExternal, Undefined, BadMark, BadSize}
use Rattle.ms_check.specs.Faults.{fault_of}
use Rattle.ms_where_places.specs.Indented.{IsIndented, unindented}
use Rattle.ms_report.specs.declared.refusals.Refusal.{Refusal}
use Rattle.ms_report.specs.declared.refusals.Refusal.TheVariants.{Read, Check}
use Rattle.ms_report.specs.RunTexts.{line, end_text, verdict_text, verdict_line, closing_of}
use Rattle.ms_report.specs.ReportTexts.{origin_line, origin_text, earlier, chain_text, origins_text, report_line, reports_text}
use Rattle.ms_report.specs.FaultTexts.{refused_line, fault_text, fault_line}
use Rattle.ms_report.specs.RefusalTexts.{lexer_text, reader_text, refusal_text, threads_text}
use Rattle.ms_report.specs.SchedulesTexts.{extent_text, tried_line, schedule_line, schedules_text}
use Rattle.ms_report.specs.WithLines.{Lines, under_line, origin_site, end_site, refusal_site, chain_with, origins_with, reports_with, closing_text_with, refusal_text_with}
use Rattle.ms_report.proofs.Singles.{Single, literal, joined, of_number, of_hex, of_end, of_verdict, of_origin, of_use, of_bits, of_signed, of_place, of_path, of_cause, of_what, of_token}
use Rattle.ms_report.proofs.Indents.{IsLine, newline, line_after, Leaves, nothing, whole, both, without, stays, goes, goes_under}

module _ (under : Lines) (all : (site : ℕ) → IsIndented (under site)) where
  -- ---- reports

  origin_stays : (n : ℕ) (text : List ℕ) → Single text → Leaves (origin_line n text) (origin_line n text)
  origin_stays n text single =
      stays (origin_line n text) (line_after (joined (joined (joined (literal (codes "  origin ") refl) (of_number n)) (literal (codes ": ") refl)) single) newline) refl

  pub report_stays : (m : Module) (n : ℕ) (r : Report) → Leaves (report_line m n r) (report_line m n r)
  report_stays m n r = stays (report_line m n r) (line_after (joined (of_use m n r) (of_bits r)) newline) refl

  chain_leaves : (m : Module) (n : ℕ) (os : List Origin) → Leaves (chain_with under m n os) (chain_text m n os)
  chain_leaves m n [] = nothing
  chain_leaves m n (o ∷ os) =
      both (without (origin_stays n (origin_text m o) (of_origin m o)) (goes_under under (origin_site m o) all)) (chain_leaves m (earlier n o) os)

  pub origins_leave : (m : Module) (n : ℕ) (os : List Origin) → Leaves (origins_with under m n os) (origins_text m n os)
  origins_leave m n [] = origin_stays n (codes "unknown") (literal _ refl)
  origins_leave m n (o ∷ os) = chain_leaves m n (o ∷ os)

  reports_leave : (m : Module) (n : ℕ) (rs : List Report) → Leaves (reports_with under m n rs) (reports_text m n rs)
  reports_leave m n [] = nothing
  reports_leave m n (r ∷ rs) =
      both (both (without (report_stays m n r) (goes (under r.site) (all r.site))) (origins_leave m r.origin r.chain)) (reports_leave m (n + 1) rs)

  pub reports_left : (m : Module) (n : ℕ) (rs : List Report) → unindented (reports_with under m n rs) ≡ reports_text m n rs
  reports_left m n rs = whole (reports_with under m n rs) (reports_text m n rs) (reports_leave m n rs)

  -- ---- closing lines

  value_line : (name value : List ℕ) → Single name → Single value → IsLine (line name value)
  value_line name value named single = line_after (joined (joined named (literal (codes ": ") refl)) single) newline

  pub verdict_leaves : (verdict : Bool) (r : RunResult) → Leaves (verdict_line verdict r) (verdict_line verdict r)
  verdict_leaves false r = nothing
  verdict_leaves true r =
      stays (line (codes "verdict") (verdict_text (verdict_of r))) (value_line (codes "verdict") _ (literal _ refl) (of_verdict (verdict_of r))) refl

  pub end_stays : (m : Module) (r : RunResult) → Leaves (line (codes "end") (end_text m r.«end»)) (line (codes "end") (end_text m r.«end»))
  end_stays m r = stays (line (codes "end") (end_text m r.«end»)) (value_line (codes "end") _ (literal _ refl) (of_end m r.«end»)) refl

  pub reports_stay : (n : ℕ) → Leaves (line (codes "reports") (decimal n)) (line (codes "reports") (decimal n))
  reports_stay n = stays (line (codes "reports") (decimal n)) (value_line (codes "reports") _ (literal _ refl) (of_number n)) refl

  pub blind_stays : (n : ℕ) → Leaves (line (codes "blind") (decimal n)) (line (codes "blind") (decimal n))
  blind_stays n = stays (line (codes "blind") (decimal n)) (value_line (codes "blind") _ (literal _ refl) (of_number n)) refl

  closing_leaves : (m : Module) (r : RunResult) (verdict : Bool) → Leaves (closing_text_with under m r verdict) (closing_of m r verdict)
  closing_leaves m r verdict =
      both (both (both (without (end_stays m r) (goes_under under (end_site r.«end») all)) (reports_stay (length r.reports))) (blind_stays r.blind)) (verdict_leaves verdict r)

  pub closing_left : (m : Module) (r : RunResult) (verdict : Bool) → unindented (closing_text_with under m r verdict) ≡ closing_of m r verdict
  closing_left m r verdict = whole (closing_text_with under m r verdict) (closing_of m r verdict) (closing_leaves m r verdict)

  -- ---- schedules

  extent_ends : (all_tried : Bool) → IsLine (extent_text all_tried)
  extent_ends true = record { ends = refl }
  extent_ends false = record { ends = refl }

  tried_stays : (tried : ℕ) (all_tried : Bool) → Leaves (tried_line tried all_tried) (tried_line tried all_tried)
  tried_stays tried all_tried =
      stays (tried_line tried all_tried) (line_after (joined (literal (codes "schedules: ") refl) (of_number tried)) (extent_ends all_tried)) refl

  outcomes_stay : (n : ℕ) → Leaves (line (codes "outcomes") (decimal n)) (line (codes "outcomes") (decimal n))
  outcomes_stay n = stays (line (codes "outcomes") (decimal n)) (value_line (codes "outcomes") _ (literal _ refl) (of_number n)) refl

  schedule_stays : (shown : Bool) (schedule : List ℕ) → Leaves (schedule_line shown schedule) (schedule_line shown schedule)
  schedule_stays false schedule = nothing
  schedule_stays true schedule = stays (schedule_line true schedule) (value_line (codes "schedule") _ (literal _ refl) (of_hex schedule)) refl

  pub schedules_stay : (tried : ℕ) (all_tried : Bool) (outcomes : ℕ) (shown : Bool) (schedule : List ℕ)
      → Leaves (schedules_text tried all_tried outcomes shown schedule) (schedules_text tried all_tried outcomes shown schedule)
  schedules_stay tried all_tried outcomes shown schedule = both (both (tried_stays tried all_tried) (outcomes_stay outcomes)) (schedule_stays shown schedule)

  -- ---- refusals

  refused_stays : (number : ℕ) (text : List ℕ) → Single text → Leaves (refused_line number text) (refused_line number text)
  refused_stays number text single =
      stays (refused_line number text) (line_after (joined (joined (joined (literal (codes "refused ") refl) (of_number number)) (literal (codes ": ") refl)) single) newline) refl

  fault_stays : (f : Fault) → Leaves (fault_text f) (fault_text f)
  fault_stays (Duplicate x) = refused_stays 9 _ (joined (literal (codes "duplicate ") refl) (of_signed x))
  fault_stays (Unknown site x) = refused_stays 10 _ (joined (joined (literal (codes "unknown ") refl) (of_signed x)) (of_place site))
  fault_stays (TypeMismatch site operand) = refused_stays 11 _ (joined (joined (joined (literal (codes "type") refl) (of_place site)) (literal (codes ", operand ") refl)) (of_number operand))
  fault_stays (BadPhi site) = refused_stays 12 _ (joined (literal (codes "phi") refl) (of_place site))
  fault_stays NoMain = refused_stays 13 (codes "no main") (literal _ refl)
  fault_stays (BadExternal x) = refused_stays 14 _ (joined (literal (codes "external ") refl) (of_signed (record { global = true; name = x })))
  fault_stays (Undefined site path) = refused_stays 15 _ (joined (joined (joined (literal (codes "undefined") refl) (of_place site)) (literal (codes ", path") refl)) (of_path path))
  fault_stays (BadMark site) = refused_stays 16 _ (joined (literal (codes "mark") refl) (of_place site))
  fault_stays (BadSize x) = refused_stays 17 _ (joined (literal (codes "size of ") refl) (of_signed x))

  faults_stay : (f : Option Fault) → Leaves (fault_line f) (fault_line f)
  faults_stay None = nothing
  faults_stay (Some f) = fault_stays f

  lexer_stays : (cause : LexError) → Leaves (lexer_text cause) (lexer_text cause)
  lexer_stays (lex.BadByte place) = refused_stays 1 _ (joined (literal (codes "bad byte at ") refl) (of_number place))
  lexer_stays (lex.OpenString place) = refused_stays 2 _ (joined (literal (codes "open string at ") refl) (of_number place))
  lexer_stays lex.TooManyTokens = refused_stays 3 (codes "too many tokens") (literal _ refl)
  lexer_stays lex.NoMemory = nothing

  reader_stays : (cause : ReadError) → Leaves (reader_text cause) (reader_text cause)
  reader_stays (e.Lex cause) = lexer_stays cause
  reader_stays (e.Refused number w token place) = refused_stays number _ (joined (joined (of_cause number) (of_what w)) (of_token token place))
  reader_stays e.NoMemory = nothing

  refusal_stays : (cause : Refusal) → Leaves (refusal_text cause) (refusal_text cause)
  refusal_stays (Read cause) = reader_stays cause
  refusal_stays (Check cause) = faults_stay (fault_of cause)

  pub refusal_left : (cause : Refusal) → unindented (refusal_text_with under cause) ≡ refusal_text cause
  refusal_left cause =
      whole (refusal_text_with under cause) (refusal_text cause) (without (refusal_stays cause) (goes_under under (refusal_site cause) all))

  pub threads_left : unindented threads_text ≡ threads_text
  threads_left = whole threads_text threads_text (refused_stays 18 (codes "threads") (literal _ refl))

  -- ---- for texts in front of others, and for faults alone

  pub closing_before : (m : Module) (r : RunResult) (verdict : Bool) (tried : ℕ) (all_tried : Bool) (outcomes : ℕ) (shown : Bool) (schedule : List ℕ)
      → unindented (closing_text_with under m r verdict ++ schedules_text tried all_tried outcomes shown schedule)
      ≡ closing_of m r verdict ++ schedules_text tried all_tried outcomes shown schedule
  closing_before m r verdict tried all_tried outcomes shown schedule =
      let lines = schedules_text tried all_tried outcomes shown schedule in
      whole (closing_text_with under m r verdict ++ lines) (closing_of m r verdict ++ lines)
      (both (closing_leaves m r verdict) (schedules_stay tried all_tried outcomes shown schedule))

  pub reports_before : (m : Module) (n : ℕ) (rs : List Report) (rest : List ℕ) → unindented (reports_with under m n rs ++ rest) ≡ reports_text m n rs ++ unindented rest
  reports_before m n rs rest = (reports_leave m n rs).with rest

  pub fault_left : (f : Fault) (site : Option ℕ) → unindented (fault_text f ++ under_line under site) ≡ fault_text f
  fault_left f site = whole (fault_text f ++ under_line under site) (fault_text f) (without (fault_stays f) (goes_under under site all))
