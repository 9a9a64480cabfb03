-- A use that is reported, and one that is counted.
use Rattle.std.proofs.Common.{◌≡◌, ◌≢◌, ℕ, ◌+◌, ◌-◌, ◌/◌, ◌^◌, ◌<◌, ◌≤◌, Bool, true, false, true≢false, ◌&&◌, List, [], ◌∷◌, ◌++◌, length, min, sym, ap, ◌∙◌, subst, refl, arith, leb, ltb, if◌then◌else◌, Option, Some, None}
use Rattle.std.specs.List.{list_any}
use Rattle.std.proofs.lemmas.Bool.{ne_eqb, le-leb, lt-leb, lt-ltb}
use Rattle.ms_runs.specs.declared.runs.Report.{Report}
use Rattle.ms_runs.specs.declared.runs.RunResult.{RunResult}
use Rattle.ms_runs.specs.declared.runs.End.TheVariants as «end»
use Rattle.ms_runs.specs.World.{World, Setting, Effect, Does, Ends}
use Rattle.ms_runs.specs.Origins.{trail, same_use, is_hidden, add_report, check, check_byte, count_blind}
use Rattle.ms_depot.specs.Depots.{DepotState}
use Rattle.ms_host.specs.declared.calls.Answer.{Answer}
use Rattle.ms_host.specs.declared.calls.Answer.TheVariants.{Resumed, Ended}
use Rattle.ms_host.specs.State.{WorldState, Beside}
use Rattle.ms_host.specs.Shows.{Shows}
use Rattle.ms_host.specs.Poisonings.{IsFound}
use Rattle.ms_host.specs.declared.shadows.PoisonedByte.{PoisonedByte}
use Rattle.ms_host.specs.Answers.{Answered}
use Rattle.ms_runtime.specs.declared.reports.ReportLimit.{ReportLimit}
use Rattle.ms_runtime.specs.declared.reports.ReportedUse.{ReportedUse}
use Rattle.ms_runtime.specs.Served.{is_of, IsFor, IsBeside, Served}

-- ---- a report

check-is : (setting : Setting) (world : World) (report : Report) → report.mask ≢ 0 → report.chain ≡ trail setting world report.origin →
    check setting report.mask report.width report.origin report.kind report.part report.site world ≡ add_report setting report world
check-is setting world report some way =
    ap (λ (b : Bool). if b then Does world else add_report setting (record report { chain = trail setting world report.origin }) world) (ne_eqb report.mask 0 some)
    ∙ ap (λ (links : List _). add_report setting (record report { chain = links }) world) (sym way)

-- one report more
abbrev with_report : Report → World → World
with_report report world = record world { reports = world.reports ++ report ∷ [] }

shows-report : (w : WorldState) (beside : Beside) (world : World) (report : Report) (rs : List Report) → Shows w beside world → world.reports ++ report ∷ [] ≡ rs → Shows w (record beside { reports = rs }) (with_report report world)
shows-report w beside world report rs shows more = record {
  allocs = shows.allocs;
  bytes = shows.bytes;
  shadow = shows.shadow;
  origins = shows.origins;
  made = shows.made;
  input = shows.input;
  output = shows.output;
  pairs = shows.pairs;
  reports = more;
  blind = shows.blind;
  fibers = shows.fibers;
}

-- the test of the limit, of a use that isn't hidden
limit-is : (setting : Setting) (world : World) (report : Report) (rs : List Report) (limit : ℕ) (b : Bool) → is_hidden setting report world ≡ false → setting.limit ≡ limit → world.reports ++ report ∷ [] ≡ rs → leb limit (length rs) ≡ b →
    add_report setting report world ≡ (if b then Ends «end».Reported (with_report report world) else Does (with_report report world))
limit-is setting world report rs limit b shown same more test =
    ap (λ (h : Bool). if h then Does world else if leb setting.limit (length (world.reports ++ report ∷ [])) then Ends «end».Reported (with_report report world) else Does (with_report report world)) shown
    ∙ ap (λ (c : Bool). if c then Ends «end».Reported (with_report report world) else Does (with_report report world))
    (ap (λ (l : ℕ). leb l (length (world.reports ++ report ∷ []))) same ∙ ap (λ (all : List Report). leb limit (length all)) more ∙ test)

-- ---- a use that isn't reported again

module _ (setting : Setting) (world : World) (report : Report) (limit : ReportLimit) (same_limit : setting.limit ≡ limit.count) (same_once : setting.once ≡ limit.once) (rs : List Report) (same : world.reports ≡ rs) where
  -- what is hidden, by what is told
  hidden-by : is_hidden setting report world ≡ (ltb 1 limit.count && limit.once && list_any (same_use report) rs)
  hidden-by = λ i. ltb 1 (same_limit i) && same_once i && list_any (same_use report) (same i)

  some : (l : List Report) → list_any (same_use report) l ≡ true → 1 ≤ length l
  some [] e = absurd (true≢false (sym e))
  some (r ∷ l) e = omega arith

  both : (b o a : Bool) → (o && a) ≡ false → (b && o && a) ≡ false
  both true true a e = e
  both true false a e = refl
  both false o a e = refl

  parts : (b o a : Bool) → b ≡ true → (o && a) ≡ true → (b && o && a) ≡ true
  parts true o a f e = e
  parts false o a f e = absurd (true≢false (sym f))

  second : (o a : Bool) → (o && a) ≡ true → a ≡ true
  second true a e = e
  second false a e = absurd (true≢false (sym e))

  -- a limit that hides nothing
  shown-by : (limit.once && list_any (same_use report) rs) ≡ false → is_hidden setting report world ≡ false
  shown-by e = hidden-by ∙ both (ltb 1 limit.count) limit.once (list_any (same_use report) rs) e

  -- one that hides the use, before a run's end
  hidden-is : length rs < limit.count → (limit.once && list_any (same_use report) rs) ≡ true → is_hidden setting report world ≡ true
  hidden-is few e =
      hidden-by
      ∙ parts (ltb 1 limit.count) limit.once (list_any (same_use report) rs)
      (lt-ltb 1 limit.count (omega (arith, some rs (second limit.once (list_any (same_use report) rs) e), few))) e

-- the use of a report
abbrev told_of : Report → ReportedUse
told_of report = record { mask = report.mask; width = report.width; origin = report.origin; kind = report.kind; part = report.part; site = report.site }

pub hidden : (d : DepotState) (told : RunResult) (limit : ReportLimit) (setting : Setting) (beside : Beside) (w : WorldState) (world : World) (used : ReportedUse) →
    IsFor setting d.roots limit → IsBeside d told beside → Shows w beside world → used.mask ≢ 0 → length told.reports < limit.count → (limit.once && list_any (is_of used) told.reports) ≡ true →
    Served (check setting used.mask used.width used.origin used.kind used.part used.site world) (Resumed None) w d told
hidden d told limit setting beside w world used for kept shows some few any = (beside, (kept, subst (λ (e : Effect). Answered beside e (Resumed None) w) (sym does) shows))
  where
    report : Report
    report = record { site = used.site; kind = used.kind; part = used.part; width = used.width; mask = used.mask; origin = used.origin; chain = trail setting world used.origin }

    does : check setting used.mask used.width used.origin used.kind used.part used.site world ≡ Does world
    does =
        ap (λ (b : Bool). if b then Does world else add_report setting report world) (ne_eqb used.mask 0 some)
        ∙ ap (λ (b : Bool). if b then Does world else if leb setting.limit (length (world.reports ++ report ∷ [])) then Ends «end».Reported (with_report report world) else Does (with_report report world))
        (hidden-is setting world report limit for.same_limit for.same_once told.reports (shows.reports ∙ kept.reports) few any)

reported : (d : DepotState) (told : RunResult) (rs : List Report) (limit : ReportLimit) (setting : Setting) (beside : Beside) (w : WorldState) (world : World) (report : Report) (b : Bool) (answer : Answer) →
    IsFor setting d.roots limit → IsBeside d told beside → Shows w beside world → report.mask ≢ 0 → (limit.once && list_any (is_of (told_of report)) told.reports) ≡ false → report.chain ≡ trail setting world report.origin → rs ≡ told.reports ++ report ∷ [] → leb limit.count (length rs) ≡ b →
    (Shows w (record beside { reports = rs }) (with_report report world) → Answered (record beside { reports = rs }) (if b then Ends «end».Reported (with_report report world) else Does (with_report report world)) answer w) →
    Served (check setting report.mask report.width report.origin report.kind report.part report.site world) answer w d (record told { reports = rs })
reported d told rs limit setting beside w world report b answer for kept shows some fresh way is test followed = (
  record beside { reports = rs },
  (
    record { pairs = kept.pairs; reports = refl; blind = kept.blind },
    subst (λ (e : Effect). Answered (record beside { reports = rs }) e answer w)
        (sym (check-is setting world report some way ∙ limit-is setting world report rs limit.count b shown for.same_limit more test))
        (followed (shows-report w beside world report rs shows more)),
  ),
)
  where
    more : world.reports ++ report ∷ [] ≡ rs
    more = ap (λ (before : List Report). before ++ report ∷ []) (shows.reports ∙ kept.reports) ∙ sym is

    shown : is_hidden setting report world ≡ false
    shown = shown-by setting world report limit for.same_limit for.same_once told.reports (shows.reports ∙ kept.reports) fresh

-- the last one that the limit allows
pub reported-last : (d : DepotState) (told : RunResult) (rs : List Report) (limit : ReportLimit) (setting : Setting) (beside : Beside) (w : WorldState) (world : World) (report : Report) →
    IsFor setting d.roots limit → IsBeside d told beside → Shows w beside world → report.mask ≢ 0 → (limit.once && list_any (is_of (told_of report)) told.reports) ≡ false → report.chain ≡ trail setting world report.origin → rs ≡ told.reports ++ report ∷ [] → limit.count ≤ length rs →
    Served (check setting report.mask report.width report.origin report.kind report.part report.site world) (Ended «end».Reported) w d (record told { reports = rs })
reported-last d told rs limit setting beside w world report for kept shows some fresh way is full =
    reported d told rs limit setting beside w world report _ (Ended «end».Reported) for kept shows some fresh way is (le-leb limit.count (length rs) full) (λ after. (refl, after))

-- one after which the run goes on
pub reported-on : (d : DepotState) (told : RunResult) (rs : List Report) (limit : ReportLimit) (setting : Setting) (beside : Beside) (w : WorldState) (world : World) (report : Report) →
    IsFor setting d.roots limit → IsBeside d told beside → Shows w beside world → report.mask ≢ 0 → (limit.once && list_any (is_of (told_of report)) told.reports) ≡ false → report.chain ≡ trail setting world report.origin → rs ≡ told.reports ++ report ∷ [] → length rs < limit.count →
    Served (check setting report.mask report.width report.origin report.kind report.part report.site world) (Resumed None) w d (record told { reports = rs })
reported-on d told rs limit setting beside w world report for kept shows some fresh way is few =
    reported d told rs limit setting beside w world report _ (Resumed None) for kept shows some fresh way is (lt-leb limit.count (length rs) few) (λ after. after)

-- ---- a blind use

pub counted : (d : DepotState) (told : RunResult) (n : ℕ) (beside : Beside) (w : WorldState) (world : World) (mask : ℕ) → mask ≢ 0 → n ≡ min (told.blind + 1) (2 ^ 64 - 1) → IsBeside d told beside → Shows w beside world →
    Served (Does (count_blind mask world)) (Resumed None) w d (record told { blind = n })
counted d told n beside w world mask some is kept shows = (
  record beside { blind = beside.blind + 1 },
  (
    record { pairs = kept.pairs; reports = kept.reports; blind = omega (arith, is, kept.blind) },
    subst (λ (after : World). Shows w (record beside { blind = beside.blind + 1 }) after)
        (sym (ap (λ (b : Bool). if b then world else record world { blind = world.blind + 1 }) (ne_eqb mask 0 some)))
        (record {
          allocs = shows.allocs;
          bytes = shows.bytes;
          shadow = shows.shadow;
          origins = shows.origins;
          made = shows.made;
          input = shows.input;
          output = shows.output;
          pairs = shows.pairs;
          reports = shows.reports;
          blind = ap (λ (k : ℕ). k + 1) shows.blind;
          fibers = shows.fibers;
        }),
  ),
)

-- ---- a byte that was found

pub byte-found : (d : DepotState) (told : RunResult) (setting : Setting) (w : WorldState) (world : World) (start : ℕ) (at : Option ℕ) (kind site : ℕ) (answer : Answer) (byte : PoisonedByte) → IsFound world start at (Some byte) →
    Served (check setting byte.mask 8 byte.origin kind byte.part site world) answer w d told → Served (check_byte setting kind site start at world) answer w d told
byte-found d told setting w world start None kind site answer byte found served = absurd found
byte-found d told setting w world start (Some x) kind site answer byte found served =
    subst (λ (mask : ℕ). Served (check setting mask 8 (world.origins (x / 4)) kind (x - start) site world) answer w d told) found.1
    (subst (λ (origin : ℕ). Served (check setting byte.mask 8 origin kind (x - start) site world) answer w d told) found.2
    (subst (λ (part : ℕ). Served (check setting byte.mask 8 byte.origin kind part site world) answer w d told) found.0 served))
