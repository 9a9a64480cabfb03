-- What a call of a runtime function comes to, where chained origins, reports and blind uses are kept beside the world.
use Rattle.std.specs.Prelude.{◌≡◌, ◌<◌, ◌^◌, ◌-◌, ℕ, List, Bool, false, ◌&&◌, eqb, length, min, get_or, None, ◌≤◌, ◌+◌}
use Rattle.ms_ir.specs.declared.syntax.Ty.{Ptr}
use Rattle.ms_ir.specs.declared.calls.RuntimeFn.{RuntimeFn}
use Rattle.ms_ir.specs.declared.calls.RuntimeFn.TheVariants as function
use Rattle.ms_ir.specs.Layout.{width_of}
use Rattle.ms_ir.specs.Signatures.{runtime_signature, is_thread_call}
use Rattle.ms_runs.specs.declared.runs.Report.{Report}
use Rattle.ms_runs.specs.declared.runs.RunResult.{RunResult}
use Rattle.ms_runs.specs.declared.runs.Setup.{Setup}
use Rattle.ms_runs.specs.declared.runs.End.TheVariants.{Reported}
use Rattle.ms_runs.specs.World.{Setting, Effect}
use Rattle.ms_runs.specs.Threads.{no_fibers}
use Rattle.ms_depot.specs.Depots.{DepotState}
use Rattle.ms_host.specs.declared.calls.Asked.{Asked}
use Rattle.ms_host.specs.declared.calls.Asked.TheVariants as asked
use Rattle.ms_host.specs.declared.calls.Answer.{Answer}
use Rattle.ms_host.specs.declared.calls.Answer.TheVariants.{Resumed, Ended}
use Rattle.ms_host.specs.State.{WorldState, Beside}
use Rattle.ms_host.specs.Answers.{Answered}
use Rattle.ms_runtime.specs.declared.reports.ReportLimit.{ReportLimit}
use Rattle.ms_runtime.specs.declared.reports.ReportedUse.{ReportedUse}

-- what a setup says of reports
abbrev pub limit_of : Setup → ReportLimit
limit_of u = record { count = u.reports; once = u.once }

-- a report is of a use: it has its site, kind and part
abbrev pub is_of : ReportedUse → Report → Bool
is_of used report = eqb used.site report.site && eqb used.kind report.kind && eqb used.part report.part

-- a setting has so many roots, ends a run at so many reports, and has each use reported once where the limit has
pub record IsFor (setting : Setting) (roots : ℕ) (limit : ReportLimit) : Type 0 where
  pub same_roots : setting.roots ≡ roots
  pub same_limit : setting.limit ≡ limit.count
  pub same_once : setting.once ≡ limit.once

-- what a depot and a result hold is what is kept beside a world; the count of blind uses stands still at its type's end
pub record IsBeside (d : DepotState) (told : RunResult) (beside : Beside) : Type 0 where
  pub pairs : beside.pairs ≡ d.pairs
  pub reports : beside.reports ≡ told.reports
  pub blind : told.blind ≡ min beside.blind (2 ^ 64 - 1)

-- an effect was followed, in the world and beside it
abbrev pub Served : Effect → Answer → WorldState → DepotState → RunResult → Type 0
Served effect answer w d told = (beside : Beside) × (IsBeside d told beside × Answered beside effect answer w)

-- what a fiber answered is asked for where none was made
abbrev pub CanServe : RuntimeFn → Beside → Type 0
CanServe function.ThreadResult beside = beside.fibers ≡ no_fibers
CanServe f beside = Unit {0}

-- a call can be answered where no other fiber goes on: it is no thread call
abbrev pub CanAnswer : Asked → Beside → Type 0
CanAnswer (asked.External e) beside = is_thread_call e ≡ false
CanAnswer (asked.Runtime f) beside = CanServe f beside

-- a run goes on with fewer reports than its limit, and ends where they come to it
abbrev pub IsWithin : ℕ → RunResult → Answer → Type 0
IsWithin limit told (Resumed v) = length told.reports < limit
IsWithin limit told (Ended e) = (e ≡ Reported) × (length told.reports ≡ limit)

-- of what was told, the reports and the count of blind uses alone changed, which rises by one at most
pub record TellsMore (old new : RunResult) : Type 0 where
  pub output : new.output ≡ old.output
  pub last : new.«end» ≡ old.«end»
  pub blind : new.blind ≤ old.blind + 1

-- the arguments of a runtime function: one for each parameter, a word of its width
pub record Fits (f : RuntimeFn) (args : List ℕ) : Type 0 where
  pub count : length args ≡ length (runtime_signature f).params
  pub widths : (k : ℕ) → k < length (runtime_signature f).params → get_or args k 0 < 2 ^ width_of (get_or (runtime_signature f).params k Ptr)

-- a runtime function is asked for, with its arguments
abbrev pub FitsAsked : Asked → List ℕ → Type 0
FitsAsked (asked.Runtime f) args = Fits f args
FitsAsked (asked.External e) args = ⊥

-- the use that the arguments of a check speak of
abbrev pub use_in : List ℕ → ReportedUse
use_in args = record { mask = get_or args 0 0; width = get_or args 1 0; origin = get_or args 2 0; kind = get_or args 3 0; part = get_or args 4 0; site = get_or args 5 0 }

-- an effect that gives no value was followed, and what is kept beside the world stays
abbrev pub Follows : Effect → Beside → WorldState → Type 0
Follows effect beside w = Answered beside effect (Resumed None) w

-- a runtime function reports
abbrev pub IsCheck : RuntimeFn → Type 0
IsCheck function.Check = Unit {0}
IsCheck function.CheckMemory = Unit {0}
IsCheck function.CheckString = Unit {0}
IsCheck function.CheckFormat = Unit {0}
IsCheck _ = ⊥
