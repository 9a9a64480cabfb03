-- A run that is followed to its first report, turn by turn.
use Rattle.std.proofs.Common.{◌≡◌, ◌≢◌, ◌≤◌, ◌<◌, ◌+◌, ◌*◌, ◌^◌, ℕ, suc, Bool, List, length, if◌then◌else◌, refl, sym, ap, ◌∙◌, subst, arith}
use Rattle.std.proofs.lemmas.Bool.{le-leb, lt-leb}
use Rattle.std.proofs.lemmas.List.{take_all}
use Rattle.ms_ir.specs.declared.syntax.Module.{Module}
use Rattle.ms_runs.specs.declared.runs.End.{End}
use Rattle.ms_runs.specs.declared.runs.End.TheVariants as «end»
use Rattle.ms_runs.specs.declared.runs.Setup.{Setup}
use Rattle.ms_runs.specs.Plain.{Stepped, More, Stop, setting_of}
use Rattle.ms_runs.specs.Masks.{by_completions, by_formulas}
use Rattle.ms_runs.specs.Shadow.{ShadowState, shadow_step}
use Rattle.ms_runs_laws.proofs.ExactRules.{formulas_exact}
use Rattle.ms_runs_laws.proofs.SameRuns.{same_step}
use Rattle.ms_trail_moves.specs.declared.moves.Source.{Source}
use Rattle.ms_trail_moves.specs.declared.moves.Move.{Move}
use Rattle.ms_trail_moves.specs.Traces.{Traced, traced_start, traced_on, use_of, Trace, NoReport, Found, ended, stepped, trace_from, one_report, trace}
use Rattle.ms_trail.specs.declared.traced_run.TracedRun.{TracedRun}
use Rattle.ms_trail.specs.declared.traced_run.StepEnd.{StepEnd}
use Rattle.ms_trail.specs.declared.traced_run.StepEnd.TheVariants as turn
use Rattle.ms_trail.specs.declared.found.Trace.TheVariants as found
use Rattle.ms_trail_bytes.specs.declared.logs.Log.{Log}
use Rattle.ms_trail_bytes.specs.Logs.{move_limit, IsLog}
use Rattle.ms_trail.specs.Following.{IsFollowed, Turned}
use Rattle.ms_trail.specs.Ready.{HasRoom, Grew, IsGoing}
use Rattle.ms_trail.specs.Tracing.{limited}

-- ---- the trace after a step

at_step : (m : Module) (u : Setup) (t : Traced) (n : ℕ) (x : Stepped ShadowState) → shadow_step by_formulas (setting_of m u) m t.state ≡ x
    → trace_from by_completions (setting_of m u) m (suc n) t ≡ stepped x (λ c. trace_from by_completions (setting_of m u) m n (traced_on (setting_of m u) m t c)) (Found t.moves (use_of (setting_of m u) m t.numbers t.state))
at_step m u t n x e =
    ap (λ (y : Stepped ShadowState). stepped y (λ c. trace_from by_completions (setting_of m u) m n (traced_on (setting_of m u) m t c)) (Found t.moves (use_of (setting_of m u) m t.numbers t.state)))
    (same_step formulas_exact (setting_of m u) m t.state ∙ e)

never : (e : End) (f : Trace) → e ≢ «end».Reported → ended e f ≡ NoReport
never («end».Exit n) f h = refl
never («end».Trap t n) f h = refl
never «end».Reported f h = absurd (h refl)
never «end».Spent f h = refl

-- ---- turns

-- a follower has come to a step after which so many are left, and the trace from there is that of the whole run
pub record Following (m : Module) (setup : Setup) (left : ℕ) (f : TracedRun) : Type 0 where
  pub run : Traced
  pub is : IsFollowed m (one_report setup) run f
  pub same : trace_from by_completions (setting_of m (one_report setup)) m left run ≡ trace m setup
  pub few : f.log.count + 2 ^ 33 * left ≤ 2 ^ 63
  pub made : f.world.made + 2 ^ 26 * left ≤ 2 ^ 63
  pub calls : f.made + left ≤ 2 ^ 62
  pub events : f.event + left ≤ 2 ^ 62

pub following_start : (m : Module) (setup : Setup) (f : TracedRun) → IsFollowed m (one_report setup) (traced_start m setup) f → f.world.made ≡ 0 → setup.steps ≤ 1000000000 → Following m setup setup.steps f
following_start m setup f is none few = record {
  run = traced_start m setup;
  is = is;
  same = refl;
  few = omega (arith, is.log.count, few);
  made = omega (arith, none, few);
  calls = omega (arith, is.made, few);
  events = omega (arith, is.event, few);
}

module _ (m : Module) (setup : Setup) (left : ℕ) (n : ℕ) (is : left ≡ suc n) (f : TracedRun) (g : Following m setup left f) where
  room : HasRoom f
  room = record {
    steps = omega (arith, is, g.events);
    few = omega (arith, is, g.few);
    made = omega (arith, is, g.made);
    calls = omega (arith, is, g.calls);
  }

  pub own : IsFollowed f.m.now (one_report setup) g.run f
  own = subst (λ (x : Module). IsFollowed x (one_report setup) g.run f) (sym g.is.whole) g.is

  pub following_goes : IsGoing f
  following_goes = (one_report setup, g.run, (refl, own, room))

  here : trace_from by_completions (setting_of m (one_report setup)) m (suc n) g.run ≡ trace m setup
  here = ap (λ k. trace_from by_completions (setting_of m (one_report setup)) m k g.run) (sym is) ∙ g.same

  module _ (x : StepEnd) (new : TracedRun) (turned : Turned f.m.now (one_report setup) g.run x new) where
    pub turned_here : Turned m (one_report setup) g.run x new
    turned_here = subst (λ (y : Module). Turned y (one_report setup) g.run x new) g.is.whole turned

  pub following_on : (x : StepEnd) (new : TracedRun) → x ≡ turn.On → Turned f.m.now (one_report setup) g.run x new → Grew f new → Following m setup n new
  following_on x new on turned grew =
      let next : Turned m (one_report setup) g.run turn.On new = subst (λ (y : StepEnd). Turned m (one_report setup) g.run y new) on (turned_here x new turned) in
      record {
        run = traced_on (setting_of m (one_report setup)) m g.run next.0;
        is = next.1.1;
        same = sym (at_step m (one_report setup) g.run n (More next.0) next.1.0) ∙ here;
        few = omega (arith, is, g.few, grew.count);
        made = omega (arith, is, g.made, grew.world);
        calls = omega (arith, is, g.calls, grew.calls);
        events = omega (arith, is, g.events, g.is.event, next.1.1.event);
      }

  pub following_over : (x : StepEnd) (new : TracedRun) → x ≡ turn.Over → Turned f.m.now (one_report setup) g.run x new → found.NoReport ≡ limited (trace m setup)
  following_over x new over turned =
      let last : Turned m (one_report setup) g.run turn.Over new = subst (λ (y : StepEnd). Turned m (one_report setup) g.run y new) over (turned_here x new turned) in
      ap limited (sym (never last.0 (Found g.run.moves (use_of (setting_of m (one_report setup)) m g.run.numbers g.run.state)) last.2.1) ∙ sym (at_step m (one_report setup) g.run n (Stop last.0 last.1) last.2.0) ∙ here)

  pub following_log : (x : StepEnd) (at : Source) (new : TracedRun) → x ≡ turn.Reported at → Turned f.m.now (one_report setup) g.run x new → IsLog new.log g.run.moves
  following_log x at new reported turned = (subst (λ (y : StepEnd). Turned m (one_report setup) g.run y new) reported (turned_here x new turned)).1.2

  pub following_reported : (x : StepEnd) (at : Source) (new : TracedRun) → x ≡ turn.Reported at → Turned f.m.now (one_report setup) g.run x new → limited (Found g.run.moves at) ≡ limited (trace m setup)
  following_reported x at new reported turned =
      let last : Turned m (one_report setup) g.run (turn.Reported at) new = subst (λ (y : StepEnd). Turned m (one_report setup) g.run y new) reported (turned_here x new turned) in
      ap limited (ap (Found g.run.moves) last.1.1 ∙ sym (at_step m (one_report setup) g.run n (Stop «end».Reported last.0) last.1.0) ∙ here)

-- where no step is left there is no report
pub following_spent : (m : Module) (setup : Setup) (left : ℕ) (f : TracedRun) → Following m setup left f → left ≡ 0 → found.NoReport ≡ limited (trace m setup)
following_spent m setup left f g none = ap limited (ap (λ k. trace_from by_completions (setting_of m (one_report setup)) m k g.run) (sym none) ∙ g.same)

-- ---- logs

pub log_few : (log : Log) (moves kept : List Move) (at : Source) → IsLog log moves → log.count ≤ move_limit → kept ≡ log.moves.items → found.Found kept at ≡ limited (Found moves at)
log_few log moves kept at is few same =
    let short : length moves ≤ move_limit = omega (arith, is.count, few) in
    ap (λ ms. found.Found ms at) (same ∙ is.kept ∙ take_all move_limit moves short)
    ∙ sym (ap (λ (b : Bool). if b then found.Found moves at else found.TooLong (length moves)) (le-leb (length moves) move_limit short))

pub log_many : (log : Log) (moves : List Move) (at : Source) → IsLog log moves → move_limit < log.count → found.TooLong log.count ≡ limited (Found moves at)
log_many log moves at is many =
    ap found.TooLong is.count
    ∙ sym (ap (λ (b : Bool). if b then found.Found moves at else found.TooLong (length moves)) (lt-leb (length moves) move_limit (omega (arith, is.count, many))))
