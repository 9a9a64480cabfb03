-- Moves are found exactly where the run has a report.
use Rattle.std.proofs.Common.{◌≡◌, ℕ, zero, suc, List, refl, arith}
use Rattle.ms_ir.specs.declared.syntax.Module.{Module}
use Rattle.ms_runs.specs.declared.runs.End.{End}
use Rattle.ms_runs.specs.declared.runs.End.TheVariants as «end»
use Rattle.ms_runs.specs.declared.runs.Setup.{Setup}
use Rattle.ms_runs.specs.World.{Setting}
use Rattle.ms_runs.specs.Plain.{Stepped, More, Stop, setting_of, run, go_on}
use Rattle.ms_runs.specs.Masks.{Rules, by_completions}
use Rattle.ms_runs.specs.Shadow.{ShadowState, shadow_step, shadow}
use Rattle.ms_runs_good_laws.specs.Fills.{to_first_report}
use Rattle.ms_trail_moves.specs.declared.moves.Source.{Source}
use Rattle.ms_trail_moves.specs.declared.moves.Move.{Move}
use Rattle.ms_trail_moves.specs.Traces.{Traced, traced_start, traced_on, use_of, Trace, NoReport, Found, ended, stepped, trace_from, trace}

module _ (d : Rules) (s : Setting) (m : Module) where
  abbrev IsFound : Trace → Type 0
  IsFound x = (ms : List Move) × (at : Source) × (x ≡ Found ms at)

  none_found : (ms : List Move) (at : Source) → NoReport ≡ Found ms at → ⊥
  none_found ms at e = grind arith

  reported_found : (n : ℕ) (t : Traced) → (run (λ c. c.world) (shadow_step d s m) n t.state).«end» ≡ «end».Reported → IsFound (trace_from d s m n t)
  reported_found zero t e = absurd (spent e)
    where
      spent : «end».Spent ≡ «end».Reported → ⊥
      spent e = grind arith
  reported_found (suc n) t e = by_step (shadow_step d s m t.state) e (λ c f. reported_found n (traced_on s m t c) f)
    where
      by_end : (x : End) → x ≡ «end».Reported → IsFound (ended x (Found t.moves (use_of s m t.numbers t.state)))
      by_end «end».Reported f = (t.moves, use_of s m t.numbers t.state, refl)
      by_end («end».Exit v) f = absurd (grind arith)
      by_end («end».Trap k v) f = absurd (grind arith)
      by_end «end».Spent f = absurd (grind arith)

      by_step : (x : Stepped ShadowState) → (go_on (run (λ c. c.world) (shadow_step d s m) n) x).«end» ≡ «end».Reported
          → ((c : ShadowState) → (run (λ c. c.world) (shadow_step d s m) n c).«end» ≡ «end».Reported → IsFound (trace_from d s m n (traced_on s m t c)))
          → IsFound (stepped x (λ c. trace_from d s m n (traced_on s m t c)) (Found t.moves (use_of s m t.numbers t.state)))
      by_step (More c) f go = go c f
      by_step (Stop x w) f go = by_end x f

  found_reported : (n : ℕ) (t : Traced) (ms : List Move) (at : Source) → trace_from d s m n t ≡ Found ms at → (run (λ c. c.world) (shadow_step d s m) n t.state).«end» ≡ «end».Reported
  found_reported zero t ms at e = absurd (none_found ms at e)
  found_reported (suc n) t ms at e = by_step (shadow_step d s m t.state) e (λ c f. found_reported n (traced_on s m t c) ms at f)
    where
      by_end : (x : End) → ended x (Found t.moves (use_of s m t.numbers t.state)) ≡ Found ms at → x ≡ «end».Reported
      by_end «end».Reported f = refl
      by_end («end».Exit v) f = absurd (none_found ms at f)
      by_end («end».Trap k v) f = absurd (none_found ms at f)
      by_end «end».Spent f = absurd (none_found ms at f)

      by_step : (x : Stepped ShadowState) → stepped x (λ c. trace_from d s m n (traced_on s m t c)) (Found t.moves (use_of s m t.numbers t.state)) ≡ Found ms at
          → ((c : ShadowState) → trace_from d s m n (traced_on s m t c) ≡ Found ms at → (run (λ c. c.world) (shadow_step d s m) n c).«end» ≡ «end».Reported)
          → (go_on (run (λ c. c.world) (shadow_step d s m) n) x).«end» ≡ «end».Reported
      by_step (More c) f go = go c f
      by_step (Stop x w) f go = by_end x f

pub where_reported : (m : Module) (setup : Setup) → (shadow m (to_first_report setup)).«end» ≡ «end».Reported → (ms : List Move) × (at : Source) × (trace m setup ≡ Found ms at)
where_reported m setup = reported_found by_completions (setting_of m (to_first_report setup)) m setup.steps (traced_start m setup)

pub where_found : (m : Module) (setup : Setup) (ms : List Move) (at : Source) → trace m setup ≡ Found ms at → (shadow m (to_first_report setup)).«end» ≡ «end».Reported
where_found m setup ms at = found_reported by_completions (setting_of m (to_first_report setup)) m setup.steps (traced_start m setup) ms at
