-- Of one step the machine takes one, or none.
use Rattle.std.proofs.Common.{◌≡◌, ◌<◌, ◌+◌, ℕ, zero, suc, Bool, true, false, sym, ap, ◌∙◌, subst, arith}
use Rattle.ms_ir.specs.declared.syntax.Module.{Module}
use Rattle.ms_ir.specs.Instructions.{NoMarks}
use Rattle.ms_runs.specs.declared.runs.Setup.{Setup}
use Rattle.ms_runs.specs.declared.runs.End.{End}
use Rattle.ms_runs.specs.Plain.{PlainState, Stepped, More, Stop, and_then, steps}
use Rattle.ms_runs.specs.World.{stuck}
use Rattle.ms_host.specs.declared.calls.HostCall.{HostCall}
use Rattle.ms_host.specs.State.{WorldState, Beside}
use Rattle.ms_machine_frames.specs.declared.fibers.Fiber.{Fiber}
use Rattle.ms_machine_steps.specs.Waiting.{FirstWaits}
use Rattle.ms_machine_frames.specs.declared.pauses.Pause.{Pause}
use Rattle.ms_machine_frames.specs.declared.pauses.Pause.TheVariants as pause
use Rattle.ms_machine_steps.specs.Advances.{step_of, IsSpent, HasEnded, HasAsked, HasFinished, Advanced}
use Rattle.ms_machine.specs.Running.{IsRunning}
use Rattle.ms_trail_uses.specs.Stepping as stepping

one_taken : (f : PlainState → Stepped PlainState) (s t : PlainState) → steps f 1 s ≡ More t → f s ≡ More t
one_taken f s t e = by_case (f s) e
  where
    by_case : (x : Stepped PlainState) → and_then x (steps f 0) ≡ More t → x ≡ More t
    by_case (More r) h = h
    by_case (Stop x w) h = h

none_taken : (f : PlainState → Stepped PlainState) (n : ℕ) (s t : PlainState) → n < 1 → steps f n s ≡ More t → t ≡ s
none_taken f zero s t few e = let h : More s ≡ More t = e in cc
none_taken f (suc n) s t few e = absurd (omega (arith, few))

module _ (m : Module) (u : Setup) (beside : Beside) (state : PlainState) (from : ℕ) (fiber : Fiber) (w : WorldState) (left : ℕ) where
  step_spent : IsSpent (IsRunning m u beside) m u state 1 fiber w left → stepping.Stepped m u beside state true fiber w
  step_spent h = (h.last, (one_taken (step_of m u) state h.last h.came, h.stands))

  step_ended : (e : End) → HasEnded m u beside state 1 e fiber w → stepping.Stepped m u beside state false fiber w
  step_ended e h = (e, h.last, ap (step_of m u) (sym (none_taken (step_of m u) h.done state h.before h.few h.came)) ∙ h.ends.step)

  -- nor would a run of `main` alone go on where the only frame returns outside `main`
  step_finished : (word : ℕ) → HasFinished m u beside state 1 word w left → stepping.Stepped m u beside state false fiber w
  step_finished word h =
      (stuck, h.within.world, ap (step_of m u) (sym (none_taken (step_of m u) h.done state h.before (let c : left + h.done + 1 ≡ 1 = h.counted in omega (arith, c)) h.came)) ∙ h.ends)

  -- nothing is asked for where the fiber began at no call that asks
  step_asked : (call : HostCall) → NoMarks m → stepping.AsksNothing m u state → HasAsked (IsRunning m u beside) m u state 1 from call fiber w left → stepping.Stepped m u beside state false fiber w
  step_asked call bare asks h =
      let none : h.done ≡ 0 = omega (arith, h.few) in
      absurd (asks call (subst (λ (s : PlainState). FirstWaits m u s.frames call) (h.unmarked bare none) h.waits))

  pub step_done : (p : Pause) (on : Bool) → on ≡ stepping.spent p → NoMarks m → stepping.AsksNothing m u state → Advanced (IsRunning m u beside) m u beside state 1 from p fiber w left
      → stepping.Stepped m u beside state on fiber w
  step_done pause.Spent on e bare asks h = subst (λ (b : Bool). stepping.Stepped m u beside state b fiber w) (sym e) (step_spent h)
  step_done (pause.Ended x) on e bare asks h = subst (λ (b : Bool). stepping.Stepped m u beside state b fiber w) (sym e) (step_ended x h)
  step_done (pause.Asked call) on e bare asks h = subst (λ (b : Bool). stepping.Stepped m u beside state b fiber w) (sym e) (step_asked call bare asks h)
  step_done (pause.Finished word) on e bare asks h = subst (λ (b : Bool). stepping.Stepped m u beside state b fiber w) (sym e) (step_finished word h)
