-- What a run comes to stays so where fiber and world stand for its states in another way.
use Rattle.std.proofs.Common.{ℕ, Result, Ok, Err}
use Rattle.std.specs.Prelude.{IfOk}
use Rattle.ms_ir.specs.declared.syntax.Module.{Module}
use Rattle.ms_runs.specs.declared.runs.Setup.{Setup}
use Rattle.ms_runs.specs.Plain.{PlainState}
use Rattle.ms_host.specs.State.{WorldState, Beside}
use Rattle.ms_machine_frames.specs.declared.fibers.Fiber.{Fiber}
use Rattle.ms_machine_frames.specs.declared.pauses.Pause.{Pause}
use Rattle.ms_machine_frames.specs.declared.pauses.Pause.TheVariants as pause
use Rattle.ms_machine_steps.specs.Advances.{Advanced}

module _ (Is Is' : Fiber → WorldState → PlainState → Type 0) (same : (fiber : Fiber) (w : WorldState) (state : PlainState) → Is fiber w state → Is' fiber w state) where
  pub advanced_as : (m : Module) (u : Setup) (beside : Beside) (state : PlainState) (left from : ℕ) (why : Pause) (fiber : Fiber) (w : WorldState) (left' : ℕ)
      → Advanced Is m u beside state left from why fiber w left' → Advanced Is' m u beside state left from why fiber w left'
  advanced_as m u beside state left from pause.Spent fiber w left' h = record { last = h.last; came = h.came; own = h.own; stands = same fiber w h.last h.stands; none = h.none }
  advanced_as m u beside state left from (pause.Ended e) fiber w left' h = h
  advanced_as m u beside state left from (pause.Finished word) fiber w left' h = h
  advanced_as m u beside state left from (pause.Asked call) fiber w left' h = record {
    done = h.done;
    few = h.few;
    before = h.before;
    came = h.came;
    own = h.own;
    within = h.within;
    same = h.same;
    stands = same fiber w h.within h.stands;
    waits = h.waits;
    counted = h.counted;
    further = h.further;
    unmarked = h.unmarked;
  }

  pub if_advanced : {E : Type 0} (m : Module) (u : Setup) (beside : Beside) (state : PlainState) (left from : ℕ) (r : Result Pause E) (fiber : Fiber) (w : WorldState) (left' : ℕ)
      → IfOk r (λ why. Advanced Is m u beside state left from why fiber w left') → IfOk r (λ why. Advanced Is' m u beside state left from why fiber w left')
  if_advanced m u beside state left from (Ok why) fiber w left' h = advanced_as m u beside state left from why fiber w left' h
  if_advanced m u beside state left from (Err e) fiber w left' h = tt
