use Rattle.std.proofs.Common.{refl, sym, subst, Some}
use Rattle.ms_runs.specs.declared.runs.End.{End}
use Rattle.ms_machine_frames.specs.declared.pauses.Pause.{Pause}
use Rattle.ms_machine_steps.specs.Advances.{Advanced}
use Rattle.ms_machine.specs.Running.{IsRunning}
use Rattle.ms_machine.proofs.CallSites.{callers_run}
use Rattle.ms_runtime.specs.declared.runs.Running.{Running}
use Rattle.ms_runtime.specs.Going.{ahead}
use Rattle.ms_runtime.specs.Recorded.{TurnedTold}
use Rattle.ms_runtime.proofs.Fitting.{if_ok}
use Rattle.ms_runtime.proofs.Goings.{not_further}
use Rattle.ms_runtime.proofs.RecordedRuns.{turn_spent, turn_ended, turn_finished, turn_asks, turned_from}
use Rattle.ms_runtime.proofs.runs.Recorded.run_to_pause.Goals as goal

pub advance-requires-clause-runs : goal.advance-requires-clause-runs
advance-requires-clause-runs c = let q = c.requires.going in let g = q.1.1.going in (q.0, g.beside, g.state, g.stands)

pub answer_call-requires : goal.answer_call-requires
answer_call-requires c =
    let m = c.args.m.now in
    let q = c.requires.going in
    let u = q.0 in
    let g = q.1.1 in
    let old = c.args.self.now.running in
    record {
      paused = (
        u,
        (
          q.1.0,
          turn_asks m u c.args.self.now g (record old { fiber = c.advance.new.fiber; world = c.advance.new.world; budget = c.advance.new.budget }) refl refl c.in-Asked.call
              (subst (λ (x : Pause). Advanced (IsRunning m u g.going.beside) m u g.going.beside g.going.state old.budget.left old.fiber.frame.at x c.advance.new.fiber c.advance.new.world c.advance.new.budget.left) c.in-Asked.is
              (c.in_ok-advance.ensures.advanced u g.going.beside g.going.state g.going.stands)) c.advance.ensures.made,
        ),
      );
    }

pub note_end-requires : goal.note_end-requires
note_end-requires c =
    let m = c.args.m.now in
    let q = c.requires.going in
    let u = q.0 in
    let g = q.1.1 in
    let old = c.args.self.now.running in
    let h = subst (λ (x : Pause). Advanced (IsRunning m u g.going.beside) m u g.going.beside g.going.state old.budget.left old.fiber.frame.at x c.advance.new.fiber c.advance.new.world c.advance.new.budget.left) c.in-Spent.is
    (c.in_ok-advance.ensures.advanced u g.going.beside g.going.state g.going.stands) in
    (h.last.frames, callers_run m c.advance.new.fiber u g.going.beside c.advance.new.world h.last h.stands)

pub returns-in_ok-note_end-in-Spent : goal.returns-in_ok-note_end-in-Spent
returns-in_ok-note_end-in-Spent c = record {
  wanted = c.note_end.ensures.wanted;
  turned = λ u same g.
      let m = c.args.m.now in
      let old = c.args.self.now.running in
      let h = subst (λ (x : Pause). Advanced (IsRunning m u g.going.beside) m u g.going.beside g.going.state old.budget.left old.fiber.frame.at x c.advance.new.fiber c.advance.new.world c.advance.new.budget.left) c.in-Spent.is
      (c.in_ok-advance.ensures.advanced u g.going.beside g.going.state g.going.stands) in
      turn_spent m u c.args.self.now g (record old { fiber = c.advance.new.fiber; world = c.advance.new.world; budget = c.advance.new.budget }) refl refl h
      c.note_end.new.self c.note_end.ensures.running c.note_end.ensures.wanted c.note_end.ensures.calls c.note_end.ensures.places
      (λ wanted. c.in_ok-note_end-in-Spent.ensures.ended h.last.frames (callers_run m c.advance.new.fiber u g.going.beside c.advance.new.world h.last h.stands) wanted);
}

pub note_end-requires-in-Ended : goal.note_end-requires-in-Ended
note_end-requires-in-Ended c =
    let m = c.args.m.now in
    let q = c.requires.going in
    let u = q.0 in
    let g = q.1.1 in
    let old = c.args.self.now.running in
    let h = subst (λ (x : Pause). Advanced (IsRunning m u g.going.beside) m u g.going.beside g.going.state old.budget.left old.fiber.frame.at x c.advance.new.fiber c.advance.new.world c.advance.new.budget.left) c.in-Ended.is
    (c.in_ok-advance.ensures.advanced u g.going.beside g.going.state g.going.stands) in
    (h.within.frames, h.callers)

pub returns-in_ok-note_end-in-Ended : goal.returns-in_ok-note_end-in-Ended
returns-in_ok-note_end-in-Ended c = record {
  wanted = c.note_end-in-Ended.ensures.wanted;
  turned = λ u same g.
      let m = c.args.m.now in
      let old = c.args.self.now.running in
      let h = subst (λ (x : Pause). Advanced (IsRunning m u g.going.beside) m u g.going.beside g.going.state old.budget.left old.fiber.frame.at x c.advance.new.fiber c.advance.new.world c.advance.new.budget.left) c.in-Ended.is
      (c.in_ok-advance.ensures.advanced u g.going.beside g.going.state g.going.stands) in
      turn_ended m u c.args.self.now g (record old { fiber = c.advance.new.fiber; world = c.advance.new.world; budget = c.advance.new.budget }) refl refl c.in-Ended.end h
      c.note_end-in-Ended.new.self c.note_end-in-Ended.ensures.running c.note_end-in-Ended.ensures.wanted c.note_end-in-Ended.ensures.calls c.note_end-in-Ended.ensures.places (λ wanted. c.in_ok-note_end-in-Ended.ensures.ended h.within.frames h.callers wanted);
}

pub returns-in-Finished : goal.returns-in-Finished
returns-in-Finished c = record {
  wanted = c.note_alone.ensures.wanted;
  turned = λ u same g.
      let m = c.args.m.now in
      let old = c.args.self.now.running in
      let later : Running = record old { fiber = c.advance.new.fiber; world = c.advance.new.world; budget = c.advance.new.budget } in
      subst (λ (e : End). TurnedTold m u (ahead m old) (Some e) c.note_alone.new.self) (sym c.no_caller.ensures)
      (turn_finished m u c.args.self.now g later refl refl c.in-Finished.value
      (subst (λ (x : Pause). Advanced (IsRunning m u g.going.beside) m u g.going.beside g.going.state old.budget.left old.fiber.frame.at x c.advance.new.fiber c.advance.new.world c.advance.new.budget.left) c.in-Finished.is
      (c.in_ok-advance.ensures.advanced u g.going.beside g.going.state g.going.stands))
      c.note_alone.new.self c.note_alone.ensures.running c.note_alone.ensures.wanted c.note_alone.ensures.calls c.note_alone.ensures.places c.note_alone.ensures.ended);
}

pub returns-in-Asked : goal.returns-in-Asked
returns-in-Asked c = record {
  wanted = c.answer_call.ensures.wanted;
  turned = λ u same g.
      let m = c.args.m.now in
      let old = c.args.self.now.running in
      let later : Running = record old { fiber = c.advance.new.fiber; world = c.advance.new.world; budget = c.advance.new.budget } in
      let h = subst (λ (x : Pause). Advanced (IsRunning m u g.going.beside) m u g.going.beside g.going.state old.budget.left old.fiber.frame.at x c.advance.new.fiber c.advance.new.world c.advance.new.budget.left) c.in-Asked.is
      (c.in_ok-advance.ensures.advanced u g.going.beside g.going.state g.going.stands) in
      if_ok c.answer_call.result
      (λ e. turned_from m u (ahead m old) (ahead m later) e c.answer_call.new.self (not_further m u g.going.beside g.going.state old later g.going.keeping.room c.in-Asked.call h c.advance.ensures.made))
      (c.answer_call.ensures.turned u same (turn_asks m u c.args.self.now g later refl refl c.in-Asked.call h c.advance.ensures.made));
}
