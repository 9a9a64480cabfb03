use Rattle.std.proofs.Common.{refl, subst, arith}
use Rattle.ms_machine_frames.specs.declared.pauses.Pause.{Pause}
use Rattle.ms_machine_steps.specs.Advances.{Advanced}
use Rattle.ms_machine.specs.Running.{IsRunning}
use Rattle.ms_runtime.specs.Going.{ahead}
use Rattle.ms_runtime.proofs.Fitting.{if_ok}
use Rattle.ms_threads.proofs.After.{turned_so}
use Rattle.ms_threads.proofs.Turns.{turn_spent, turn_ended, turn_asks, asked_far, turn_picks, finished_far}
use Rattle.ms_threads.proofs.runs.ThreadedRun.run_to_pause.Goals as goal

pub advance-requires-clause-runs : goal.advance-requires-clause-runs
advance-requires-clause-runs c = let q = c.requires.going in let g = q.1.1 in (q.0, g.beside, g.state, g.stands)

pub returns-in-Spent-clause-turned : goal.returns-in-Spent-clause-turned
returns-in-Spent-clause-turned c = λ u same g.
    let m = c.args.m.now in
    let old = c.args.self.now.running in
    turn_spent m u c.args.schedule.now c.args.self.now g (record c.args.self.now { running = record c.args.self.now.running { fiber = c.advance.new.fiber; world = c.advance.new.world; budget = c.advance.new.budget } }) refl refl refl (refl, refl, refl, refl)
    (subst (λ (x : Pause). Advanced (IsRunning m u g.beside) m u g.beside g.state old.budget.left old.fiber.frame.at x c.advance.new.fiber c.advance.new.world c.advance.new.budget.left) c.in-Spent.is
    (c.in_ok-advance.ensures.advanced u g.beside g.state g.stands))

pub note_end-requires : goal.note_end-requires
note_end-requires c =
    let m = c.args.m.now in
    let q = c.requires.going in
    let u = q.0 in
    let g = q.1.1 in
    let old = c.args.self.now.running in
    let h = subst (λ (x : Pause). Advanced (IsRunning m u g.beside) m u g.beside g.state old.budget.left old.fiber.frame.at x c.advance.new.fiber c.advance.new.world c.advance.new.budget.left) c.in-Ended.is
    (c.in_ok-advance.ensures.advanced u g.beside g.state g.stands) in
    (h.within.frames, h.callers)

pub returns-in_ok-note_end-in-Ended-clause-turned : goal.returns-in_ok-note_end-in-Ended-clause-turned
returns-in_ok-note_end-in-Ended-clause-turned c = λ u same g.
    let m = c.args.m.now in
    let old = c.args.self.now.running in
    let h = subst (λ (x : Pause). Advanced (IsRunning m u g.beside) m u g.beside g.state old.budget.left old.fiber.frame.at x c.advance.new.fiber c.advance.new.world c.advance.new.budget.left) c.in-Ended.is
    (c.in_ok-advance.ensures.advanced u g.beside g.state g.stands) in
    turn_ended m u c.args.schedule.now c.args.self.now g (record c.args.self.now { running = record c.args.self.now.running { fiber = c.advance.new.fiber; world = c.advance.new.world; budget = c.advance.new.budget } }) refl refl refl (refl, refl, refl, refl)
    c.in-Ended.end h c.note_end.new.self c.note_end.ensures.same (c.in_ok-note_end-in-Ended.ensures.ended h.within.frames h.callers)

pub call-requires-clause-asking : goal.call-requires-clause-asking
call-requires-clause-asking c =
    let m = c.args.m.now in
    let q = c.requires.going in
    let u = q.0 in
    let g = q.1.1 in
    let old = c.args.self.now.running in (
      u,
      (
        q.1.0,
        turn_asks m u c.args.schedule.now c.args.self.now g _ refl refl refl (refl, refl, refl, refl) c.in-Asked.call
            (subst (λ (x : Pause). Advanced (IsRunning m u g.beside) m u g.beside g.state old.budget.left old.fiber.frame.at x c.advance.new.fiber c.advance.new.world c.advance.new.budget.left) c.in-Asked.is
            (c.in_ok-advance.ensures.advanced u g.beside g.state g.stands)) c.advance.ensures.made,
      ),
    )

pub returns-in-Asked-clause-turned : goal.returns-in-Asked-clause-turned
returns-in-Asked-clause-turned c = λ u same g.
    let m = c.args.m.now in
    let old = c.args.self.now.running in
    let h = subst (λ (x : Pause). Advanced (IsRunning m u g.beside) m u g.beside g.state old.budget.left old.fiber.frame.at x c.advance.new.fiber c.advance.new.world c.advance.new.budget.left) c.in-Asked.is
    (c.in_ok-advance.ensures.advanced u g.beside g.state g.stands) in
    if_ok c.call.result
    (λ e. turned_so m u c.args.schedule.now (ahead m old) _ e c.call.new.self (asked_far m u c.args.schedule.now c.args.self.now g _ refl refl refl (refl, refl, refl, refl) c.in-Asked.call h c.advance.ensures.made))
    (c.call.ensures.turned u same (turn_asks m u c.args.schedule.now c.args.self.now g _ refl refl refl (refl, refl, refl, refl) c.in-Asked.call h c.advance.ensures.made))

pub end-requires : goal.end-requires
end-requires c = let g = c.requires.going.1.1 in record { turn = omega (arith, g.standings.turn, g.standings.counted) }

pub pick-requires-clause-picking : goal.pick-requires-clause-picking
pick-requires-clause-picking c =
    let m = c.args.m.now in
    let q = c.requires.going in
    let u = q.0 in
    let g = q.1.1 in
    let old = c.args.self.now.running in (
      u,
      turn_picks m u c.args.schedule.now c.args.self.now g (record c.args.self.now { running = record c.args.self.now.running { fiber = c.advance.new.fiber; world = c.advance.new.world; budget = c.advance.new.budget } }) refl refl refl (refl, refl, refl, refl) c.in-Finished.value
          (subst (λ (x : Pause). Advanced (IsRunning m u g.beside) m u g.beside g.state old.budget.left old.fiber.frame.at x c.advance.new.fiber c.advance.new.world c.advance.new.budget.left) c.in-Finished.is
          (c.in_ok-advance.ensures.advanced u g.beside g.state g.stands)) c.advance.ensures.made c.end.new.self c.end.new.self.running.fiber c.end.ensures.running c.end.ensures.ended c.end.ensures.calls,
    )

pub returns-in-Finished-clause-turned : goal.returns-in-Finished-clause-turned
returns-in-Finished-clause-turned c = λ u same g.
    let m = c.args.m.now in
    let old = c.args.self.now.running in
    let h = subst (λ (x : Pause). Advanced (IsRunning m u g.beside) m u g.beside g.state old.budget.left old.fiber.frame.at x c.advance.new.fiber c.advance.new.world c.advance.new.budget.left) c.in-Finished.is
    (c.in_ok-advance.ensures.advanced u g.beside g.state g.stands) in
    if_ok c.pick.result
    (λ e. turned_so m u c.args.schedule.now (ahead m old) _ e c.pick.new.self
    (finished_far m u c.args.schedule.now c.args.self.now g (record c.args.self.now { running = record c.args.self.now.running { fiber = c.advance.new.fiber; world = c.advance.new.world; budget = c.advance.new.budget } }) refl refl refl (refl, refl, refl, refl) c.in-Finished.value h c.advance.ensures.made c.end.new.self c.end.new.self.running.fiber c.end.ensures.running c.end.ensures.ended c.end.ensures.calls))
    (c.pick.ensures.turned u
    (turn_picks m u c.args.schedule.now c.args.self.now g (record c.args.self.now { running = record c.args.self.now.running { fiber = c.advance.new.fiber; world = c.advance.new.world; budget = c.advance.new.budget } }) refl refl refl (refl, refl, refl, refl) c.in-Finished.value h c.advance.ensures.made c.end.new.self c.end.new.self.running.fiber c.end.ensures.running c.end.ensures.ended c.end.ensures.calls))
