use Rattle.std.proofs.Common.{subst}
use Rattle.ms_runs.specs.Plain.{plain_start}
use Rattle.ms_host.specs.State.{nothing_beside}
use Rattle.ms_machine_frames.specs.declared.pauses.Pause.{Pause}
use Rattle.ms_machine_steps.specs.Advances.{Advanced, HasAsked}
use Rattle.ms_machine.specs.Running.{IsRunning}
use Rattle.ms_check_tests.proofs.pauses.goes.Goals as goal

pub advance-requires-clause-runs : goal.advance-requires-clause-runs
advance-requires-clause-runs g c = (c.args.setup.now, nothing_beside, plain_start c.args.m.now c.args.setup.now, c.requires.running)

pub stands-requires : goal.stands-requires
stands-requires g c =
    let m = c.args.m.now in
    let u = c.args.setup.now in
    let start = plain_start m u in
    let asked : HasAsked (IsRunning m u nothing_beside) m u start 1000 c.args.fiber.frame.at c.in-Asked.call c.advance.new.fiber c.advance.new.world c.advance.new.budget.left =
    subst (λ (x : Pause). Advanced (IsRunning m u nothing_beside) m u nothing_beside start 1000 c.args.fiber.frame.at x c.advance.new.fiber c.advance.new.world c.advance.new.budget.left) c.in-Asked.is
    (c.in_ok-call.ensures.advanced u nothing_beside start c.requires.running) in
    (c.advance.new.world, (u, nothing_beside, asked.within, asked.stands))
