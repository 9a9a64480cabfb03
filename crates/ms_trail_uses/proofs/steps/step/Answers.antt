use Rattle.ms_trail_uses.proofs.Stepping.{step_done}
use Rattle.ms_trail_uses.proofs.steps.step.Goals as goal

pub returns-clause-stepped : goal.returns-clause-stepped
returns-clause-stepped c = λ u beside state running asks.
    step_done c.args.m.now u beside state c.args.fiber.now.frame.at c.advance.new.fiber c.advance.new.world c.advance.new.budget.left c.in_ok-pause.pause c.is_spent-on.result c.is_spent-on.ensures c.requires.bare asks
    (c.in_ok-pause.ensures.advanced u beside state running)
