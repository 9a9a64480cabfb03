use Rattle.ms_machine_frames.specs.Standing.{IsState}
use Rattle.ms_machine.specs.Running.{IsRunning}
use Rattle.ms_machine.proofs.Programs.{state_to, state_from, standing_to}
use Rattle.ms_machine.proofs.Advancing.{if_advanced}
use Rattle.ms_machine.proofs.running.advance.Goals as goal

pub run_steps-requires-clause-stands : goal.run_steps-requires-clause-stands
run_steps-requires-clause-stands c =
    standing_to c.args.m.now c.program.result.now c.program.ensures c.law_valid.ensures.formed c.law_valid.ensures.valid c.args.fiber.now c.args.world.now c.requires.runs

pub returns-clause-advanced : goal.returns-clause-advanced
returns-clause-advanced c = λ u beside state runs.
    let m = c.args.m.now in
    let p = c.program.result.now in
    if_advanced (IsState m p u beside) (IsRunning m u beside) (state_from m p c.program.ensures u beside) m u beside state c.args.budget.now.left c.args.fiber.now.frame.at c.run_steps.result c.run_steps.new.fiber c.run_steps.new.world
    c.run_steps.new.budget.left
    (c.run_steps.ensures.advanced m u beside state (state_to m p c.program.ensures c.law_valid.ensures.formed c.law_valid.ensures.valid u beside c.args.fiber.now c.args.world.now state runs))
