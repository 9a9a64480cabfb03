use Rattle.std.proofs.Common.{◌∷◌}
use Rattle.ms_machine_frames.specs.Standing.{frames_of}
use Rattle.ms_machine_steps.specs.Waiting.{answered}
use Rattle.ms_machine_steps.proofs.Answered.{waiter, below_it, waits, waiter_stands, answered_on}
use Rattle.ms_machine.proofs.Programs.{frames_to, frames_from, state_to, resumed_from, waiting_to}
use Rattle.ms_machine.proofs.running.resume.Goals as goal

pub give_answer-requires : goal.give_answer-requires
give_answer-requires c = waiting_to c.args.m.now c.program.result.now c.program.ensures c.args.fiber.now c.requires

pub returns-clause-stands : goal.returns-clause-stands
returns-clause-stands c = λ u frame below call stands waits.
    let m = c.args.m.now in
    let p = c.program.result.now in
    frames_from m p c.program.ensures (frames_of c.give_answer.new.fiber) (answered m c.args.value frame ∷ below)
    (c.give_answer.ensures.stands m u frame below call c.program.ensures (frames_to m p c.program.ensures (frames_of c.args.fiber.now) (frame ∷ below) stands) waits)

pub returns-clause-continues : goal.returns-clause-continues
returns-clause-continues c = λ u beside later before after state call runs waiting answer fill slots.
    let m = c.args.m.now in
    let p = c.program.result.now in
    let old = c.args.fiber.now in
    let is = state_to m p c.program.ensures c.law_valid.ensures.formed c.law_valid.ensures.valid u beside old before state runs in
    resumed_from m p c.program.ensures u later call.asked state c.give_answer.new.fiber after
    (answered_on m p u beside old before state is call waiting later after fill slots c.give_answer.new.fiber c.give_answer.ensures.own c.args.value answer
    (c.give_answer.ensures.stands m u (waiter m p u beside old before state is call waiting) (below_it m p u beside old before state is call waiting) call c.program.ensures
    (waiter_stands m p u beside old before state is call waiting) (waits m p u beside old before state is call waiting)))
