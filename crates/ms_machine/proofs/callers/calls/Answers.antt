use Rattle.ms_machine.proofs.CallSites.{callers_run}
use Rattle.ms_machine.proofs.callers.calls.Goals as goal

pub calls_below-requires : goal.calls_below-requires
calls_below-requires c =
    let r = c.requires in
    (r.1.2.frames, callers_run c.args.m.now c.args.fiber.now r.1.0 r.1.1 r.0 r.1.2 r.1.3)

pub returns : goal.returns
returns c = λ u beside w state runs. c.calls_below.ensures state.frames (callers_run c.args.m.now c.args.fiber.now u beside w state runs)
