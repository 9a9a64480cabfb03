use Rattle.ms_top.proofs.Making.{IsMade, instrumented}
use Rattle.ms_top.proofs.passes.RealPassOpenGatePass.instrument.Goals as goal

pub returns-clause-gives : goal.returns-clause-gives
returns-clause-gives g c =
    let m = c.args.m.now in
    let j = c.in_ok-module.module in
    let e = c.in_ok-module.ensures in
    let made : IsMade m j = record { strips = e.stripped; formed = c.law_valid-2.ensures.formed; valid = c.law_valid-2.ensures.valid; elided = e.pass; made = e.pieces; faithful = e.faithful; calls = e.calls } in
    instrumented m c.law_valid.ensures.formed c.law_valid.ensures.valid c.requires.plain j made
