use Rattle.ms_pass_form_laws.proofs.Elided.{calls_same}
use Rattle.ms_top.proofs.Making.{IsMade, instrumented}
use Rattle.ms_top.proofs.passes.RealPassOpenGatePass.instrumented.Goals as goal

pub returns-clause-gives : goal.returns-clause-gives
returns-clause-gives g c =
    let m = c.args.m.now in
    let j = c.in_ok-module.module in
    let e = c.in_ok-module.ensures in
    let made : IsMade m j = record { strips = e.stripped; formed = e.formed; valid = e.valid; elided = e.pass; made = e.pieces; faithful = e.faithful; calls = calls_same m c.law_valid.ensures.formed c.law_valid.ensures.valid c.requires.plain j e.pass } in
    instrumented m c.law_valid.ensures.formed c.law_valid.ensures.valid c.requires.plain j made
