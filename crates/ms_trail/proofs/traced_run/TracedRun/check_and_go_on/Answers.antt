use Rattle.std.proofs.Common.{subst, arith}
use Rattle.ms_trail.specs.Turning.{FoundAt}
use Rattle.ms_trail.proofs.Turning.{ready_now}
use Rattle.ms_trail.proofs.traced_run.TracedRun.check_and_go_on.Goals as goal

pub go_on-requires : goal.go_on-requires
go_on-requires c =
    let g = c.requires.going in
    record { ready = ready_now c.args.self.now c.args.code.now g c.requires.due c.requires.fits (subst (FoundAt c.args.self.now.m.now g.0 g.1) c.in-None.is (c.in_ok-found.ensures g.0 g.1 g.2.0 g.2.1)) }

pub returns-in-Some-clause-turned : goal.returns-in-Some-clause-turned
returns-in-Some-clause-turned c = λ u t one o.
    let h = subst (FoundAt c.args.self.now.m.now u t) c.in-Some.is (c.in_ok-found.ensures u t one o) in
    (h.0, (h.1.0, h.1.1, o.log))

pub returns-in-Some-clause-grew : goal.returns-in-Some-clause-grew
returns-in-Some-clause-grew c = record { count = omega arith; world = omega arith; calls = omega arith }

pub returns-in-None-clause-turned : goal.returns-in-None-clause-turned
returns-in-None-clause-turned c = λ u t one o. c.go_on.ensures.turned u t o (subst (FoundAt c.args.self.now.m.now u t) c.in-None.is (c.in_ok-found.ensures u t one o))
