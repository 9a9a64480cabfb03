use Rattle.std.proofs.Common.{Bool, subst}
use Rattle.ms_trail.specs.Following.{Went}
use Rattle.ms_trail.proofs.traced_run.TracedRun.go_on.Goals as goal

pub returns-then-on-clause-turned : goal.returns-then-on-clause-turned
returns-then-on-clause-turned c = λ u t o passes. subst (λ (b : Bool). Went c.args.self.now.m.now u t b c.do_inst.new.self) c.if-on.true (c.in_ok-on.ensures.went u t o passes)

pub returns-else-on-clause-turned : goal.returns-else-on-clause-turned
returns-else-on-clause-turned c = λ u t o passes. subst (λ (b : Bool). Went c.args.self.now.m.now u t b c.do_inst.new.self) c.if-on.false (c.in_ok-on.ensures.went u t o passes)
