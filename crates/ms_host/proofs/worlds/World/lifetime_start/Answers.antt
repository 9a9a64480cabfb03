use Rattle.std.proofs.Common.{sym, subst}
use Rattle.ms_runs.specs.World.{Does}
use Rattle.ms_runs.specs.Memory.{make_bytes}
use Rattle.ms_runs.specs.Externals.{where_good}
use Rattle.ms_host.specs.declared.calls.Answer.{Answer}
use Rattle.ms_host.specs.Answers.{Answered}
use Rattle.ms_host.proofs.Effects.{good-then, bad-then}
use Rattle.ms_host.proofs.worlds.World.lifetime_start.Goals as goal

pub returns-then-remake-clause-answered : goal.returns-then-remake-clause-answered
returns-then-remake-clause-answered c = λ beside world shows.
    let h = c.if-remake.ensures.made_again beside world shows in
    good-then beside _ world c.args.site c.args.addr c.args.n c.remake.new.self _ h.0 h.1

pub returns-else-remake-clause-answered : goal.returns-else-remake-clause-answered
returns-else-remake-clause-answered c = λ beside world shows.
    let h = c.if-remake.ensures.made_again beside world shows in
    subst (λ (a : Answer). Answered beside (where_good c.args.site c.args.addr c.args.n world (Does (make_bytes c.args.self.now.fill c.args.addr c.args.n world))) a c.remake.new.self) (sym c.trap.ensures)
    (bad-then beside world c.args.site c.args.addr c.args.n c.remake.new.self _ h.0 h.1)
