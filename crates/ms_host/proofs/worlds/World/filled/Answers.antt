use Rattle.std.proofs.Common.{sym, subst}
use Rattle.ms_runs.specs.Memory.{set_bytes}
use Rattle.ms_runs.specs.Externals.{where_good}
use Rattle.ms_host.specs.declared.calls.Answer.{Answer}
use Rattle.ms_host.specs.Answers.{Answered, resumed}
use Rattle.ms_host.proofs.Effects.{good-then, bad-then, resumed-same}
use Rattle.ms_host.proofs.worlds.World.filled.Goals as goal

pub returns-then-set-clause-answered : goal.returns-then-set-clause-answered
returns-then-set-clause-answered c = λ beside world shows.
    let h = c.if-set.ensures.set beside world shows in
    good-then beside _ world c.args.site c.args.addr c.args.n c.set.new.self _ h.0 (resumed-same beside c.args.answer (set_bytes c.args.addr c.args.n (λ k. c.args.byte) world) c.set.new.self h.1)

pub returns-else-set-clause-answered : goal.returns-else-set-clause-answered
returns-else-set-clause-answered c = λ beside world shows.
    let h = c.if-set.ensures.set beside world shows in
    subst (λ (a : Answer). Answered beside (where_good c.args.site c.args.addr c.args.n world (resumed c.args.answer (set_bytes c.args.addr c.args.n (λ k. c.args.byte) world))) a c.set.new.self) (sym c.trap.ensures)
    (bad-then beside world c.args.site c.args.addr c.args.n c.set.new.self _ h.0 h.1)
