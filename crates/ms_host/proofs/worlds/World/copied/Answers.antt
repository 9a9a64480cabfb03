use Rattle.std.proofs.Common.{sym, subst}
use Rattle.ms_runs.specs.Memory.{copy_bytes}
use Rattle.ms_runs.specs.Externals.{where_good}
use Rattle.ms_host.specs.declared.calls.Answer.{Answer}
use Rattle.ms_host.specs.Answers.{Answered, resumed}
use Rattle.ms_host.proofs.Effects.{good-then, bad-two, resumed-same, if-true, if-false}
use Rattle.ms_host.proofs.worlds.World.copied.Goals as goal

pub returns-then-branch-clause-answered : goal.returns-then-branch-clause-answered
returns-then-branch-clause-answered c = λ beside world shows.
    let h = if-true c.in_ok-copy.field-0 _ _ c.if-branch.true (c.in_ok-copy.ensures.copied beside world shows) in
    good-then beside _ world c.args.site c.args.to c.args.n c.copy.new.self _ h.0
    (good-then beside _ world c.args.site c.args.from c.args.n c.copy.new.self _ h.1
    (resumed-same beside c.args.answer (copy_bytes c.args.to c.args.from c.args.n world) c.copy.new.self h.2))

pub returns-else-branch-clause-answered : goal.returns-else-branch-clause-answered
returns-else-branch-clause-answered c = λ beside world shows.
    let h = if-false c.in_ok-copy.field-0 _ _ c.if-branch.false (c.in_ok-copy.ensures.copied beside world shows) in
    subst (λ (a : Answer). Answered beside (where_good c.args.site c.args.to c.args.n world (where_good c.args.site c.args.from c.args.n world (resumed c.args.answer (copy_bytes c.args.to c.args.from c.args.n world)))) a c.copy.new.self) (sym c.trap.ensures)
    (bad-two beside world c.args.site c.args.to c.args.from c.args.n c.copy.new.self _ h.0 h.1)
