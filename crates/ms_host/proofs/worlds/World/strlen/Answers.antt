use Rattle.std.proofs.Common.{sym, subst, length, Some, None}
use Rattle.ms_bits.specs.declared.traps.Trap.TheVariants as trap
use Rattle.ms_runs.specs.World.{Gives, traps}
use Rattle.ms_runs.specs.Externals.{string_at}
use Rattle.ms_host.specs.declared.calls.Answer.{Answer}
use Rattle.ms_host.specs.Answers.{Answered}
use Rattle.ms_host.proofs.Effects.{strlen-then, strlen-bad}
use Rattle.ms_host.proofs.worlds.World.strlen.Goals as goal

pub returns-in-Some : goal.returns-in-Some
returns-in-Some c = λ beside world shows. strlen-then beside world c.args.site c.args.addr c.in-Some.n c.args.self.now (c.in-Some.ensures.string beside world shows) shows

pub returns-in-None : goal.returns-in-None
returns-in-None c = λ beside world shows.
    subst (λ (a : Answer). Answered beside (elim (string_at world c.args.addr) [ Some bs ↦ Gives (length bs) world | None ↦ traps trap.BadAddress c.args.site world ]) a c.args.self.now) (sym c.trap.ensures)
    (strlen-bad beside world c.args.site c.args.addr c.args.self.now (c.in-None.ensures.string beside world shows) shows)
