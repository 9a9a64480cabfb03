use Rattle.std.proofs.Common.{◌∙◌, sym, subst}
use Rattle.ms_runs.specs.Origins.{unpoison}
use Rattle.ms_host.specs.State.{WorldState}
use Rattle.ms_host.specs.Shows.{Shows}
use Rattle.ms_host.proofs.Poisoned.{cleaned, not-cleaned}
use Rattle.ms_host.proofs.worlds.World.unpoison.Goals as goal

pub returns-then-covers-clause-cleaned : goal.returns-then-covers-clause-cleaned
returns-then-covers-clause-cleaned c = λ beside world shows.
    let s = subst (λ (h : WorldState). Shows h beside world) (sym c.self.view_is) shows in
    cleaned _ beside world c.unpoison.new.self c.args.addr c.args.n s (sym c.covers.ensures ∙ c.if-covers.true) c.unpoison.ensures.table c.unpoison.ensures.bytes c.unpoison.ensures.shadow c.unpoison.ensures.origins

pub returns-else-covers-clause-cleaned : goal.returns-else-covers-clause-cleaned
returns-else-covers-clause-cleaned c = λ beside world shows.
    let s = subst (λ (h : WorldState). Shows h beside world) (sym c.self.view_is) shows in
    subst (λ (h : WorldState). Shows h beside (unpoison c.args.addr c.args.n world)) c.self.view_is (not-cleaned _ beside world c.args.addr c.args.n s (sym c.covers.ensures ∙ c.if-covers.false))
