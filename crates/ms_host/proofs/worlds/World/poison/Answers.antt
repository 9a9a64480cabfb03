use Rattle.std.proofs.Common.{◌∙◌, sym, subst}
use Rattle.ms_runs.specs.Origins.{poison}
use Rattle.ms_host.specs.State.{WorldState}
use Rattle.ms_host.specs.Shows.{Shows}
use Rattle.ms_host.proofs.Poisoned.{poisoned, not-poisoned}
use Rattle.ms_host.proofs.worlds.World.poison.Goals as goal

pub returns-then-covers-clause-poisoned : goal.returns-then-covers-clause-poisoned
returns-then-covers-clause-poisoned c = λ beside world shows.
    let s = subst (λ (h : WorldState). Shows h beside world) (sym c.self.view_is) shows in
    poisoned _ beside world c.poison.new.self c.args.addr c.args.from c.args.to c.args.origin s c.if-from-to.false (sym c.covers.ensures ∙ c.if-covers.true) c.poison.ensures.table c.poison.ensures.bytes c.poison.ensures.shadow c.poison.ensures.origins

pub returns-else-covers-clause-poisoned : goal.returns-else-covers-clause-poisoned
returns-else-covers-clause-poisoned c = λ beside world shows.
    let s = subst (λ (h : WorldState). Shows h beside world) (sym c.self.view_is) shows in
    subst (λ (h : WorldState). Shows h beside (poison c.args.addr c.args.from c.args.to c.args.origin world)) c.self.view_is
    (not-poisoned _ beside world c.args.addr c.args.from c.args.to c.args.origin s (sym c.covers.ensures ∙ c.if-covers.false))
