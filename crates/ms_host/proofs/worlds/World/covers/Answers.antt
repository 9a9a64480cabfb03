use Rattle.std.proofs.Common.{◌∙◌, sym, subst}
use Rattle.ms_host.specs.State.{WorldState}
use Rattle.ms_host.specs.Shows.{Shows}
use Rattle.ms_host.proofs.Changes.{good-of}
use Rattle.ms_host.proofs.worlds.World.covers.Goals as goal

pub returns-clause-good : goal.returns-clause-good
returns-clause-good c = λ beside world shows.
    let s = subst (λ (h : WorldState). Shows h beside world) (sym c.self.view_is) shows in
    c.covers.ensures ∙ sym (good-of _ beside world c.args.addr c.args.n s)
