use Rattle.std.proofs.Common.{sym, subst}
use Rattle.ms_host.specs.State.{WorldState}
use Rattle.ms_host.specs.Shows.{Shows}
use Rattle.ms_host.proofs.Changes.{released}
use Rattle.ms_host.proofs.worlds.World.release.Goals as goal

pub returns-clause-released : goal.returns-clause-released
returns-clause-released c = λ beside world shows.
    let s = subst (λ (h : WorldState). Shows h beside world) (sym c.self.view_is) shows in
    released _ beside world c.release.new.self c.args.mark s c.law_laid_out.ensures c.release.ensures.table c.release.ensures.live
