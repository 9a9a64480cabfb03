use Rattle.std.proofs.Common.{◌∙◌, refl, sym, subst, IsTrue}
use Rattle.ms_alloc.specs.Allocations.{is_good as is_live}
use Rattle.ms_host.specs.State.{WorldState}
use Rattle.ms_host.specs.Shows.{Shows}
use Rattle.ms_host.proofs.worlds.World.poisoned_at.Goals as goal

pub returns : goal.returns
returns c = λ beside world shows.
    let s = subst (λ (h : WorldState). Shows h beside world) (sym c.self.view_is) shows in
    (refl, c.shadow_at-mask.ensures beside world shows, c.origin_at-origin.ensures ∙ sym (s.origins c.args.addr (subst (λ (h : WorldState). IsTrue (is_live c.args.addr 1 h.planes.table)) (sym c.self.view_is) c.requires.live)))
