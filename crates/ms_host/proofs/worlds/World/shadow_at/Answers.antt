use Rattle.std.proofs.Common.{◌∙◌, sym, subst, IsTrue}
use Rattle.ms_alloc.specs.Allocations.{is_good as is_live}
use Rattle.ms_planes.specs.Memory.{shadow_of}
use Rattle.ms_host.specs.State.{WorldState}
use Rattle.ms_host.specs.Shows.{Shows}
use Rattle.ms_host.proofs.Poisoned.{one-byte}
use Rattle.ms_host.proofs.worlds.World.shadow_at.Goals as goal

pub returns : goal.returns
returns c = λ beside world shows.
    let s = subst (λ (h : WorldState). Shows h beside world) (sym c.self.view_is) shows in
    c.load_shadow.ensures ∙ one-byte (shadow_of c.self.inside.planes) c.args.addr
    ∙ sym (s.shadow c.args.addr (subst (λ (h : WorldState). IsTrue (is_live c.args.addr 1 h.planes.table)) (sym c.self.view_is) c.requires))
