use Rattle.std.proofs.Common.{◌∙◌, Bool, ap, sym, subst, if◌then◌else◌}
use Rattle.std.proofs.lemmas.Bool.{ne_eqb}
use Rattle.ms_bits.specs.Maps.{with_cells}
use Rattle.ms_planes.specs.Memory.{origins_of}
use Rattle.ms_host.specs.State.{WorldState}
use Rattle.ms_host.specs.Shows.{Shows}
use Rattle.ms_host.proofs.Poisoned.{poison-set}
use Rattle.ms_host.proofs.worlds.World.fill_planes.Goals as goal

pub returns-clause-filled : goal.returns-clause-filled
returns-clause-filled c = λ beside world shows.
    let s = subst (λ (h : WorldState). Shows h beside world) (sym c.self.view_is) shows in
    let before = origins_of c.self.inside.planes in
    poison-set _ beside world c.poison.new.self c.args.addr c.args.n c.args.origin (λ k. c.args.mask) s c.poison.ensures.table c.poison.ensures.bytes c.poison.ensures.shadow
    (c.poison.ensures.origins ∙ ap (λ (b : Bool). if b then before else with_cells before c.args.addr c.args.n c.args.origin) (ne_eqb c.args.mask 0 c.requires.some))
