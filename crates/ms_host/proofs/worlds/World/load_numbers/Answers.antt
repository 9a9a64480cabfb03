use Rattle.std.proofs.Common.{◌∙◌, sym, subst}
use Rattle.ms_planes.specs.Memory.{bytes_of, shadow_of}
use Rattle.ms_host.specs.State.{WorldState}
use Rattle.ms_host.specs.Shows.{Shows}
use Rattle.ms_host.proofs.Agreement.{number-agrees}
use Rattle.ms_host.proofs.Changes.{good-of}
use Rattle.ms_host.proofs.Matched.{match-mapped}
use Rattle.ms_host.proofs.worlds.World.load_numbers.Goals as goal

pub returns : goal.returns
returns c = λ beside world shows.
    let s = subst (λ (h : WorldState). Shows h beside world) (sym c.self.view_is) shows in
    let same = good-of _ beside world c.args.addr c.args.n s in
    match-mapped c.read_both.result
    (λ bad. same ∙ bad)
    (λ r is. (
      same ∙ is.0,
      is.1 ∙ sym (number-agrees c.self.inside.planes.table world.shadow (shadow_of c.self.inside.planes) c.args.addr c.args.n s.shadow is.0),
      is.2 ∙ sym (number-agrees c.self.inside.planes.table world.bytes (bytes_of c.self.inside.planes) c.args.addr c.args.n s.bytes is.0),
    ))
    c.read_both.ensures
