use Rattle.std.proofs.Common.{◌∙◌, sym, subst}
use Rattle.ms_alloc.specs.declared.kinds.AllocKind.TheVariants as kind
use Rattle.ms_host.specs.State.{WorldState}
use Rattle.ms_host.specs.Shows.{Shows}
use Rattle.ms_host.proofs.Tables.{base-same}
use Rattle.ms_host.proofs.worlds.World.mark.Goals as goal

pub returns : goal.returns
returns c = λ beside world shows.
    let s = subst (λ (h : WorldState). Shows h beside world) (sym c.self.view_is) shows in
    c.mark.ensures ∙ sym (base-same c.self.inside.planes.table world kind.Stack c.law_laid_out.ensures s.allocs)
