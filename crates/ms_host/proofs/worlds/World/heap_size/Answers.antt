use Rattle.std.proofs.Common.{◌∙◌, sym, subst}
use Rattle.ms_host.specs.State.{WorldState}
use Rattle.ms_host.specs.Shows.{Shows}
use Rattle.ms_host.proofs.Tables.{heap-size-same}
use Rattle.ms_host.proofs.worlds.World.heap_size.Goals as goal

pub returns-clause-size : goal.returns-clause-size
returns-clause-size c = λ beside world shows.
    let s = subst (λ (h : WorldState). Shows h beside world) (sym c.self.view_is) shows in
    c.heap_size.ensures ∙ sym (heap-size-same c.self.inside.planes.table world c.args.base c.law_laid_out.ensures s.allocs)
