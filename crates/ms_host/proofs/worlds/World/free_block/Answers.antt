use Rattle.std.proofs.Common.{◌∙◌, refl, sym, subst}
use Rattle.ms_host.specs.State.{WorldState}
use Rattle.ms_host.specs.Shows.{Shows}
use Rattle.ms_host.proofs.Tables.{heap-size-same}
use Rattle.ms_host.proofs.Changes.{ended, unchanged, no-end}
use Rattle.ms_host.proofs.worlds.World.free_block.Goals as goal

pub returns-clause-size : goal.returns-clause-size
returns-clause-size c = λ beside world shows.
    let s = subst (λ (h : WorldState). Shows h beside world) (sym c.self.view_is) shows in
    sym (heap-size-same c.self.inside.planes.table world c.args.base c.law_laid_out.ensures s.allocs ∙ c.in-Ok.ensures.size)

pub returns-clause-ended : goal.returns-clause-ended
returns-clause-ended c = λ beside world shows.
    let s = subst (λ (h : WorldState). Shows h beside world) (sym c.self.view_is) shows in
    ended _ beside world c.end.new.self c.args.base s c.law_laid_out.ensures c.in-Ok.ensures.table c.end.ensures.live

pub returns-in_default-clause-size : goal.returns-in_default-clause-size
returns-in_default-clause-size c = λ beside world shows.
    let s = subst (λ (h : WorldState). Shows h beside world) (sym c.self.view_is) shows in
    sym (heap-size-same c.self.inside.planes.table world c.args.base c.law_laid_out.ensures s.allocs ∙ c.in_default.ensures.bad_free.0 refl)

pub returns-in_default-clause-ended : goal.returns-in_default-clause-ended
returns-in_default-clause-ended c = λ beside world shows.
    let s = subst (λ (h : WorldState). Shows h beside world) (sym c.self.view_is) shows in
    no-end _ beside world c.args.base (heap-size-same c.self.inside.planes.table world c.args.base c.law_laid_out.ensures s.allocs ∙ c.in_default.ensures.bad_free.0 refl)
    (unchanged _ beside world c.end.new.self s c.in_default.ensures.unchanged)
