use Rattle.std.proofs.Common.{sym, ◌∙◌, IsTrue}
use Rattle.ms_alloc.specs.Allocations.{is_good as is_live}
use Rattle.ms_trail_uses.proofs.Uses.{range_found, range_bad}
use Rattle.ms_trail_uses.proofs.used.range.Goals as goal

pub first_poisoned-found-requires : goal.first_poisoned-found-requires
first_poisoned-found-requires c = sym c.covers-good.ensures.table ∙ c.if-good.true

pub returns-then-good : goal.returns-then-good
returns-then-good c = λ beside meant shows.
    let live : IsTrue (is_live c.args.addr c.args.n c.args.world.now.planes.table) = sym c.covers-good.ensures.table ∙ c.if-good.true in
    c.byte_found.ensures
    ∙ range_found c.args.world.now.planes.table meant c.args.addr c.args.n c.first_poisoned-found.result c.law_laid_out.ensures live (sym (c.covers-good.ensures.good beside meant shows) ∙ c.if-good.true)
    (c.first_poisoned-found.ensures beside meant shows)

pub returns-else-good : goal.returns-else-good
returns-else-good c = λ beside meant shows. range_bad meant c.args.addr c.args.n (sym (c.covers-good.ensures.good beside meant shows) ∙ c.if-good.false)
