use Rattle.std.proofs.Common.{◌∙◌, ◌+◌, ◌-◌, arith, sym, subst, IsTrue}
use Rattle.ms_alloc.specs.Allocations.{is_good as is_live}
use Rattle.ms_host.specs.State.{WorldState}
use Rattle.ms_host.specs.Shows.{Shows}
use Rattle.ms_host.proofs.StringSteps.{Ending, ending, no-ending, room-same}
use Rattle.ms_host.proofs.worlds.World.bytes_left.Goals as goal

pub overflow_add-result : goal.overflow_add-result
overflow_add-result c =
    let e : Ending c.self.inside.planes.table c.args.addr c.in-Some.base c.in-Some.size = ending c.self.inside.planes.table c.args.addr c.in-Some.base c.in-Some.size c.law_laid_out.ensures (sym c.block_of.ensures ∙ c.in-Some.is) in
    omega (arith, e.low)

pub overflow_sub-result : goal.overflow_sub-result
overflow_sub-result c =
    let e : Ending c.self.inside.planes.table c.args.addr c.in-Some.base c.in-Some.size = ending c.self.inside.planes.table c.args.addr c.in-Some.base c.in-Some.size c.law_laid_out.ensures (sym c.block_of.ensures ∙ c.in-Some.is) in
    omega (arith, e.to)

pub returns-in-Some-clause-room : goal.returns-in-Some-clause-room
returns-in-Some-clause-room c = λ beside world shows.
    let s = subst (λ (h : WorldState). Shows h beside world) (sym c.self.view_is) shows in
    let e : Ending c.self.inside.planes.table c.args.addr c.in-Some.base c.in-Some.size = ending c.self.inside.planes.table c.args.addr c.in-Some.base c.in-Some.size c.law_laid_out.ensures (sym c.block_of.ensures ∙ c.in-Some.is) in
    sym (room-same c.self.inside.planes.table world c.args.addr c.law_laid_out.ensures s.allocs ∙ e.room)

pub returns-in-Some-clause-good : goal.returns-in-Some-clause-good
returns-in-Some-clause-good c =
    let e : Ending c.self.inside.planes.table c.args.addr c.in-Some.base c.in-Some.size = ending c.self.inside.planes.table c.args.addr c.in-Some.base c.in-Some.size c.law_laid_out.ensures (sym c.block_of.ensures ∙ c.in-Some.is) in
    subst (λ (h : WorldState). IsTrue (is_live c.args.addr (c.in-Some.base + c.in-Some.size - c.args.addr) h.planes.table)) c.self.view_is e.good

pub returns-in-None-clause-room : goal.returns-in-None-clause-room
returns-in-None-clause-room c = λ beside world shows.
    let s = subst (λ (h : WorldState). Shows h beside world) (sym c.self.view_is) shows in
    sym (room-same c.self.inside.planes.table world c.args.addr c.law_laid_out.ensures s.allocs ∙ no-ending c.self.inside.planes.table c.args.addr (sym c.block_of.ensures ∙ c.in-None.is))
