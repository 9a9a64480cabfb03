use Rattle.std.proofs.Common.{◌≡◌, List, get_or, false, sym, ap, ◌∙◌}
use Rattle.ms_alloc.specs.declared.allocations.Allocation.{Allocation}
use Rattle.ms_alloc.specs.Allocations.{covers}
use Rattle.ms_alloc.proofs.Places.{find-owner, find-nowhere, owner-only, none-matches}
use Rattle.ms_alloc.proofs.areas.Area.place_covering.Goals as goal

pub returns-in_err-index : goal.returns-in_err-index
returns-in_err-index c =
    none-matches _ _ c.from_residual.result c.from_residual.ensures (find-nowhere c.args.kind c.args.self.now c.args.addr c.args.n c.requires.some c.requires.area c.in_err-index.ensures)

pub returns-then-covers : goal.returns-then-covers
returns-then-covers c =
    let a : Allocation = c.index.result.now in
    let is : a ≡ get_or c.args.self.now c.in_ok-index.index a = c.index.ensures ∙ ap (λ (xs : List Allocation). get_or xs c.in_ok-index.index a) c.self.view_is in
    owner-only c.args.kind c.args.self.now c.args.addr c.args.n c.in_ok-index.index a c.requires.some c.requires.area c.in_ok-index.ensures
    (ap (covers c.args.addr c.args.n) (sym is) ∙ sym c.if-covers.ensures)

pub returns-else-covers : goal.returns-else-covers
returns-else-covers c =
    let a : Allocation = c.index.result.now in
    let is : a ≡ get_or c.args.self.now c.in_ok-index.index a = c.index.ensures ∙ ap (λ (xs : List Allocation). get_or xs c.in_ok-index.index a) c.self.view_is in
    sym (find-owner c.args.kind c.args.self.now c.args.addr c.args.n c.in_ok-index.index a false c.requires.some c.requires.area c.in_ok-index.ensures
    (ap (covers c.args.addr c.args.n) (sym is) ∙ sym c.if-covers.ensures))
