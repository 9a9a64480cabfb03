use Rattle.std.proofs.Common.{◌≡◌, List, get_or, Some, sym, ap, ◌∙◌}
use Rattle.ms_alloc.specs.declared.allocations.Allocation.{Allocation}
use Rattle.ms_alloc.proofs.Places.{size-found}
use Rattle.ms_alloc.proofs.areas.Area.block_size.Goals as goal

pub returns : goal.returns
returns c =
    let a : Allocation = c.index.result.now in
    let is : a ≡ get_or c.args.self.now c.in_ok-place.place a = c.index.ensures ∙ ap (λ (xs : List Allocation). get_or xs c.in_ok-place.place a) c.self.view_is in
    ap (λ (b : Allocation). Some b.size) is ∙ sym (size-found c.args.self.now c.args.base c.in_ok-place.place a c.in_ok-place.ensures)
