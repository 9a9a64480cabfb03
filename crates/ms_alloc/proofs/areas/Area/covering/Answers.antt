use Rattle.std.proofs.Common.{◌≡◌, List, get_or, Some, sym, ap, ◌∙◌}
use Rattle.ms_alloc.specs.declared.allocations.Allocation.{Allocation}
use Rattle.ms_alloc.specs.Allocations.{covers}
use Rattle.ms_alloc.proofs.Searches.{find-at}
use Rattle.ms_alloc.proofs.areas.Area.covering.Goals as goal

pub returns : goal.returns
returns c =
    let a : Allocation = c.index.result.now in
    let is : a ≡ get_or c.args.self.now c.in_ok-index.index a = c.index.ensures ∙ ap (λ (xs : List Allocation). get_or xs c.in_ok-index.index a) c.self.view_is in
    ap Some is ∙ sym (find-at (covers c.args.addr c.args.n) c.args.self.now c.in_ok-index.index a c.in_ok-index.ensures)
