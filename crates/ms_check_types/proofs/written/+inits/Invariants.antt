use Rattle.std.proofs.Common.{◌≡◌, ◌+◌, ◌*◌, take, true}
use Rattle.std.specs.List.{list_all}
use denote.Param.Weighed.{most}
use Rattle.ms_ir.specs.declared.syntax.Init.{size-Init}
use Rattle.ms_check_types.specs.SizedParts.{is_item_sized}
use Rattle.ms_check_types.proofs.written.+inits.Given as goal

abbrev pub decreases-is_init_sized : goal.decreases-is_init_sized
decreases-is_init_sized l = 2 * goal.size-is_init_sized l

-- the greatest depth among the items
abbrev pub decreases-are_items_sized : goal.decreases-are_items_sized
decreases-are_items_sized l = 2 * most (λ p. size-Init p.1) l.items.now + 1

abbrev pub invariant-are_items_sized-loop-ty : goal.invariant-are_items_sized-loop-ty
invariant-are_items_sized-loop-ty l = list_all (is_item_sized l.extents) (take l.ty-index l.items) ≡ true
