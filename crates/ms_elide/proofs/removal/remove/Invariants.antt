use Rattle.std.proofs.Common.{take}
use Rattle.ms_elide.specs.Removal.{IsRemoved}
use Rattle.ms_elide.proofs.removal.remove.Given as goal

abbrev pub invariant-loop-item : goal.invariant-loop-item
invariant-loop-item l = IsRemoved (take l.item-index l.items) l.initial.members l.initial.removed.items l.members l.removed.items
