use Rattle.std.proofs.Common.{◌+◌, length}
use Rattle.ms_elide.specs.Removal.{IsState, count_members}
use Rattle.ms_elide.proofs.removal.settle.Given as goal

abbrev pub invariant-loop-item : goal.invariant-loop-item
invariant-loop-item l = IsState l.needs l.members.items l.removed.items

abbrev pub decreases-loop-item : goal.decreases-loop-item
decreases-loop-item l = count_members l.members.items + length l.removed.items
