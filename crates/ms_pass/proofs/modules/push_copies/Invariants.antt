use Rattle.std.proofs.Common.{◌≡◌, ◌++◌, take}
use Rattle.ms_pass.proofs.modules.push_copies.Given as goal

abbrev pub invariant-loop-item : goal.invariant-loop-item
invariant-loop-item g l = l.items.items ≡ l.fn.items.items ++ take l.item-index l.more
