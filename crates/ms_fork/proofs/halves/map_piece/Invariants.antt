use Rattle.std.proofs.Common.{◌≡◌, ◌-◌, ◌≤◌, map}
use Rattle.std.specs.List.{range_with_len}
use Rattle.ms_fork.proofs.halves.map_piece.Given as goal

abbrev pub invariant-loop-index : goal.invariant-loop-index
invariant-loop-index g l = (l.from ≤ l.index) × (l.all.items ≡ map (g.W.Work.answer l.work) (range_with_len l.from (l.index - l.from)))
