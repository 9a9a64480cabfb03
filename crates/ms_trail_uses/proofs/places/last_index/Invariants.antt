use Rattle.std.proofs.Common.{◌≡◌, ◌≤◌, ◌+◌, drop}
use Rattle.ms_trail_uses.specs.Origins.{last_stride}
use Rattle.ms_trail_uses.proofs.places.last_index.Given as goal

abbrev pub invariant-loop-k : goal.invariant-loop-k
invariant-loop-k l = record {
  near : l.next ≤ l.k;
  best : last_stride l.view.masks.now l.typed l.strides 1 0 ≡ last_stride l.view.masks.now (drop l.k l.typed) (drop l.next l.strides) (l.k + 1) l.best;
}
