use Rattle.std.proofs.Common.{◌≡◌, drop}
use Rattle.ms_top.specs.Said.{has_status}
use Rattle.ms_top.proofs.corpus.any_with.Given as goal

abbrev pub invariant-loop-told : goal.invariant-loop-told
invariant-loop-told l = has_status l.status (drop l.told-index l.results) ≡ has_status l.status l.results
