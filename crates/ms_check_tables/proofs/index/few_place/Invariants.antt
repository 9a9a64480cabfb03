use Rattle.std.proofs.Common.{◌≡◌, drop, None}
use Rattle.ms_check_tables.specs.Index.{place_few}
use Rattle.ms_check_tables.proofs.index.few_place.Given as goal

abbrev pub invariant-loop-entry : goal.invariant-loop-entry
invariant-loop-entry l = place_few l.found (drop l.entry-index l.few) l.text ≡ place_few None l.few l.text
