use Rattle.std.proofs.Common.{◌≡◌, ◌≤◌}
use Rattle.ms_check_tables.specs.Kept.{links_of}
use Rattle.ms_check_tables.proofs.extents.Extents.of.Given as goal

abbrev pub invariant-loop-link : goal.invariant-loop-link
invariant-loop-link l = (l.kept ≡ links_of l.m.types l._link) × (l._link ≤ 32)
