use Rattle.std.proofs.Common.{◌≡◌}
use Rattle.std.specs.Prelude.{slice_get, flat_map}
use Rattle.ms_check_types.specs.SizedParts.{type_faults}
use Rattle.ms_check_types.proofs.FirstFaults.{first_from}
use Rattle.ms_check_types.proofs.faults.first_type.Given as goal

abbrev pub invariant-loop-name : goal.invariant-loop-name
invariant-loop-name l = first_from (type_faults l.extents) l.types l.name-index ≡ slice_get (flat_map (type_faults l.extents) l.types) 0
