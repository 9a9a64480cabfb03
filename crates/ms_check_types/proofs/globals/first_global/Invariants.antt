use Rattle.std.proofs.Common.{◌≡◌, ◌≤◌, ◌^◌}
use Rattle.std.specs.Prelude.{slice_get}
use Rattle.ms_check_valid.specs.SizesFit.{unsized_globals}
use Rattle.ms_check_types.proofs.GlobalSizes.{first_global_from}
use Rattle.ms_check_types.proofs.globals.first_global.Given as goal

abbrev pub invariant-loop-global : goal.invariant-loop-global
invariant-loop-global l =
    (first_global_from l.extents l.taken l.globals l.global-index ≡ slice_get (unsized_globals l.extents 0 l.globals) 0) × (l.taken ≤ 2 ^ 24)
