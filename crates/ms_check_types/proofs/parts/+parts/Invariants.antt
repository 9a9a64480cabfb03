use Rattle.std.proofs.Common.{◌≡◌, take, true}
use Rattle.std.specs.List.{list_all}
use Rattle.ms_check_types.specs.SizedParts.{has_sizes}
use Rattle.ms_check_types.proofs.parts.+parts.Given as goal

abbrev pub invariant-all_have_sizes-loop-ty : goal.invariant-all_have_sizes-loop-ty
invariant-all_have_sizes-loop-ty l = list_all (has_sizes l.extents) (take l.ty-index l.types) ≡ true
