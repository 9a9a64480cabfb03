use Rattle.std.proofs.Common.{◌≡◌, ◌+◌, drop}
use Rattle.ms_check_valid.specs.TypesAgree.{first_misstep}
use Rattle.ms_check_types.specs.Bodies.{fits_in, types_of}
use Rattle.ms_check_types.proofs.geps.first_misstep.Given as goal

abbrev pub invariant-loop-place : goal.invariant-loop-place
invariant-loop-place l =
    first_misstep (fits_in l.body) (types_of l.body) l.whole (2 + l.place) (drop l.place l.indices) ≡ first_misstep (fits_in l.body) (types_of l.body) l.ty 2 l.indices
