use Rattle.std.proofs.Common.{◌∙◌}
use Rattle.ms_check_types.specs.SizedParts.{has_sizes}
use Rattle.ms_check_types.proofs.AllSized.{own_sized, none_own}
use Rattle.ms_check_types.proofs.sized_bodies.is_own_sized.Goals as goal

pub returns-in-Some : goal.returns-in-Some
returns-in-Some c = c.has_sizes.ensures ∙ own_sized (has_sizes c.args.extents.now) c.args.op.now c.in-Some.ty.now c.in-Some.ensures

pub returns-in-None : goal.returns-in-None
returns-in-None c = none_own (has_sizes c.args.extents.now) c.args.op.now c.in-None.ensures
