use Rattle.std.proofs.Common.{ap, ◌∙◌}
use Rattle.ms_check_types.specs.SizedParts.{is_typed_sized}
use Rattle.ms_check_types.specs.Typed.{holds_at}
use Rattle.ms_check_types.proofs.sized_bodies.is_operand_at_sized.Goals as goal

pub returns-in-Some : goal.returns-in-Some
returns-in-Some c = c.is_typed_sized.ensures ∙ ap (holds_at (is_typed_sized c.args.extents.now)) c.in-Some.ensures

pub returns-in-None : goal.returns-in-None
returns-in-None c = ap (holds_at (is_typed_sized c.args.extents.now)) c.in-None.ensures
