use Rattle.std.proofs.Common.{ap, ◌∙◌}
use Rattle.ms_check_types.specs.Parts.{part_by}
use Rattle.ms_check_types.proofs.steps.part.Goals as goal

pub returns-in-Some : goal.returns-in-Some
returns-in-Some c = c.part_of.ensures ∙ ap (λ w. part_by w c.args.index_ty.now c.args.index) c.in-Some.ensures

pub returns-in-None : goal.returns-in-None
returns-in-None c = ap (λ w. part_by w c.args.index_ty.now c.args.index) c.in-None.ensures
