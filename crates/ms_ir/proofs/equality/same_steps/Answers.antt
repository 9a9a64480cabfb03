use Rattle.std.proofs.Common.{◌∙◌}
use Rattle.ms_ir.proofs.Differing.{pointwise_steps}
use Rattle.ms_ir.proofs.equality.same_steps.Goals as goal

pub returns : goal.returns
returns c = c.eq.ensures ∙ pointwise_steps c.args.steps.now c.args.others.now
