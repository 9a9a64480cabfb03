use Rattle.std.proofs.Common.{◌∙◌}
use Rattle.ms_planes.proofs.planes.Planes.poison.Goals as goal

pub returns-then-mask-ne0-clause-shadow : goal.returns-then-mask-ne0-clause-shadow
returns-then-mask-ne0-clause-shadow c = c.fill_origins.ensures.shadow ∙ c.fill.ensures.shown
