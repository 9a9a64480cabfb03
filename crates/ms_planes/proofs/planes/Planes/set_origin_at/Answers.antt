use Rattle.std.proofs.Common.{◌∙◌}
use Rattle.ms_planes.specs.Memory.{origins_of}
use Rattle.ms_planes.proofs.Stores.{cells-one}
use Rattle.ms_planes.proofs.planes.Planes.set_origin_at.Goals as goal

pub returns-clause-origins : goal.returns-clause-origins
returns-clause-origins c = c.fill_origins.ensures.origins ∙ cells-one (origins_of c.args.self.now) c.args.addr c.args.origin
