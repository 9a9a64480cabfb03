use Rattle.std.proofs.Common.{sym}
use Rattle.ms_planes.specs.Areas.{held}
use Rattle.ms_planes.proofs.Ranges.{copy-clean}
use Rattle.ms_planes.proofs.origins.take_origins.Goals as goal

pub returns-then-is_clean-clause-shown : goal.returns-then-is_clean-clause-shown
returns-then-is_clean-clause-shown c =
    sym (copy-clean (held c.args.source.now.shadow) (held c.args.source.now.origins) (held c.args.block.origins) c.args.at c.args.from c.args.n (c.is_clean.ensures c.if-is_clean.true))
