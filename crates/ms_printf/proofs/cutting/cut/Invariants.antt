use Rattle.std.proofs.Common.{length}
use Rattle.ms_printf.proofs.Cuts.{CutSoFar}
use Rattle.ms_printf.proofs.cutting.cut.Given as goal

abbrev pub invariant-cut : goal.invariant-cut
invariant-cut l = CutSoFar l.format l.pieces.items l.rest

abbrev pub decreases-cut : goal.decreases-cut
decreases-cut l = length l.rest
