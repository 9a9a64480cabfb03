use Rattle.std.proofs.Common.{subst}
use Rattle.ms_alloc.specs.Allocations.{IsLaidOut}
use Rattle.ms_host.specs.State.{WorldState}
use Rattle.ms_host.proofs.worlds.World.law_laid_out.Goals as goal

pub returns : goal.returns
returns c = subst (λ (h : WorldState). IsLaidOut h.planes.table) c.self.view_is c.law_laid_out.ensures
