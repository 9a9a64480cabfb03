use Rattle.std.proofs.Common.{sym, subst}
use Rattle.ms_host.specs.State.{WorldState}
use Rattle.ms_host.specs.SlotBytes.{ShowsSlots}
use Rattle.ms_host.proofs.worlds.World.load_slot.Goals as goal

pub returns : goal.returns
returns c = λ cells shown. c.load_at.ensures cells (subst (λ (h : WorldState). ShowsSlots h.slots cells) (sym c.self.view_is) shown)
