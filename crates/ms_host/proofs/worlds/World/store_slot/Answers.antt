use Rattle.std.proofs.Common.{sym, subst}
use Rattle.ms_host.specs.State.{WorldState}
use Rattle.ms_host.specs.Shows.{Shows}
use Rattle.ms_host.specs.SlotBytes.{ShowsSlots}
use Rattle.ms_host.proofs.Changes.{slots-aside}
use Rattle.ms_host.proofs.worlds.World.store_slot.Goals as goal

pub returns-clause-stored : goal.returns-clause-stored
returns-clause-stored c = λ cells beside world shown shows.
    let s = subst (λ (h : WorldState). Shows h beside world) (sym c.self.view_is) shows in
    (c.store_at.ensures cells (subst (λ (h : WorldState). ShowsSlots h.slots cells) (sym c.self.view_is) shown), slots-aside _ beside world _ s)
