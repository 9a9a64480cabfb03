use Rattle.std.proofs.Common.{ℕ, List, sym, subst, inl}
use Rattle.ms_host.specs.State.{WorldState}
use Rattle.ms_host.specs.Shows.{Shows}
use Rattle.ms_host.specs.SlotBytes.{ShowsSlots}
use Rattle.ms_host.proofs.Changes.{slots-aside}
use Rattle.ms_host.proofs.MarkedAccesses.{to-shadow}
use Rattle.ms_host.proofs.worlds.World.store_marked.Goals as goal

pub returns-then-store-clause-stored : goal.returns-then-store-clause-stored
returns-then-store-clause-stored c = λ cells beside world shown shows.
    let s = subst (λ (h : WorldState). Shows h beside world) (sym c.self.view_is) shows in
    let r = c.if-store.ensures cells (subst (λ (h : WorldState). ShowsSlots h.slots cells) (sym c.self.view_is) shown) in
    inl (r.0, r.1, slots-aside _ beside world _ s)

pub returns-else-store-clause-stored : goal.returns-else-store-clause-stored
returns-else-store-clause-stored c = λ cells beside world shown shows.
    let s = subst (λ (h : WorldState). Shows h beside world) (sym c.self.view_is) shows in
    let r = c.if-store.ensures cells (subst (λ (h : WorldState). ShowsSlots h.slots cells) (sym c.self.view_is) shown) in
    to-shadow c.args.addr c.args.n c.args.v cells world beside c.store_shadow.result c.store_shadow.new.self r.0
    (subst (λ (bytes : List ℕ). ShowsSlots bytes cells) (sym c.store_shadow.ensures.keeps.slots) r.1)
    (c.store_shadow.ensures.stored beside world (slots-aside _ beside world _ s))
