use Rattle.std.proofs.Common.{sym, subst, inl}
use Rattle.ms_host.specs.State.{WorldState}
use Rattle.ms_host.specs.SlotBytes.{ShowsSlots}
use Rattle.ms_host.proofs.MarkedAccesses.{from-shadow}
use Rattle.ms_host.proofs.worlds.World.load_marked.Goals as goal

pub returns-in-Some : goal.returns-in-Some
returns-in-Some c = λ cells beside world shown shows.
    inl (c.in-Some.ensures cells (subst (λ (h : WorldState). ShowsSlots h.slots cells) (sym c.self.view_is) shown))

pub returns-in-None : goal.returns-in-None
returns-in-None c = λ cells beside world shown shows.
    from-shadow c.args.addr c.args.n cells world c.load_shadow.result (c.in-None.ensures cells (subst (λ (h : WorldState). ShowsSlots h.slots cells) (sym c.self.view_is) shown)) (c.load_shadow.ensures beside world shows)
