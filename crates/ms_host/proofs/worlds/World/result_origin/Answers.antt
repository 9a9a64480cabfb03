use Rattle.std.proofs.Common.{◌%◌, ◌^◌, sym, ap, ◌∙◌, subst}
use Rattle.ms_bits.specs.Maps.{number_at}
use Rattle.ms_host.specs.State.{WorldState}
use Rattle.ms_host.specs.SlotBytes.{ShowsSlots}
use Rattle.ms_host.proofs.SlotNumbers.{origin_lies}
use Rattle.ms_host.proofs.worlds.World.result_origin.Goals as goal

pub returns-in-Some : goal.returns-in-Some
returns-in-Some c = λ cells shown.
    let r = c.in-Some.ensures cells (subst (λ (h : WorldState). ShowsSlots h.slots cells) (sym c.self.view_is) shown) in
    ap (λ v. v % 2 ^ 32) (r.1 ∙ ap (λ a. number_at cells a 4) c.address.ensures)

pub returns-in-None : goal.returns-in-None
returns-in-None c = λ cells shown.
    origin_lies c.address.result c.address.ensures (c.in-None.ensures cells (subst (λ (h : WorldState). ShowsSlots h.slots cells) (sym c.self.view_is) shown))
