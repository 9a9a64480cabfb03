use Rattle.std.proofs.Common.{◌≡◌, ◌%◌, ◌^◌, sym, ap, ◌∙◌, subst, arith}
use Rattle.std.proofs.Math.Nat.{mod-eq_of_lt}
use Rattle.ms_bits.specs.Maps.{number_at}
use Rattle.ms_ir.specs.declared.calls.Slot.TheVariants as slot
use Rattle.ms_ir.specs.Names.{slot_room}
use Rattle.ms_host.specs.State.{WorldState}
use Rattle.ms_host.specs.SlotBytes.{ShowsSlots}
use Rattle.ms_host.proofs.SlotNumbers.{mask_lies}
use Rattle.ms_host.proofs.worlds.World.result_mask.Goals as goal

pub returns-in-Some : goal.returns-in-Some
returns-in-Some c = λ cells shown.
    let r = c.in-Some.ensures cells (subst (λ (h : WorldState). ShowsSlots h.slots cells) (sym c.self.view_is) shown) in
    let s : c.in-Some.mask ≡ number_at cells (slot_room slot.RetvalMask).0 8 = r.1 ∙ ap (λ a. number_at cells a 8) c.address.ensures in
    sym (mod-eq_of_lt (omega arith)) ∙ ap (λ v. v % 2 ^ 64) s

pub returns-in-None : goal.returns-in-None
returns-in-None c = λ cells shown.
    mask_lies c.address.result c.address.ensures (c.in-None.ensures cells (subst (λ (h : WorldState). ShowsSlots h.slots cells) (sym c.self.view_is) shown))
