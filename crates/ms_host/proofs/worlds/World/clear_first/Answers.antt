use Rattle.std.proofs.Common.{ℕ, sym, subst}
use Rattle.ms_bits.specs.Maps.{with_range}
use Rattle.ms_ir.specs.declared.calls.Slot.TheVariants as slot
use Rattle.ms_ir.specs.Names.{slot_room}
use Rattle.ms_host.specs.State.{WorldState}
use Rattle.ms_host.specs.SlotBytes.{ShowsSlots}
use Rattle.ms_host.proofs.SlotNumbers.{first_mask_put, first_origin_put}
use Rattle.ms_host.proofs.worlds.World.clear_first.Goals as goal

pub returns-clause-slots : goal.returns-clause-slots
returns-clause-slots c = λ cells shown.
    let mid : ℕ → ℕ = with_range cells (slot_room slot.ParamMasks).0 8 (λ k. 0) in
    let one = first_mask_put c.address.result c.address.ensures cells _ c.store.result (c.store.ensures cells (subst (λ (h : WorldState). ShowsSlots h.slots cells) (sym c.self.view_is) shown)) in
    first_origin_put c.address-2.result c.address-2.ensures mid _ c.store-2.result (c.store-2.ensures mid one)
