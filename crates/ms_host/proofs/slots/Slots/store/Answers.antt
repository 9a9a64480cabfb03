use Rattle.std.proofs.Common.{◌≡◌, ◌∙◌, ◌-◌, ℕ, List, ap, refl, sym, subst, true}
use Rattle.ms_bits.specs.Maps.{byte_of, with_range}
use Rattle.ms_planes.specs.Areas.{held}
use Rattle.ms_ir.specs.Names.{slots}
use Rattle.ms_runs.specs.Plain.{in_slots}
use Rattle.ms_host.proofs.Changes.{on-true}
use Rattle.ms_host.proofs.SlotNumbers.{slots-written}
use Rattle.ms_host.proofs.slots.Slots.store.Goals as goal

pub returns-then-found : goal.returns-then-found
returns-then-found c = λ cells shows.
    on-true c.among-found.result _ _ c.if-found.true (
      subst (λ (k : ℕ). in_slots c.args.a k slots ≡ true) c.from.ensures (sym c.if-found.ensures.is),
      slots-written c.args.self.now c.put_number.new.bytes.items cells c.args.a c.args.n (byte_of c.args.v) shows (c.if-found.ensures.low refl)
          (c.put_number.ensures.shown ∙ ap (λ (xs : List ℕ). with_range (held xs) (c.args.a - 0x680000000000) c.args.n (byte_of c.args.v)) c.self.view_is),
    )
