use Rattle.std.proofs.Common.{◌≡◌, ◌∙◌, ◌-◌, ℕ, List, ap, refl, ◌+◌, ◌≤◌, sym, subst, true}
use Rattle.ms_bits.specs.Maps.{number_at}
use Rattle.ms_planes.specs.Areas.{held}
use Rattle.ms_ir.specs.Names.{slots}
use Rattle.ms_runs.specs.Plain.{in_slots}
use Rattle.ms_host.proofs.SlotNumbers.{slots-read}
use Rattle.ms_host.proofs.slots.Slots.load.Goals as goal

pub returns-then-among : goal.returns-then-among
returns-then-among c = λ cells shows. (
  subst (λ (k : ℕ). in_slots c.args.a k slots ≡ true) c.from.ensures (sym c.if-among.ensures.is),
  c.number_in.ensures ∙ ap (λ (xs : List ℕ). number_at (held xs) (c.args.a - 0x680000000000) c.args.n) (c.deref.ensures.value ∙ c.self.view_is)
      ∙ slots-read c.args.self.now cells c.args.a c.args.n shows (c.if-among.ensures.low refl) (subst (λ (k : ℕ). c.args.a + k ≤ 0x680000003004) c.from.ensures (c.if-among.ensures.high refl)),
)
