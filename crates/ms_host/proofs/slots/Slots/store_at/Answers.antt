use Rattle.std.proofs.Common.{◌≡◌, ◌∙◌, ◌+◌, ◌-◌, ℕ, List, ap, arith}
use Rattle.ms_bits.specs.Maps.{byte_of, with_range}
use Rattle.ms_planes.specs.Areas.{held}
use Rattle.ms_host.proofs.SlotNumbers.{slots-written}
use Rattle.ms_host.proofs.slots.Slots.store_at.Goals as goal

pub returns : goal.returns
returns c = λ cells shows.
    let at = c.args.at in
    let back : at ≡ 0x680000000000 + at - 0x680000000000 = omega arith in
    slots-written c.args.self.now c.put_number.new.bytes.items cells (0x680000000000 + at) c.args.n (byte_of c.args.v) shows (omega arith)
    (c.put_number.ensures.shown
    ∙ ap (λ (xs : List ℕ). with_range (held xs) at c.args.n (byte_of c.args.v)) c.self.view_is
    ∙ ap (λ k. with_range (held c.args.self.now) k c.args.n (byte_of c.args.v)) back)
