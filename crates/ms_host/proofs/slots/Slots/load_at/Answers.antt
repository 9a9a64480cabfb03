use Rattle.std.proofs.Common.{◌≡◌, ◌∙◌, ◌+◌, ◌-◌, ℕ, List, ap, arith}
use Rattle.ms_bits.specs.Maps.{number_at}
use Rattle.ms_planes.specs.Areas.{held}
use Rattle.ms_host.proofs.SlotNumbers.{slots-read}
use Rattle.ms_host.proofs.slots.Slots.load_at.Goals as goal

pub returns : goal.returns
returns c = λ cells shows.
    let at = c.args.at in
    let back : at ≡ 0x680000000000 + at - 0x680000000000 = omega arith in
    c.number_in.ensures
    ∙ ap (λ (xs : List ℕ). number_at (held xs) at c.args.n) (c.deref.ensures.value ∙ c.self.view_is)
    ∙ ap (λ k. number_at (held c.args.self.now) k c.args.n) back
    ∙ slots-read c.args.self.now cells (0x680000000000 + at) c.args.n shows (omega arith) (omega arith)
