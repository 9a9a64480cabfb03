use Rattle.std.proofs.Common.{inl, inr}
use Rattle.ms_host.proofs.SlotNumbers.{far_away}
use Rattle.ms_host.proofs.slots.is_far.Goals as goal

pub returns-then-a-lt-FIRST_SLOT : goal.returns-then-a-lt-FIRST_SLOT
returns-then-a-lt-FIRST_SLOT c = λ yes n. far_away c.args.a n (inl c.if-a-lt-FIRST_SLOT.true)

pub returns-then-a-gt-END : goal.returns-then-a-gt-END
returns-then-a-gt-END c = λ yes n. far_away c.args.a n (inr c.if-a-gt-END.true)
