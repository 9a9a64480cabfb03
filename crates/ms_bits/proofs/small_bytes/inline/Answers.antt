use Rattle.ms_bits.proofs.Joining.{both_parts}
use Rattle.ms_bits.proofs.small_bytes.inline.Goals as goal

pub returns : goal.returns
returns c = both_parts _ _ _ _ _ _ c.copy_from_slice.ensures.after c.copy_from_slice-2.ensures.after
