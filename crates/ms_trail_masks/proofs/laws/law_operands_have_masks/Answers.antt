use Rattle.ms_trail_masks.proofs.Reading.{reads_mask}
use Rattle.ms_trail_masks.proofs.laws.law_operands_have_masks.Goals as goal

pub returns : goal.returns
returns c = reads_mask
