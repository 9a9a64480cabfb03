use Rattle.ms_trail_masks.proofs.Reading.{jump_masks}
use Rattle.ms_trail_masks.proofs.laws.law_phis_have_masks.Goals as goal

pub returns : goal.returns
returns c = jump_masks
