use Rattle.ms_trail_masks.proofs.Reading.{read_masks}
use Rattle.ms_trail_masks.proofs.laws.law_arguments_have_masks.Goals as goal

pub returns : goal.returns
returns c = read_masks
