use Rattle.ms_check_valid.proofs.SmallNumbers.{small_numbers}
use Rattle.ms_report.proofs.trails.trail_text_calling.Goals as goal

pub push_trail-requires : goal.push_trail-requires
push_trail-requires g c = small_numbers c.args.m.now c.requires
