use Rattle.ms_check_valid.proofs.SmallNumbers.{small_numbers}
use Rattle.ms_report.proofs.endings.closing_calling.Goals as goal

pub push_closing-requires : goal.push_closing-requires
push_closing-requires g c = small_numbers c.args.m.now c.requires
