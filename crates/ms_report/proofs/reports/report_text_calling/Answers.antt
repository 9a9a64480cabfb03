use Rattle.ms_check_valid.proofs.SmallNumbers.{small_numbers}
use Rattle.ms_report.proofs.reports.report_text_calling.Goals as goal

pub text_of-requires-clause-numbers : goal.text_of-requires-clause-numbers
text_of-requires-clause-numbers g c = small_numbers c.args.m.now c.requires

pub roots-requires : goal.roots-requires
roots-requires g c = small_numbers c.args.m.now c.requires
