use Rattle.ms_text_laws.proofs.EachText as each
use Rattle.ms_text_laws.proofs.answered.every_text_is_answered.Goals as goal

pub returns-clause-answered : goal.returns-clause-answered
returns-clause-answered c = each.answered

pub returns-clause-memory_is_no_cause : goal.returns-clause-memory_is_no_cause
returns-clause-memory_is_no_cause c = each.named

pub returns-clause-numbered : goal.returns-clause-numbered
returns-clause-numbered c = each.stops_numbered
