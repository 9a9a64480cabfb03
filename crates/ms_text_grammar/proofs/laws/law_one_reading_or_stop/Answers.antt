use Rattle.ms_text_grammar.proofs.Readings.{one_reading, one_stop, never_both}
use Rattle.ms_text_grammar.proofs.Ends.{reads_or_stops}
use Rattle.ms_text_grammar.proofs.laws.law_one_reading_or_stop.Goals as goal

pub returns-clause-one_reading : goal.returns-clause-one_reading
returns-clause-one_reading c = one_reading

pub returns-clause-one_stop : goal.returns-clause-one_stop
returns-clause-one_stop c = one_stop

pub returns-clause-always_either : goal.returns-clause-always_either
returns-clause-always_either c = reads_or_stops

pub returns-clause-never_both : goal.returns-clause-never_both
returns-clause-never_both c = never_both
