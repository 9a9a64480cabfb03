use Rattle.ms_threads_schedules_laws.proofs.Leading.{reads_first, padded}
use Rattle.ms_threads_schedules_laws.proofs.exploration.beginnings_are_read.Goals as goal

pub returns-clause-places : goal.returns-clause-places
returns-clause-places c = reads_first

pub returns-clause-padded : goal.returns-clause-padded
returns-clause-padded c = padded
