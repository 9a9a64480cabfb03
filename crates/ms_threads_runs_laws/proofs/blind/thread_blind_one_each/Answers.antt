use Rattle.ms_threads_runs_laws.proofs.BlindEach.{plain_each, plain_places, shadow_each, shadow_places}
use Rattle.ms_threads_runs_laws.proofs.blind.thread_blind_one_each.Goals as goal

pub returns-clause-plain_blind : goal.returns-clause-plain_blind
returns-clause-plain_blind c = plain_each

pub returns-clause-shadow_blind : goal.returns-clause-shadow_blind
returns-clause-shadow_blind c = shadow_each

pub returns-clause-plain_places : goal.returns-clause-plain_places
returns-clause-plain_places c = plain_places

pub returns-clause-places : goal.returns-clause-places
returns-clause-places c = shadow_places
