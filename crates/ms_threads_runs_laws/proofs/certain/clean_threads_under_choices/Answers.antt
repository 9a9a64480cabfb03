use Rattle.ms_threads_runs_laws.proofs.ChangingRuns.{clean_chosen}
use Rattle.ms_threads_runs_laws.proofs.ChosenRuns.{chosen_same}
use Rattle.ms_threads_runs_laws.proofs.certain.clean_threads_under_choices.Goals as goal

pub returns-clause-clean : goal.returns-clause-clean
returns-clause-clean c = λ m formed valid can setup bytes schedule clean fills are. clean_chosen m formed valid can setup bytes schedule clean fills are

pub returns-clause-same : goal.returns-clause-same
returns-clause-same c = λ m formed valid can setup bytes schedule quiet fills are. chosen_same m formed valid can setup bytes schedule fills are quiet
