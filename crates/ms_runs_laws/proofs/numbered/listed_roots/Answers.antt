use Rattle.ms_runs_laws.proofs.RootLists.{roots_counted, roots_stay}
use Rattle.ms_runs_laws.proofs.numbered.listed_roots.Goals as goal

pub returns-clause-counted : goal.returns-clause-counted
returns-clause-counted c = roots_counted

pub returns-clause-stripped : goal.returns-clause-stripped
returns-clause-stripped c = roots_stay
