use Rattle.ms_runs.specs.Masks.{by_completions}
use Rattle.ms_runs_laws.proofs.EndCalls.{end_calls_alike}
use Rattle.ms_top.specs.Explained.{shortened}
use Rattle.ms_top.proofs.Answered.{explain_refused}
use Rattle.ms_top.proofs.Explaining.{explained_shadow, explained_way, explained_none}
use Rattle.ms_top.proofs.laws.law_explanations_show_the_way.Goals as goal

pub returns-clause-shadow : goal.returns-clause-shadow
returns-clause-shadow c = explained_shadow

pub returns-clause-way : goal.returns-clause-way
returns-clause-way c = explained_way c.moves_read_poison.ensures.ways

pub returns-clause-none : goal.returns-clause-none
returns-clause-none c = explained_none

pub returns-clause-root : goal.returns-clause-root
returns-clause-root c = λ m s event unmarked other. end_calls_alike by_completions m unmarked (shortened s event) other

pub returns-clause-threads : goal.returns-clause-threads
returns-clause-threads c = explain_refused
