use Rattle.std.proofs.Common.{sym, ◌∙◌}
use Rattle.ms_check_valid.specs.NamesOnce.{duplicates}
use Rattle.ms_check.proofs.Firsts.{none_first}
use Rattle.ms_check.proofs.clauses.names_once.Goals as goal

pub returns-in-None-clause-holds : goal.returns-in-None-clause-holds
returns-in-None-clause-holds c = none_first (duplicates c.args.m.now) (sym c.in_ok-first_duplicate.ensures ∙ c.in-None.is)
