use Rattle.std.proofs.Common.{sym, ◌∙◌}
use Rattle.ms_check_valid.specs.NamesKnown.{unknowns}
use Rattle.ms_check.proofs.Firsts.{none_first}
use Rattle.ms_check.proofs.clauses.names_known.Goals as goal

pub returns-in-None-clause-holds : goal.returns-in-None-clause-holds
returns-in-None-clause-holds c = (c.requires.before, none_first (unknowns c.args.m.now) (sym c.in_ok-first_unknown.ensures ∙ c.in-None.is))
