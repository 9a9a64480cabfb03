use Rattle.std.proofs.Common.{sym, ap, ◌∙◌}
use Rattle.std.specs.Option.{option_copied}
use Rattle.ms_check_valid.specs.ExternalsFit.{bad_externals}
use Rattle.ms_check.proofs.Firsts.{none_first}
use Rattle.ms_check.proofs.clauses.externals_fit.Goals as goal

pub returns-in-None-clause-holds : goal.returns-in-None-clause-holds
returns-in-None-clause-holds c =
    (c.requires, none_first (bad_externals c.args.m.now) (sym c.in_ok-first_bad_external.ensures ∙ ap option_copied c.in-None.is))
