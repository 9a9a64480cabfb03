use Rattle.std.proofs.Common.{sym, ◌∙◌}
use Rattle.ms_check_valid.specs.SizesFit.{unsized}
use Rattle.ms_check.proofs.Firsts.{none_first, all_clauses}
use Rattle.ms_check.proofs.clauses.sizes_fit.Goals as goal

pub returns-in-None-clause-holds : goal.returns-in-None-clause-holds
returns-in-None-clause-holds c =
    all_clauses c.args.m.now c.requires (none_first (unsized c.args.m.now) (sym c.in_ok-first_unsized.ensures ∙ c.in-None.is))
