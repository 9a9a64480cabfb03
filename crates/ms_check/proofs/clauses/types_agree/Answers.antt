use Rattle.std.proofs.Common.{sym, ap, ◌∙◌}
use Rattle.std.specs.Prelude.{option_map}
use Rattle.ms_check_valid.specs.TypesAgree.{mismatches}
use Rattle.ms_check_types.specs.Faults.{as_pair}
use Rattle.ms_check.proofs.Firsts.{none_first}
use Rattle.ms_check.proofs.clauses.types_agree.Goals as goal

pub returns-in-None-clause-holds : goal.returns-in-None-clause-holds
returns-in-None-clause-holds c =
    (c.requires.before, none_first (mismatches c.args.m.now) (sym c.in_ok-first_mismatch.ensures ∙ ap (option_map as_pair) c.in-None.is))
