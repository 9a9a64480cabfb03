use Rattle.std.proofs.Common.{◌≡◌, ◌++◌}
use Rattle.ms_rules.specs.Singles.{clean_names}
use Rattle.ms_rules.proofs.clean.clean_names.Given as goal

abbrev pub invariant-loop-name : goal.invariant-loop-name
invariant-loop-name l = l.names ++ clean_names l.name-iterator ≡ clean_names l.values.entries
