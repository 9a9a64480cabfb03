use Rattle.std.proofs.Common.{◌≡◌, ◌-◌, ◌++◌, length, map}
use Rattle.ms_rules_builder.specs.Steps.{tracked_of}
use Rattle.ms_rules_tables.specs.Rules.{tests}
use Rattle.ms_rules_tables.proofs.origins.push_tests.Given as goal

abbrev pub invariant-loop-k : goal.invariant-loop-k
invariant-loop-k l = l.steps.items ++ tests (map tracked_of l.operands) (l.k - 1) ≡ l.initial.steps.items ++ tests (map tracked_of l.operands) (length l.operands - 1)
