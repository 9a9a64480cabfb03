use Rattle.std.proofs.Common.{◌≡◌, ◌++◌, take}
use Rattle.ms_rules.specs.Valued.{result_names}
use Rattle.ms_rules.proofs.values.push_results.Given as goal

abbrev pub invariant-loop-inst : goal.invariant-loop-inst
invariant-loop-inst l = l.names ≡ l.fn.names ++ result_names (take l.inst-index l.insts)
