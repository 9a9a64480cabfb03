use Rattle.std.proofs.Common.{◌≡◌, ◌+◌, ◌≤◌, drop}
use Rattle.ms_ir.specs.Instructions.{one_unmarked, over_funcs}
use Rattle.ms_ir.proofs.sites.find_func.Given as goal

abbrev pub invariant-loop-index : goal.invariant-loop-index
invariant-loop-index l = record {
  rest : over_funcs one_unmarked l.funcs + l.left ≡ over_funcs one_unmarked (drop l.index l.funcs) + l.number;
  below : l.left ≤ l.number;
}
