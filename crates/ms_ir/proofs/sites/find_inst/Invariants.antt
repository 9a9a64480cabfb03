use Rattle.std.proofs.Common.{◌≡◌, ◌+◌, ◌≤◌, drop}
use Rattle.ms_ir.specs.Instructions.{one_unmarked, over_insts}
use Rattle.ms_ir.proofs.sites.find_inst.Given as goal

abbrev pub invariant-loop-index : goal.invariant-loop-index
invariant-loop-index l = record {
  rest : over_insts one_unmarked l.insts + l.left ≡ over_insts one_unmarked (drop l.index l.insts) + l.number;
  below : l.left ≤ l.number;
}
