use Rattle.std.proofs.Common.{◌≡◌, ◌<◌, ◌+◌, ◌-◌, ◌^◌, min, drop}
use Rattle.ms_ir.specs.Instructions.{one_unmarked, over_insts}
use Rattle.ms_ir.proofs.numbers.sites_of_insts.Given as goal

abbrev pub invariant-loop-inst : goal.invariant-loop-inst
invariant-loop-inst l = record {
  counted : min (l.count + over_insts one_unmarked (drop l.inst-index l.insts)) (2 ^ 32 - 1) ≡ min (over_insts one_unmarked l.insts) (2 ^ 32 - 1);
  fits : l.count < 2 ^ 32;
}
