use Rattle.std.proofs.Common.{◌≡◌, ◌<◌, ◌+◌, ◌-◌, ◌^◌, min, drop}
use Rattle.ms_ir.specs.Instructions.{one_unmarked, over_funcs}
use Rattle.ms_ir.proofs.numbers.sites_of_funcs.Given as goal

abbrev pub invariant-loop-func : goal.invariant-loop-func
invariant-loop-func l = record {
  counted : min (l.count + over_funcs one_unmarked (drop l.func-index l.funcs)) (2 ^ 32 - 1) ≡ min (over_funcs one_unmarked l.funcs) (2 ^ 32 - 1);
  fits : l.count < 2 ^ 32;
}
