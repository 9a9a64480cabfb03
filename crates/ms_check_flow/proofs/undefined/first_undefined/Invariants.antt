use Rattle.std.proofs.Common.{◌≡◌, ◌+◌, ◌<◌, ◌^◌, drop}
use Rattle.ms_ir.specs.Instructions.{over_funcs}
use Rattle.ms_check_valid.specs.Formed.{count_written}
use Rattle.ms_check_flow.proofs.Passing.{uses_from, IsPassed}
use Rattle.ms_check_flow.proofs.undefined.first_undefined.Given as goal

abbrev pub invariant-loop-func : goal.invariant-loop-func
invariant-loop-func l = record {
  passed : IsPassed l.m (uses_from l.site (drop l.func-index l.m.funcs));
  few : l.site + over_funcs count_written (drop l.func-index l.m.funcs) < 2 ^ 31;
  items : l.func-items ≡ l.m.funcs;
}
