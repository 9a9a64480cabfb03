use Rattle.std.proofs.Common.{◌≡◌, ◌+◌, ◌++◌, drop}
use Rattle.ms_ir.specs.Instructions.{func_index, one_unmarked, over_funcs}
use Rattle.ms_ir.specs.Roots.{funcs_roots}
use Rattle.ms_ir.proofs.rooting.push_funcs.Given as goal

abbrev pub invariant-loop-func : goal.invariant-loop-func
invariant-loop-func l = record {
  roots : l.roots.items ++ funcs_roots (func_index l.callees.funcs.now) l.site (drop l.func-index l.funcs) ≡ l.fn.roots.items ++ funcs_roots (func_index l.callees.funcs.now) l.fn.site l.funcs;
  site : l.site + over_funcs one_unmarked (drop l.func-index l.funcs) ≡ l.fn.site + over_funcs one_unmarked l.funcs;
}
