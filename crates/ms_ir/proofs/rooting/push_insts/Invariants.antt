use Rattle.std.proofs.Common.{◌≡◌, ◌+◌, ◌++◌, drop}
use Rattle.ms_ir.specs.Instructions.{func_index, one_unmarked, over_insts}
use Rattle.ms_ir.specs.Roots.{insts_roots}
use Rattle.ms_ir.proofs.rooting.push_insts.Given as goal

abbrev pub invariant-loop-inst : goal.invariant-loop-inst
invariant-loop-inst l = record {
  roots : l.roots.items ++ insts_roots (func_index l.callees.funcs.now) l.site (drop l.inst-index l.insts) ≡ l.fn.roots.items ++ insts_roots (func_index l.callees.funcs.now) l.fn.site l.insts;
  site : l.site + over_insts one_unmarked (drop l.inst-index l.insts) ≡ l.fn.site + over_insts one_unmarked l.insts;
}
