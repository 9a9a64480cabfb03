use Rattle.std.proofs.Common.{◌≡◌, ◌++◌, drop, map}
use Rattle.ms_ir.specs.Instructions.{is_unmarked}
use Rattle.ms_where.proofs.sites.push_insts.Given as goal

abbrev pub invariant-loop-inst : goal.invariant-loop-inst
invariant-loop-inst l = l.found.items ++ map is_unmarked (drop l.inst-index l.insts) ≡ l.fn.found.items ++ map is_unmarked l.insts
