use Rattle.std.proofs.Common.{◌≡◌, ◌++◌, drop}
use Rattle.std.specs.Prelude.{filter}
use Rattle.ms_ir.specs.Instructions.{is_unmarked}
use Rattle.ms_ir.proofs.stripping.strip_insts.Given as goal

abbrev pub invariant-loop-inst : goal.invariant-loop-inst
invariant-loop-inst l = l.left.items ++ filter is_unmarked (drop l.inst-index l.insts) ≡ filter is_unmarked l.insts
