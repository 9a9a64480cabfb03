use Rattle.std.proofs.Common.{◌≡◌, ◌++◌, drop}
use Rattle.std.specs.Prelude.{filter_map}
use Rattle.ms_ir.specs.Locals.{typed_result}
use Rattle.ms_check_types.proofs.locals.push_results.Given as goal

abbrev pub invariant-loop-inst : goal.invariant-loop-inst
invariant-loop-inst l = l.values ++ filter_map typed_result (drop l.inst-index l.insts) ≡ l.fn.values ++ filter_map typed_result l.insts
