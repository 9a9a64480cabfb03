use Rattle.std.proofs.Common.{◌≡◌, drop, is_some}
use Rattle.ms_ir.specs.declared.syntax.Name.TheVariants.{Text}
use Rattle.ms_ir.specs.Instructions.{func_index}
use Rattle.ms_ir.proofs.rooting.callees.defines.Given as goal

abbrev pub invariant-loop-func : goal.invariant-loop-func
invariant-loop-func l = is_some (func_index (drop l.func-index l.funcs) (Text l.name)) ≡ is_some (func_index l.funcs (Text l.name))
