use Rattle.std.proofs.Common.{◌≡◌}
use Rattle.std.specs.Prelude.{map, take}
use Rattle.ms_ir.specs.Instructions.{strip_func}
use Rattle.ms_ir.proofs.stripping.strip_funcs.Given as goal

abbrev pub invariant-loop-func : goal.invariant-loop-func
invariant-loop-func l = l.left.items ≡ map strip_func (take l.func-index l.funcs)
