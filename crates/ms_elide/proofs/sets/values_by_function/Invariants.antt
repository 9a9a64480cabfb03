use Rattle.std.proofs.Common.{◌≡◌, ◌<◌, ◌↔◌, ℕ, Some, IsTrue, length}
use Rattle.ms_ir.specs.declared.syntax.Name.{Name}
use Rattle.ms_ir.specs.declared.syntax.Func.{Func}
use Rattle.ms_ir.specs.Instructions.{func_at}
use Rattle.ms_check_valid.specs.CleanValues.{IsClean}
use Rattle.ms_elide.specs.CleanSets.{is_in}
use Rattle.ms_elide.proofs.sets.values_by_function.Given as goal

abbrev pub invariant-loop-func : goal.invariant-loop-func
invariant-loop-func l = record {
  len : length l.funcs.items ≡ l.func-index;
  values : (k : ℕ) (f : Func) → k < l.func-index → func_at l.m k ≡ Some f → (x : Name) → IsTrue (is_in l.funcs.items k x) ↔ IsClean l.m f x;
}
