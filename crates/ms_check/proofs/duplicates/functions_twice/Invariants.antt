use Rattle.std.proofs.Common.{◌≡◌, drop}
use Rattle.std.specs.Prelude.{slice_get}
use Rattle.ms_check_valid.specs.NamesOnce.{function_duplicates}
use Rattle.ms_check.proofs.duplicates.functions_twice.Given as goal

abbrev pub invariant-loop-func : goal.invariant-loop-func
invariant-loop-func l = slice_get (function_duplicates l.symbols (drop l.func-index l.funcs)) 0 ≡ slice_get (function_duplicates l.fn.symbols l.funcs) 0
