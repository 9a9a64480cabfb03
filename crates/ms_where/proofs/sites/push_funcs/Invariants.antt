use Rattle.std.proofs.Common.{◌≡◌, ◌++◌, drop}
use Rattle.std.specs.Prelude.{flat_map}
use Rattle.ms_where.specs.Sites.{func_sites}
use Rattle.ms_where.proofs.sites.push_funcs.Given as goal

abbrev pub invariant-loop-func : goal.invariant-loop-func
invariant-loop-func l = l.found.items ++ flat_map func_sites (drop l.func-index l.funcs) ≡ l.fn.found.items ++ flat_map func_sites l.funcs
