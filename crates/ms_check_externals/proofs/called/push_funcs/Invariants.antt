use Rattle.std.proofs.Common.{◌≡◌, ◌++◌, take, filter_map}
use Rattle.std.specs.Prelude.{flat_map}
use Rattle.ms_check_externals.proofs.Marked.{picked_callee}
use Rattle.ms_check_externals.proofs.called.push_funcs.Given as goal

abbrev pub invariant-loop-func : goal.invariant-loop-func
invariant-loop-func l = l.names ≡ l.fn.names ++ flat_map (λ f. flat_map (λ b. filter_map picked_callee b.insts) f.blocks) (take l.func-index l.funcs)
