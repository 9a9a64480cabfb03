use Rattle.std.proofs.Common.{◌≡◌, ◌*◌, ◌++◌}
use Rattle.ms_gen.specs.Generator.{functions_of, state_after}
use Rattle.ms_gen.proofs.modules.push_functions.Given as goal

abbrev pub invariant-loop-number : goal.invariant-loop-number
invariant-loop-number l = record {
  funcs : l.funcs.items ≡ l.initial.funcs.items ++ functions_of l.fn.seed l.number;
  draws : l.draws.state ≡ state_after (16 * l.number) l.fn.seed;
}
