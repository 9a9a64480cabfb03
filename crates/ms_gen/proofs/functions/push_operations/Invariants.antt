use Rattle.std.proofs.Common.{◌≡◌, ◌*◌, ◌++◌}
use Rattle.ms_gen.specs.Generator.{operations, state_after}
use Rattle.ms_gen.proofs.functions.push_operations.Given as goal

abbrev pub invariant-loop-k : goal.invariant-loop-k
invariant-loop-k l = record {
  insts : l.insts.items ≡ l.initial.insts.items ++ operations l.k l.initial.draws.state;
  draws : l.draws.state ≡ state_after (2 * l.k) l.initial.draws.state;
}
