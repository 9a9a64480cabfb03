use Rattle.std.proofs.Common.{◌≡◌, ◌+◌, ◌++◌, ◌<◌, ◌^◌, drop}
use Rattle.ms_ir.specs.Instructions.{over_blocks}
use Rattle.ms_check_valid.specs.Formed.{count_written}
use Rattle.ms_rules.specs.Scopes.{env_of, given_of}
use Rattle.ms_pass.specs.Counted.{here_of, past_blocks}
use Rattle.ms_pass.specs.Passed.{with_blocks}
use Rattle.ms_pass.proofs.blocks.passed_blocks.Given as goal

abbrev pub invariant-loop-block : goal.invariant-loop-block
invariant-loop-block l = record {
  blocks : l.done.items ++ with_blocks (given_of l.scope) (env_of l.scope) (here_of l.counts l.scope.main) (drop l.block-index l.blocks) l.builder ≡ with_blocks (given_of l.scope) (env_of l.scope) (here_of l.fn.counts l.scope.main) l.blocks l.fn.start;
  counts : past_blocks (given_of l.scope).func l.counts (drop l.block-index l.blocks) ≡ past_blocks (given_of l.scope).func l.fn.counts l.blocks;
  room : l.builder.next + over_blocks count_written (with_blocks (given_of l.scope) (env_of l.scope) (here_of l.counts l.scope.main) (drop l.block-index l.blocks) l.builder) < 2 ^ 40;
}
