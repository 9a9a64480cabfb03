use Rattle.std.proofs.Common.{◌≡◌, ◌++◌, take}
use Rattle.ms_rules.specs.Valued.{block_results}
use Rattle.ms_rules.proofs.values.push_blocks.Given as goal

abbrev pub invariant-loop-block : goal.invariant-loop-block
invariant-loop-block l = l.names ≡ l.fn.names ++ block_results (take l.block-index l.blocks)
