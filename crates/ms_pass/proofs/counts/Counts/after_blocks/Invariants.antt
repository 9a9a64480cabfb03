use Rattle.std.proofs.Common.{◌≡◌, drop}
use Rattle.ms_check_tables.specs.FirstPlace.{first_place}
use Rattle.ms_pass.specs.Counted.{past_blocks}
use Rattle.ms_pass.proofs.counts.Counts.after_blocks.Given as goal

abbrev pub invariant-loop-block : goal.invariant-loop-block
invariant-loop-block l = past_blocks (first_place l.functions) l.counts (drop l.block-index l.blocks) ≡ past_blocks (first_place l.functions) l.fn.self l.blocks
