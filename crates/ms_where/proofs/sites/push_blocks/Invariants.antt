use Rattle.std.proofs.Common.{◌≡◌, ◌++◌, drop}
use Rattle.std.specs.Prelude.{flat_map}
use Rattle.ms_where.specs.Sites.{block_sites}
use Rattle.ms_where.proofs.sites.push_blocks.Given as goal

abbrev pub invariant-loop-block : goal.invariant-loop-block
invariant-loop-block l = l.found.items ++ flat_map block_sites (drop l.block-index l.blocks) ≡ l.fn.found.items ++ flat_map block_sites l.blocks
