use Rattle.std.proofs.Common.{◌≡◌, drop}
use Rattle.std.specs.Prelude.{flat_map}
use Rattle.ms_text_grammar.specs.LayoutModules.{block_lines}
use Rattle.ms_write_values.specs.Sheets.{put_lines}
use Rattle.ms_write.proofs.functions.write_more_blocks.Given as goal

abbrev pub invariant-loop-block : goal.invariant-loop-block
invariant-loop-block l = put_lines l.writer (flat_map (block_lines l.dotted) (drop l.block-index l.blocks)) ≡ put_lines l.fn.writer (flat_map (block_lines l.dotted) l.blocks)
