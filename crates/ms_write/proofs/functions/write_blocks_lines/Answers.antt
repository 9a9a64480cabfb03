use Rattle.std.proofs.Common.{◌++◌, sym, append_assoc}
use Rattle.ms_text_grammar.specs.LayoutModules.{entry_label, body_lines, block_lines, blocks_lines}
use Rattle.std.specs.Prelude.{flat_map}
use Rattle.ms_write_values.proofs.Loops.{lines_first}
use Rattle.ms_write.proofs.functions.write_blocks_lines.Goals as goal

pub returns-in_ok-write_more_blocks-in-len1-up : goal.returns-in_ok-write_more_blocks-in-len1-up
returns-in_ok-write_more_blocks-in-len1-up c =
    lines_first (λ b. entry_label b.name ++ body_lines c.args.dotted b) (block_lines c.args.dotted) (blocks_lines c.args.dotted)
    (λ b rest. sym (append_assoc (entry_label b.name) (body_lines c.args.dotted b) (flat_map (block_lines c.args.dotted) rest)))
    c.args.blocks.now c.entry-item.result c.args.writer.now c.write_entry_lines.new.writer c.write_more_blocks.new.writer
    c.in-len1-up.len_at_least c.entry-item.is c.in_ok-write_entry_lines-in-len1-up.ensures c.in_ok-write_more_blocks-in-len1-up.ensures
