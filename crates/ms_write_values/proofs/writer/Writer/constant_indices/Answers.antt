use Rattle.ms_text_grammar.specs.LayoutValues.{constant_index_tokens}
use Rattle.ms_write_values.proofs.Loops.{commas_step}
use Rattle.ms_write_values.proofs.writer.Writer.constant_indices.Goals as goal

pub loop-index-preserved : goal.loop-index-preserved
loop-index-preserved c =
    commas_step constant_index_tokens c.args.indices.now c.loop-index.index-index c.index-item.result c.loop-index.self c.token.new.self c.constant_index.new.self _
    c.loop-index-test.true c.index-item.is c.in_ok-token.ensures c.in_ok-constant_index.ensures c.loop-index.invariant
