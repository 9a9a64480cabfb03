use Rattle.ms_text_grammar.specs.LayoutValues.{pair_tokens}
use Rattle.ms_write_values.proofs.Loops.{commas_step}
use Rattle.ms_write_values.proofs.writer.Writer.more_pairs.Goals as goal

pub loop-pair-preserved : goal.loop-pair-preserved
loop-pair-preserved c =
    commas_step pair_tokens c.args.pairs.now c.loop-pair.pair-index c.pair-item.result c.loop-pair.self c.token.new.self c.typed.new.self _
    c.loop-pair-test.true c.pair-item.is c.in_ok-token.ensures c.in_ok-typed.ensures c.loop-pair.invariant
