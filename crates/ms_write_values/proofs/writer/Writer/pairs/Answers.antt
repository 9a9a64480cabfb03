use Rattle.ms_text_grammar.specs.LayoutValues.{pair_tokens}
use Rattle.ms_write_values.proofs.Loops.{commas_first}
use Rattle.ms_write_values.proofs.writer.Writer.pairs.Goals as goal

pub returns-in_ok-more_pairs-in-len1-up : goal.returns-in_ok-more_pairs-in-len1-up
returns-in_ok-more_pairs-in-len1-up c =
    commas_first pair_tokens c.args.pairs.now c.first-item.result c.args.self.now c.typed.new.self c.more_pairs.new.self
    c.in-len1-up.len_at_least c.first-item.is c.in_ok-typed-in-len1-up.ensures c.in_ok-more_pairs-in-len1-up.ensures
