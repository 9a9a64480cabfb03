use Rattle.ms_text_grammar.specs.LayoutModules.{parameter_tokens}
use Rattle.ms_write_values.proofs.Loops.{commas_first}
use Rattle.ms_write.proofs.functions.write_parameters.Goals as goal

pub returns-in_ok-write_more_parameters-in-len1-up : goal.returns-in_ok-write_more_parameters-in-len1-up
returns-in_ok-write_more_parameters-in-len1-up c =
    commas_first parameter_tokens c.args.parameters.now c.first-item.result c.args.writer.now c.write_parameter.new.writer c.write_more_parameters.new.writer
    c.in-len1-up.len_at_least c.first-item.is c.in_ok-write_parameter-in-len1-up.ensures c.in_ok-write_more_parameters-in-len1-up.ensures
