use Rattle.ms_text_grammar.specs.LayoutModules.{parameter_tokens}
use Rattle.ms_write_values.proofs.Loops.{commas_step}
use Rattle.ms_write.proofs.functions.write_more_parameters.Goals as goal

pub loop-parameter-preserved : goal.loop-parameter-preserved
loop-parameter-preserved c =
    commas_step parameter_tokens c.args.parameters.now c.loop-parameter.parameter-index c.parameter-item.result c.loop-parameter.writer c.token.new.self c.write_parameter.new.writer _
    c.loop-parameter-test.true c.parameter-item.is c.in_ok-token.ensures c.in_ok-write_parameter.ensures c.loop-parameter.invariant
