use Rattle.ms_text_grammar.specs.LayoutModules.{function_lines}
use Rattle.ms_write_values.proofs.Loops.{lines_step}
use Rattle.ms_write.proofs.modules.write_functions.Goals as goal

pub loop-func-preserved : goal.loop-func-preserved
loop-func-preserved c =
    lines_step (function_lines c.args.dotted) c.args.funcs.now c.loop-func.func-index c.func-item.result c.loop-func.writer c.write_function_lines.new.writer _
    c.loop-func-test.true c.func-item.is c.in_ok-write_function_lines.ensures c.loop-func.invariant
