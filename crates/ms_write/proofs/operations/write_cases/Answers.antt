use Rattle.ms_text_grammar.specs.LayoutInsts.{case_tokens}
use Rattle.ms_write_values.proofs.Loops.{tokens_step}
use Rattle.ms_write.proofs.operations.write_cases.Goals as goal

pub loop-case-preserved : goal.loop-case-preserved
loop-case-preserved c =
    tokens_step (case_tokens c.args.ty.now) c.args.cases.now c.loop-case.case-index c.case-item.result c.loop-case.writer c.write_case.new.writer _
    c.loop-case-test.true c.case-item.is c.in_ok-write_case.ensures c.loop-case.invariant
