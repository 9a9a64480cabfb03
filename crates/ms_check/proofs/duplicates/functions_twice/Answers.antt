use Rattle.std.proofs.Common.{sym, ◌∙◌}
use Rattle.ms_check_tables.proofs.Items.{none_left}
use Rattle.ms_check.proofs.Repeated.{function_passed, function_stopped}
use Rattle.ms_check.proofs.duplicates.functions_twice.Goals as goal

pub returns-in-Some : goal.returns-in-Some
returns-in-Some c =
    sym (function_stopped c.loop-func.symbols c.args.funcs.now c.loop-func.func-index c.func-item.result c.in-Some.spelled c.loop-func-test.true c.func-item.is
    (sym c.in_ok-spelled.ensures.first ∙ c.in-Some.is))
    ∙ c.loop-func.invariant

pub loop-func-preserved : goal.loop-func-preserved
loop-func-preserved c =
    function_passed c.loop-func.symbols c.function_twice.new.symbols c.args.funcs.now c.loop-func.func-index c.func-item.result _ c.loop-func-test.true c.func-item.is
    c.in_ok-spelled.ensures.symbols (sym c.in_ok-spelled.ensures.first ∙ none_left c.in_ok-spelled.field-0 c.in_default.not-Some) c.loop-func.invariant
