use Rattle.std.proofs.Common.{sym, ◌∙◌, ap}
use Rattle.std.specs.Option.{option_copied}
use Rattle.ms_check_externals.specs.Outside.{func_faults}
use Rattle.ms_check_tables.proofs.Items.{none_left}
use Rattle.ms_check_externals.proofs.Firsts.{passed, stopped}
use Rattle.ms_check_externals.proofs.outside.first_in_funcs.Goals as goal

pub returns-in-Some : goal.returns-in-Some
returns-in-Some c =
    stopped (func_faults c.args.functions.now) c.args.funcs.now c.loop-func.func-index c.func-item.result c.in-Some.name.now _ c.loop-func-test.true c.func-item.is
    (sym c.first_in_func.ensures ∙ ap option_copied c.in-Some.is) c.loop-func.invariant

pub loop-func-preserved : goal.loop-func-preserved
loop-func-preserved c =
    passed (func_faults c.args.functions.now) c.args.funcs.now c.loop-func.func-index c.func-item.result _ c.loop-func-test.true c.func-item.is
    (sym c.first_in_func.ensures ∙ ap option_copied (none_left c.first_in_func.result c.in_default.not-Some)) c.loop-func.invariant
