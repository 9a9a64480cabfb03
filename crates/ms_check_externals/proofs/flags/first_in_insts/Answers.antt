use Rattle.std.proofs.Common.{sym, ◌∙◌, ap}
use Rattle.std.specs.Option.{option_copied}
use Rattle.ms_check_externals.specs.Outside.{flagged_in}
use Rattle.ms_check_tables.proofs.Items.{none_left}
use Rattle.ms_check_externals.proofs.Firsts.{passed, stopped}
use Rattle.ms_check_externals.proofs.flags.first_in_insts.Goals as goal

pub returns-in-Some : goal.returns-in-Some
returns-in-Some c =
    stopped (λ inst. flagged_in c.args.functions.now inst.op) c.args.insts.now c.loop-inst.inst-index c.inst-item.result c.in-Some.callee.now _ c.loop-inst-test.true c.inst-item.is
    (sym c.flagged_in.ensures ∙ ap option_copied c.in-Some.is) c.loop-inst.invariant

pub loop-inst-preserved : goal.loop-inst-preserved
loop-inst-preserved c =
    passed (λ inst. flagged_in c.args.functions.now inst.op) c.args.insts.now c.loop-inst.inst-index c.inst-item.result _ c.loop-inst-test.true c.inst-item.is
    (sym c.flagged_in.ensures ∙ ap option_copied (none_left c.flagged_in.result c.in_default.not-Some)) c.loop-inst.invariant
