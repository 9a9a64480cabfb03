use Rattle.std.proofs.Common.{sym, ◌∙◌, ap}
use Rattle.std.specs.Prelude.{slice_get}
use Rattle.std.specs.Option.{option_copied}
use Rattle.ms_check_externals.specs.Outside.{flagged_among}
use Rattle.ms_check_tables.proofs.Items.{none_left}
use Rattle.ms_check_externals.proofs.Firsts.{passed, stopped}
use Rattle.ms_check_externals.proofs.flags.first_in_blocks.Goals as goal

pub returns-in-Some : goal.returns-in-Some
returns-in-Some c =
    let functions = c.args.functions.now in
    stopped (λ b. flagged_among functions b.insts) c.args.blocks.now c.loop-block.block-index c.block-item.result c.in-Some.callee.now _ c.loop-block-test.true c.block-item.is
    (sym (c.first_in_insts.ensures ∙ ap (λ insts. slice_get (flagged_among functions insts) 0) c.as_slice.ensures) ∙ ap option_copied c.in-Some.is) c.loop-block.invariant

pub loop-block-preserved : goal.loop-block-preserved
loop-block-preserved c =
    let functions = c.args.functions.now in
    passed (λ b. flagged_among functions b.insts) c.args.blocks.now c.loop-block.block-index c.block-item.result _ c.loop-block-test.true c.block-item.is
    (sym (c.first_in_insts.ensures ∙ ap (λ insts. slice_get (flagged_among functions insts) 0) c.as_slice.ensures)
    ∙ ap option_copied (none_left c.first_in_insts.result c.in_default.not-Some)) c.loop-block.invariant
