use Rattle.std.proofs.Common.{◌≡◌, ◌++◌, None, sym, ◌∙◌, ap}
use Rattle.std.specs.Option.{option_copied}
use Rattle.ms_ir.specs.Locals.{block_locals}
use Rattle.ms_check_tables.proofs.Items.{none_left, none_then}
use Rattle.ms_check.proofs.Repeated.{names_passed, names_stopped}
use Rattle.ms_check.proofs.duplicates.blocks_twice.Goals as goal

pub returns-in-Some : goal.returns-in-Some
returns-in-Some c =
    sym (names_stopped block_locals c.loop-block.seen c.args.blocks.now c.loop-block.block-index c.block-item.result c.in-Some.name.now c.loop-block-test.true c.block-item.is
    (sym c.in_ok-name.ensures.first ∙ ap option_copied c.in-Some.is))
    ∙ c.loop-block.invariant

pub loop-block-preserved : goal.loop-block-preserved
loop-block-preserved c =
    let none : c.in_ok-name.field-0 ≡ None = none_left c.in_ok-name.field-0 c.in_default.not-Some in
    names_passed block_locals c.loop-block.seen c.block_twice.new.seen c.args.blocks.now c.loop-block.block-index c.block-item.result _ c.loop-block-test.true c.block-item.is
    (none_then c.in_ok-name.field-0 (c.block_twice.new.seen ≡ c.loop-block.seen ++ block_locals c.block-item.result) none c.in_ok-name.ensures.seen)
    (sym c.in_ok-name.ensures.first ∙ ap option_copied none) c.loop-block.invariant
