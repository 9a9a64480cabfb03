use Rattle.std.proofs.Common.{List, ap, subst, sym, ◌∙◌, arith}
use Rattle.ms_ir.specs.declared.syntax.Inst.{Inst}
use Rattle.ms_check_tables.specs.FirstPlace.{first_place}
use Rattle.ms_pass.specs.Counted.{past_insts, AreSmall}
use Rattle.ms_pass.proofs.BlockWalk.{counts_next, counts_end, small_next}
use Rattle.ms_pass.proofs.counts.Counts.after_blocks.Goals as goal

pub after_insts-counts-requires : goal.after_insts-counts-requires
after_insts-counts-requires c =
    let func = first_place c.args.functions.now in
    subst (λ (is : List Inst). AreSmall (past_insts func c.loop-block.counts is)) (sym c.as_slice.ensures)
    (small_next func c.loop-block.counts _ c.args.blocks.now c.loop-block.block-index c.block-item.result c.loop-block-test.true c.block-item.is c.loop-block.invariant c.requires)

pub loop-block-preserved : goal.loop-block-preserved
loop-block-preserved c =
    let func = first_place c.args.functions.now in
    counts_next func c.loop-block.counts c.after_insts-counts.result _ c.args.blocks.now c.loop-block.block-index c.block-item.result c.loop-block-test.true c.block-item.is
    (c.after_insts-counts.ensures ∙ ap (past_insts func c.loop-block.counts) c.as_slice.ensures) c.loop-block.invariant

pub returns : goal.returns
returns c = counts_end (first_place c.args.functions.now) c.loop-block.counts _ c.args.blocks.now c.loop-block.block-index (omega arith) c.loop-block.invariant
