use Rattle.std.proofs.Common.{◌≡◌, arith, ap, sym, ◌∙◌, ◌+◌, None}
use Rattle.std.specs.Prelude.{slice_get}
use Rattle.ms_ir.specs.Instructions.{one_unmarked, over_insts}
use Rattle.ms_ir.specs.Spots.{spot, over_spots}
use Rattle.ms_check_tables.proofs.Items.{none_left, none_then}
use Rattle.ms_check_tables.proofs.Walks.{blocks_stopped, blocks_passed, blocks_sum}
use Rattle.ms_check_tables.proofs.walk.first_in_blocks.Goals as goal

pub returns-in-Some-clause-first : goal.returns-in-Some-clause-first
returns-in-Some-clause-first g c =
    let look = g.C.Clause.look c.args.clause.now in
    let at = spot c.args.func.now c.loop-number.number 0 c.loop-number.site in
    blocks_stopped look c.args.func.now c.loop-number.site c.args.blocks.now c.loop-number.number c.index-blocks-number.result c.in-Some.fault _ (omega arith) c.index-blocks-number.is
    (sym c.in-Some.is ∙ c.in_ok-fault.ensures.first ∙ ap (λ r. slice_get (over_spots look at r) 0) c.as_slice-insts.ensures) c.loop-number.invariant.first

pub loop-number-preserved : goal.loop-number-preserved
loop-number-preserved g c =
    let look = g.C.Clause.look c.args.clause.now in
    let at = spot c.args.func.now c.loop-number.number 0 c.loop-number.site in
    let none : c.in_ok-fault.field-0 ≡ None = none_left c.in_ok-fault.field-0 c.in_default.not-Some in
    let after = none_then c.in_ok-fault.field-0 (c.first_in_insts.new.site ≡ c.loop-number.site + over_insts one_unmarked c.as_slice-insts.result.now) none c.in_ok-fault.ensures.site
    ∙ ap (λ r. c.loop-number.site + over_insts one_unmarked r) c.as_slice-insts.ensures in
    record {
      first = blocks_passed look c.args.func.now c.loop-number.site c.first_in_insts.new.site c.args.blocks.now c.loop-number.number c.index-blocks-number.result _ (omega arith) c.index-blocks-number.is after
          (sym none ∙ c.in_ok-fault.ensures.first ∙ ap (λ r. slice_get (over_spots look at r) 0) c.as_slice-insts.ensures) c.loop-number.invariant.first;
      sites = blocks_sum c.loop-number.site c.first_in_insts.new.site c.args.blocks.now c.loop-number.number c.index-blocks-number.result _ (omega arith) c.index-blocks-number.is after c.loop-number.invariant.sites;
      tables = none_then c.in_ok-fault.field-0 (g.C.Clause.AreOf c.args.clause.now c.args.func.now c.first_in_insts.new.tables) none c.in_ok-fault.ensures.tables;
    }
