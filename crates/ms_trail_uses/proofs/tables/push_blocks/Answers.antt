use Rattle.std.proofs.Common.{◌≡◌, ◌+◌, length, take, refl, ap, ◌∙◌, arith}
use Rattle.ms_ir.specs.Instructions.{roots_in, over_insts, over_blocks}
use Rattle.ms_check_tables.specs.FirstPlace.{first_place}
use Rattle.ms_machine_compile.specs.Flat.{EachBlock}
use Rattle.ms_machine_compile.proofs.Pushes.{pushing_none, pushing_all}
use Rattle.ms_machine_compile.proofs.Routing.{blocks_all}
use Rattle.ms_trail_uses.specs.Tabled.{IsRow}
use Rattle.ms_trail_uses.proofs.Sums.{blocks_taken, blocks_within, no_blocks}
use Rattle.ms_trail_uses.proofs.Rows.{block_rows_more}
use Rattle.ms_trail_uses.proofs.tables.push_blocks.Goals as goal

pub loop-block-init : goal.loop-block-init
loop-block-init c = record {
  roots =
      let none : over_blocks (roots_in (first_place c.args.functions.now)) (take 0 c.args.blocks.now) ≡ 0 = no_blocks (roots_in (first_place c.args.functions.now)) c.args.blocks.now in
      omega (arith, none);
  few = c.requires;
  pushing = λ m n found here begins. pushing_none (EachBlock (IsRow m n)) c.args.rows.now.items c.args.blocks.now;
}

pub push_insts-requires : goal.push_insts-requires
push_insts-requires c =
    let count = roots_in (first_place c.args.functions.now) in
    let bs = c.args.blocks.now in
    let i = c.loop-block.block-index in
    let k = c.block-item.result in
    let sum = blocks_taken count bs i k c.loop-block-test.true c.block-item.is in
    let here : over_insts count c.as_slice.result.now ≡ over_insts count k.insts = ap (over_insts count) c.as_slice.ensures in
    omega (arith, sum, here, blocks_within count bs (i + 1), c.loop-block.invariant.roots, c.loop-block.invariant.few)

pub loop-block-preserved : goal.loop-block-preserved
loop-block-preserved c =
    let count = roots_in (first_place c.args.functions.now) in
    let bs = c.args.blocks.now in
    let i = c.loop-block.block-index in
    let k = c.block-item.result in
    record {
      roots =
          let sum = blocks_taken count bs i k c.loop-block-test.true c.block-item.is in
          let here : over_insts count c.as_slice.result.now ≡ over_insts count k.insts = ap (over_insts count) c.as_slice.ensures in
          omega (arith, sum, here, c.loop-block.invariant.roots, c.in_ok-roots.ensures.after);
      few = c.loop-block.invariant.few;
      pushing = λ m n found here begins.
          block_rows_more m n i c.args.first c.loop-block.roots (first_place c.args.functions.now) c.args.rows.now.items c.loop-block.rows.items c.push_insts.new.rows.items bs k c.as_slice.result.now k.name c.loop-block-test.true
          c.block-item.is found c.as_slice.ensures refl here begins c.loop-block.invariant.roots c.in_ok-roots.ensures.rows (c.loop-block.invariant.pushing m n found here begins);
    }

pub returns : goal.returns
returns c =
    let count = roots_in (first_place c.args.functions.now) in
    let bs = c.args.blocks.now in
    let e : length bs ≡ c.loop-block.block-index = omega arith in
    record {
      after = c.loop-block.invariant.roots ∙ ap (λ l. c.args.first + over_blocks count l) (blocks_all bs c.loop-block.block-index e);
      rows = λ m n found here begins.
          pushing_all (EachBlock (IsRow m n)) c.args.rows.now.items c.loop-block.rows.items c.loop-block.block-index bs e refl (c.loop-block.invariant.pushing m n found here begins);
    }
