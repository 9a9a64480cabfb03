use Rattle.std.proofs.Common.{◌≡◌, ◌+◌, length, take, refl, ap, ◌∙◌, arith}
use Rattle.ms_ir.specs.Instructions.{roots_in, over_insts}
use Rattle.ms_check_tables.specs.FirstPlace.{first_place}
use Rattle.ms_machine_compile.specs.Flat.{EachInst}
use Rattle.ms_machine_compile.proofs.Pushes.{pushing_none, pushing_all}
use Rattle.ms_machine_compile.proofs.Sited.{insts_all}
use Rattle.ms_trail_uses.specs.Tabled.{IsRow}
use Rattle.ms_trail_uses.proofs.Sums.{insts_taken, insts_within, no_insts}
use Rattle.ms_trail_uses.proofs.Rows.{rows_more}
use Rattle.ms_trail_uses.proofs.tables.push_insts.Goals as goal

pub loop-inst-init : goal.loop-inst-init
loop-inst-init c = record {
  roots =
      let none : over_insts (roots_in (first_place c.args.functions.now)) (take 0 c.args.insts.now) ≡ 0 = no_insts (roots_in (first_place c.args.functions.now)) c.args.insts.now in
      omega (arith, none);
  few = c.requires;
  pushing = λ m n b found here named begins. pushing_none (EachInst (IsRow m n b)) c.args.rows.now.items c.args.insts.now;
}

pub roots_after-roots-requires : goal.roots_after-roots-requires
roots_after-roots-requires c =
    let count = roots_in (first_place c.args.functions.now) in
    let is = c.args.insts.now in
    let i = c.loop-inst.inst-index in
    let sum = insts_taken count is i c.inst-item.result c.loop-inst-test.true c.inst-item.is in
    omega (arith, sum, insts_within count is (i + 1), c.loop-inst.invariant.roots, c.loop-inst.invariant.few)

pub loop-inst-preserved : goal.loop-inst-preserved
loop-inst-preserved c =
    let count = roots_in (first_place c.args.functions.now) in
    let is = c.args.insts.now in
    let i = c.loop-inst.inst-index in
    let x = c.inst-item.result in
    record {
      roots = let sum = insts_taken count is i x c.loop-inst-test.true c.inst-item.is in omega (arith, sum, c.loop-inst.invariant.roots, c.roots_after-roots.ensures);
      few = c.loop-inst.invariant.few;
      pushing = λ m n b found here named begins.
          rows_more m n b i c.args.first (first_place c.args.functions.now) c.args.rows.now.items c.loop-inst.rows.items c.push.new.self.items is c.args.block.now x _ c.loop-inst-test.true c.inst-item.is found here named begins refl
          c.loop-inst.invariant.roots refl c.in_ok-push.ensures.items (c.loop-inst.invariant.pushing m n b found here named begins);
    }

pub returns : goal.returns
returns c =
    let count = roots_in (first_place c.args.functions.now) in
    let is = c.args.insts.now in
    let e : length is ≡ c.loop-inst.inst-index = omega arith in
    record {
      after = c.loop-inst.invariant.roots ∙ ap (λ l. c.args.first + over_insts count l) (insts_all is c.loop-inst.inst-index e);
      rows = λ m n b found here named begins.
          pushing_all (EachInst (IsRow m n b)) c.args.rows.now.items c.loop-inst.rows.items c.loop-inst.inst-index is e tt (c.loop-inst.invariant.pushing m n b found here named begins);
    }
