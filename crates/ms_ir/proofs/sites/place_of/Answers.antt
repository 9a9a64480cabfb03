use Rattle.std.proofs.Common.{◌≡◌, ◌≤◌, ◌<◌, ◌+◌, ◌-◌, ◌^◌, length, ap, sym, subst, arith}
use Rattle.ms_ir.specs.Instructions.{one_unmarked, over_insts, over_blocks, over_funcs}
use Rattle.ms_ir.specs.Places.{IsPlaceOf}
use Rattle.ms_ir.specs.Searches.{FoundInst, FoundBlock, FoundFunc}
use Rattle.ms_ir.proofs.Counting.{blocks_few, no_place, found_place, block_is_there, inst_is_there}
use Rattle.ms_ir.proofs.sites.place_of.Goals as goal

pub find_block-requires : goal.find_block-requires
find_block-requires c =
    let m = c.args.m.now in
    let f = c.in-Some.func.index in
    let e = ap (over_blocks one_unmarked) c.blocks_of.ensures in
    let few = blocks_few m f in
    let all = c.requires.sites in
    record {
      few = omega (arith, e, few, all);
      short = subst (λ l. length l < 2 ^ 32) (sym c.blocks_of.ensures) (c.requires.blocks f);
    }

pub find_inst-requires : goal.find_inst-requires
find_inst-requires c =
    subst (λ l. length l < 2 ^ 32) (sym c.insts_of.ensures) (c.requires.insts c.in-Some.func.index c.in-Some-find_block.block.index)

pub returns-in-None-clause-none : goal.returns-in-None-clause-none
returns-in-None-clause-none c =
    let e = ap (over_funcs one_unmarked) c.as_slice.ensures in
    let none = c.in-None.ensures.none in
    no_place c.args.m.now c.args.site (omega (arith, e, none))

pub returns-in-None-find_block-clause-none : goal.returns-in-None-find_block-clause-none
returns-in-None-find_block-clause-none c p here =
    let m = c.args.m.now in
    let f = c.in-Some.func.index in
    let l = c.in-Some.func.left in
    let found = subst (λ fs. FoundFunc fs (c.args.site - 1) f l) c.as_slice.ensures c.in-Some.ensures.found in
    block_is_there m (c.args.site - 1) f l found (subst (λ bs. over_blocks one_unmarked bs ≤ l) c.blocks_of.ensures c.in-None-find_block.ensures.none)

pub returns-in-None-find_inst-clause-none : goal.returns-in-None-find_inst-clause-none
returns-in-None-find_inst-clause-none c p here =
    let m = c.args.m.now in
    let f = c.in-Some.func.index in
    let l = c.in-Some.func.left in
    let b = c.in-Some-find_block.block.index in
    let k = c.in-Some-find_block.block.left in
    let found = subst (λ bs. FoundBlock bs l b k) c.blocks_of.ensures c.in-Some-find_block.ensures.found in
    inst_is_there m l f b k found (subst (λ xs. over_insts one_unmarked xs ≤ k) c.insts_of.ensures c.in-None-find_inst.ensures.none)

pub returns-in-Some-find_inst-clause-found : goal.returns-in-Some-find_inst-clause-found
returns-in-Some-find_inst-clause-found c =
    let m = c.args.m.now in
    let f = c.in-Some.func.index in
    let l = c.in-Some.func.left in
    let b = c.in-Some-find_block.block.index in
    let k = c.in-Some-find_block.block.left in
    let i = c.in-Some-find_inst.inst in
    let func = subst (λ fs. FoundFunc fs (c.args.site - 1) f l) c.as_slice.ensures c.in-Some.ensures.found in
    let block = subst (λ bs. FoundBlock bs l b k) c.blocks_of.ensures c.in-Some-find_block.ensures.found in
    let inst = subst (λ xs. FoundInst xs k i) c.insts_of.ensures c.in-Some-find_inst.ensures.found in
    let e : 1 + (c.args.site - 1) ≡ c.args.site = omega arith in
    subst (λ n. IsPlaceOf m n (record { func = f; block = b; inst = i })) e (found_place m (c.args.site - 1) f l b k i func block inst)
