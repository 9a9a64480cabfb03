use Rattle.std.proofs.Common.{arith}
use Rattle.ms_alloc.proofs.Rows.{Ends, last-ends}
use Rattle.ms_alloc.proofs.areas.used_of.Goals as goal

pub overflow_sub-result : goal.overflow_sub-result
overflow_sub-result c =
    let e : Ends _ _ _ = last-ends c.args.kind c.args.area.now c.in-Some.last.now c.requires (c.in-Some.ensures.item.3.0) (c.in-Some.ensures.item.1) in
    omega (arith, e.above)

pub room_of-requires : goal.room_of-requires
room_of-requires c = (last-ends c.args.kind c.args.area.now c.in-Some.last.now c.requires (c.in-Some.ensures.item.3.0) (c.in-Some.ensures.item.1)).small

pub overflow_add-result : goal.overflow_add-result
overflow_add-result c =
    let e : Ends _ _ _ = last-ends c.args.kind c.args.area.now c.in-Some.last.now c.requires (c.in-Some.ensures.item.3.0) (c.in-Some.ensures.item.1) in
    omega (arith, e.above, e.ends, e.used_small)

pub returns-in-Some : goal.returns-in-Some
returns-in-Some c =
    let e : Ends _ _ _ = last-ends c.args.kind c.args.area.now c.in-Some.last.now c.requires (c.in-Some.ensures.item.3.0) (c.in-Some.ensures.item.1) in
    omega (arith, e.above, e.ends)
