use Rattle.std.proofs.Common.{◌<◌, ◌^◌, arith}
use Rattle.ms_machine.proofs.Placing.{small_at}
use Rattle.ms_machine.proofs.places.place_at.Goals as goal

pub overflow_cast-result : goal.overflow_cast-result
overflow_cast-result c =
    let few : c.in-Some.func < 2 ^ 32 =
    (small_at c.args.m.now c.as_slice.result.now c.args.number c.in-Some.func c.in-Some.part.block c.in-Some.part.inst c.requires.formed c.as_slice.ensures c.in-Some.ensures.found).func in
    omega (arith, few)

pub overflow_cast-result-in-Some : goal.overflow_cast-result-in-Some
overflow_cast-result-in-Some c =
    let few : c.in-Some.part.block < 2 ^ 32 =
    (small_at c.args.m.now c.as_slice.result.now c.args.number c.in-Some.func c.in-Some.part.block c.in-Some.part.inst c.requires.formed c.as_slice.ensures c.in-Some.ensures.found).block in
    omega (arith, few)

pub overflow_cast-result-in-Some-2 : goal.overflow_cast-result-in-Some-2
overflow_cast-result-in-Some-2 c =
    let few : c.in-Some.part.inst < 2 ^ 32 =
    (small_at c.args.m.now c.as_slice.result.now c.args.number c.in-Some.func c.in-Some.part.block c.in-Some.part.inst c.requires.formed c.as_slice.ensures c.in-Some.ensures.found).inst in
    omega (arith, few)
