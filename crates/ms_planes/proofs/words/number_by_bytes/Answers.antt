use Rattle.std.proofs.Common.{◌+◌, ◌-◌, ◌<◌, ◌^◌, arith}
use Rattle.ms_bits.specs.Maps.{number_at}
use Rattle.ms_planes.specs.Areas.{held}
use Rattle.ms_planes.proofs.Numbers.{number-fits}
use Rattle.ms_planes.proofs.words.number_by_bytes.Goals as goal

pub overflow_mul-value : goal.overflow_mul-value
overflow_mul-value c =
    let fits : number_at (held c.args.bytes.now) (c.args.at + c.loop-left.left) (c.args.n - c.loop-left.left) < 2 ^ 56 =
    number-fits (held c.args.bytes.now) _ _ (λ k. omega (arith, c.type_inv.bytes k)) (omega arith) in
    omega (arith, c.loop-left.invariant.value)

pub overflow_add-value : goal.overflow_add-value
overflow_add-value c =
    let fits : number_at (held c.args.bytes.now) (c.args.at + c.loop-left.left) (c.args.n - c.loop-left.left) < 2 ^ 56 =
    number-fits (held c.args.bytes.now) _ _ (λ k. omega (arith, c.type_inv.bytes k)) (omega arith) in
    omega (arith, c.loop-left.invariant.value)
