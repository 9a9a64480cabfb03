use Rattle.std.proofs.Common.{◌≡◌, ℕ, suc, ◌-◌, ◌*◌, ◌^◌, arith, ap}
use Rattle.std.proofs.Math.Nat.{pow-le-pow_right, pow-suc}
use Rattle.ms_planes.specs.Areas.{held}
use Rattle.ms_planes.specs.Blocks.{bytes_in}
use Rattle.ms_planes.proofs.Numbers.{number-more}
use Rattle.ms_planes.proofs.parts.number_by_bytes.Goals as goal

pub overflow_mul-value : goal.overflow_mul-value
overflow_mul-value c =
    record { fits = omega (arith, c.loop-left.invariant.fits, pow-le-pow_right {n = 256} (omega arith) {i = c.args.n - c.loop-left.left} {j = 7} (omega (arith, c.requires.short, c.loop-left-test.true))) }

pub overflow_add-value : goal.overflow_add-value
overflow_add-value c =
    record { fits = omega (arith, c.get.type_inv, c.from.ensures, c.loop-left.invariant.fits, pow-le-pow_right {n = 256} (omega arith) {i = c.args.n - c.loop-left.left} {j = 7} (omega (arith, c.requires.short, c.loop-left-test.true))) }

pub loop-left-preserved : goal.loop-left-preserved
loop-left-preserved c =
    let left : ℕ = c.loop-left.left in
    let step : 256 ^ (suc (c.args.n - left)) ≡ 256 ^ (c.args.n - left) * 256 = pow-suc 256 (c.args.n - left) in
    let more : 256 ^ (c.args.n - (left - 1)) ≡ 256 ^ (suc (c.args.n - left)) = ap (λ (k : ℕ). 256 ^ k) (omega (arith, c.loop-left-test.true, c.loop-left.invariant.left)) in
    record {
      left = omega (arith, c.loop-left.invariant.left);
      value = omega (arith, c.loop-left.invariant.value, c.from.ensures, c.get.ensures, number-more (held (bytes_in c.args.part c.args.block.now)) c.args.at c.args.n left c.loop-left-test.true c.loop-left.invariant.left);
      fits = omega (arith, c.loop-left.invariant.fits, c.get.type_inv, c.from.ensures, step, more);
    }
