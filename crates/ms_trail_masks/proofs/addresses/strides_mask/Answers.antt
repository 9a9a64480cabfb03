use Rattle.std.proofs.Common.{◌≡◌, ◌<◌, ◌+◌, ◌-◌, length, sym, subst, ◌∙◌, arith}
use Rattle.std.proofs.lemmas.Nat.{or_lt}
use Rattle.ms_machine_code.specs.Fits.{IsStride}
use Rattle.ms_trail_masks.proofs.Indices.{strides_none, strides_back, strides_whole}
use Rattle.ms_trail_masks.proofs.addresses.strides_mask.Goals as goal

pub loop-left-init : goal.loop-left-init
loop-left-init c = record { within = omega arith; so_far = strides_none c.args.view.now.masks.now c.args.strides.now _ (omega arith); fits = omega arith }

pub stride_mask-mask-requires-clause-stride : goal.stride_mask-mask-requires-clause-stride
stride_mask-mask-requires-clause-stride c =
    let ss = c.args.strides.now in
    let lt : c.loop-left.left - 1 < length ss = omega (arith, c.loop-left-test.true, c.loop-left.invariant.within) in
    subst (IsStride (length c.args.view.now.values.now)) (sym c.stride_at-stride.ensures) (c.requires.strides (c.loop-left.left - 1) c.stride_at-stride.result.now lt)

pub loop-left-preserved : goal.loop-left-preserved
loop-left-preserved c =
    let ss = c.args.strides.now in
    let one : c.loop-left.left ≡ (c.loop-left.left - 1) + 1 = omega (arith, c.loop-left-test.true) in
    let lt : c.loop-left.left - 1 < length ss = omega (arith, c.loop-left-test.true, c.loop-left.invariant.within) in
    record {
      within = omega (arith, lt);
      so_far = strides_back c.args.view.now.masks.now ss (c.loop-left.left - 1) c.loop-left.left c.stride_at-stride.result.now c.loop-left.mask c.stride_mask-mask.result one lt c.stride_at-stride.ensures c.stride_mask-mask.ensures.is
          c.loop-left.invariant.so_far;
      fits = or_lt 64 c.stride_mask-mask.result c.loop-left.mask c.stride_mask-mask.ensures.fits c.loop-left.invariant.fits;
    }

pub returns-clause-is : goal.returns-clause-is
returns-clause-is c = c.loop-left.invariant.so_far ∙ strides_whole c.args.view.now.masks.now c.args.strides.now c.loop-left.left (omega arith)
