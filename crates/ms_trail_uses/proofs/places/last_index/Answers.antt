use Rattle.std.proofs.Common.{drop, refl, sym, ◌∙◌, arith}
use Rattle.ms_trail_uses.proofs.Placing.{stride_more, strides_done}
use Rattle.ms_trail_uses.proofs.places.last_index.Goals as goal

pub loop-k-init : goal.loop-k-init
loop-k-init c = record { near = omega arith; best = refl }

pub loop-k-preserved : goal.loop-k-preserved
loop-k-preserved c = record {
  near = omega (arith, c.loop-k.invariant.near, c.place_after-next.ensures.near);
  best =
      c.loop-k.invariant.best
      ∙ stride_more c.args.view.now.masks.now c.args.typed.now c.args.strides.now c.loop-k.k c.loop-k.next c.loop-k.best c.index_mask-mask.result c.better-best.result c.place_after-next.result c.is_integer-integer.result c.typed_at.result.now
      c.loop-k-test.true c.typed_at.ensures c.is_integer-integer.ensures c.index_mask-mask.ensures c.better-best.ensures c.place_after-next.ensures.is;
}

pub returns : goal.returns
returns c = strides_done c.args.view.now.masks.now c.args.typed.now (drop c.loop-k.next c.args.strides.now) c.loop-k.k c.loop-k.best c.loop-k-test.false ∙ sym c.loop-k.invariant.best
