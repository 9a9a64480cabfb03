use Rattle.std.proofs.Common.{length, sym, subst}
use Rattle.ms_machine_code.specs.Fits.{IsSource}
use Rattle.ms_machine_code.specs.declared.code.Stride.{Stride}
use Rattle.ms_trail_uses.proofs.Placing.{head_is, head_past}
use Rattle.ms_trail_uses.proofs.places.index_mask.Goals as goal

pub mask_of-requires-clause-source : goal.mask_of-requires-clause-source
mask_of-requires-clause-source c =
    subst (λ (s : Stride). IsSource (length c.args.view.now.values.now) 64 s.index) (sym c.stride_at-stride.ensures) (c.requires.strides c.args.next c.stride_at-stride.result.now c.if-next-count.true)

pub returns-then-next-count : goal.returns-then-next-count
returns-then-next-count c = head_is c.args.view.now.masks.now c.args.strides.now c.args.next c.mask_of.result c.stride_at-stride.result.now c.if-next-count.true c.stride_at-stride.ensures c.mask_of.ensures.mask

pub returns-else-next-count : goal.returns-else-next-count
returns-else-next-count c = head_past c.args.view.now.masks.now c.args.strides.now c.args.next c.if-next-count.false
