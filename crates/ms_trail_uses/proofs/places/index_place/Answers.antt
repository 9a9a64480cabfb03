use Rattle.std.proofs.Common.{sym, ap, ◌∙◌}
use Rattle.ms_trail_uses.specs.Origins.{last_stride, index_read}
use Rattle.ms_trail_uses.proofs.Placing.{no_indices}
use Rattle.ms_trail_uses.proofs.places.index_place.Goals as goal

pub returns-in-Gep : goal.returns-in-Gep
returns-in-Gep c =
    let ms = c.args.view.now.masks.now in
    let ss = c.args.strides.now in
    c.last_index.ensures ∙ ap (λ is. last_stride ms is ss 1 0) c.as_slice.ensures ∙ sym (ap (λ o. index_read ms o ss) c.in-Gep.is)

pub returns-in_default : goal.returns-in_default
returns-in_default c = no_indices c.args.view.now.masks.now c.args.strides.now c.args.op.now c.in_default.not-Gep
