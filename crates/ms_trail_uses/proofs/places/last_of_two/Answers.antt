use Rattle.std.proofs.Common.{Bool, sym, ap, ◌∙◌, if◌then◌else◌, eq-eqb}
use Rattle.std.proofs.lemmas.Bool.{ne_eqb}
use Rattle.ms_trail_masks.specs.Shades.{mask_of}
use Rattle.ms_trail_uses.proofs.places.last_of_two.Goals as goal

pub returns-then-mask-ne0 : goal.returns-then-mask-ne0
returns-then-mask-ne0 c =
    let ms = c.args.view.now.masks.now in
    sym (ap (λ (b : Bool). if b then 0 else 1) (ne_eqb (mask_of ms c.args.second) 0 (λ z. c.if-mask-ne0.true (c.mask_of-mask.ensures.mask ∙ z))))

pub returns-else-mask-ne0 : goal.returns-else-mask-ne0
returns-else-mask-ne0 c =
    let ms = c.args.view.now.masks.now in
    sym (ap (λ (b : Bool). if b then 0 else 1) (eq-eqb (mask_of ms c.args.second) 0 (sym c.mask_of-mask.ensures.mask ∙ c.if-mask-ne0.false)))
