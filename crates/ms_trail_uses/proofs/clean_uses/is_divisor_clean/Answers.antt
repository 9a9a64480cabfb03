use Rattle.std.proofs.Common.{Bool, true, eqb, sym, ap, ◌∙◌, if◌then◌else◌}
use Rattle.ms_trail_masks.specs.Shades.{mask_of}
use Rattle.ms_trail_uses.proofs.clean_uses.is_divisor_clean.Goals as goal

pub returns-then-division : goal.returns-then-division
returns-then-division c =
    let clean = eqb (mask_of c.args.view.now.masks.now c.args.source) 0 in
    c.is_clean.ensures ∙ sym (ap (λ (b : Bool). if b then clean else true) (sym c.is_division-division.ensures ∙ c.if-division.true))

pub returns-else-division : goal.returns-else-division
returns-else-division c =
    let clean = eqb (mask_of c.args.view.now.masks.now c.args.source) 0 in
    sym (ap (λ (b : Bool). if b then clean else true) (sym c.is_division-division.ensures ∙ c.if-division.false))
