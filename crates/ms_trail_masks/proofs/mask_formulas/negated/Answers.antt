use Rattle.std.proofs.Common.{◌+◌, ◌-◌, ◌^◌, ap, ◌∙◌}
use Rattle.ms_trail_masks.proofs.Negations.{negated_none, negated_some}
use Rattle.ms_trail_masks.proofs.mask_formulas.negated.Goals as goal

pub returns-then-number-eq0 : goal.returns-then-number-eq0
returns-then-number-eq0 c = negated_none (2 ^ c.args.width) c.args.number c.if-number-eq0.true

pub returns-else-number-eq0 : goal.returns-else-number-eq0
returns-else-number-eq0 c =
    ap (λ n. n - c.args.number + 1) c.ones.ensures ∙ negated_some (2 ^ c.args.width) c.args.number c.requires.fits c.if-number-eq0.false
