use Rattle.std.proofs.Common.{ap, ap₂, ◌∙◌}
use Rattle.ms_bits.specs.Conversions.{select_of}
use Rattle.ms_trail_uses.proofs.places.selected.Goals as goal

pub returns : goal.returns
returns c = c.chosen.ensures ∙ ap₂ (λ m p. select_of m 0 p) c.mask_of-mask.ensures.mask (c.chosen-place.ensures ∙ ap (λ v. select_of v 1 2) c.value_of-word.ensures.word)
