use Rattle.std.proofs.Common.{◌<◌, ◌^◌, ℕ, length, ap, subst}
use Rattle.ms_bits.specs.Numeral.{Numeral}
use Rattle.ms_machine_code.specs.declared.code.WordSource.{WordSource}
use Rattle.ms_machine_code.specs.declared.code.WordSource.TheVariants as source
use Rattle.ms_machine_code.specs.Fits.{IsSource}
use Rattle.ms_trail_masks.proofs.Fills.{below_wider}
use Rattle.ms_trail_masks.proofs.words.value_of.Goals as goal

pub returns-in-Undefined-clause-fits : goal.returns-in-Undefined-clause-fits
returns-in-Undefined-clause-fits c =
    let fits : IsSource (length c.args.view.now.values.now) c.args.width (source.Undefined c.in-Undefined.bits) =
    subst (λ (s : WordSource). IsSource (length c.args.view.now.values.now) c.args.width s) c.in-Undefined.is c.requires.source in
    below_wider c.value.result c.in-Undefined.bits c.args.width (subst (λ (n : ℕ). c.value.result < 2 ^ n) (ap (λ (n : Numeral). n.width) c.undef_word.ensures) c.value.ensures.fits) fits.1
