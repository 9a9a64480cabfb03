use Rattle.std.proofs.Common.{length, subst}
use Rattle.ms_machine_code.specs.declared.code.WordSource.{WordSource}
use Rattle.ms_machine_code.specs.declared.code.WordSource.TheVariants as source
use Rattle.ms_machine_code.specs.Fits.{IsSource}
use Rattle.ms_trail_masks.proofs.Fills.{ones_below}
use Rattle.ms_trail_masks.proofs.words.mask_of.Goals as goal

pub returns-in-Undefined-clause-fits : goal.returns-in-Undefined-clause-fits
returns-in-Undefined-clause-fits c =
    let fits : IsSource (length c.args.view.now.values.now) c.args.width (source.Undefined c.in-Undefined.bits) =
    subst (λ (s : WordSource). IsSource (length c.args.view.now.values.now) c.args.width s) c.in-Undefined.is c.requires.source in
    ones_below c.ones.result c.in-Undefined.bits c.args.width c.ones.ensures fits.1
