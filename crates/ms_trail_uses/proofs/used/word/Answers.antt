use Rattle.std.proofs.Common.{length, sym, subst}
use Rattle.ms_machine_code.specs.declared.code.WordSource.{WordSource}
use Rattle.ms_machine_code.specs.Fits.{IsSource}
use Rattle.ms_trail_uses.specs.Used.{seen}
use Rattle.ms_trail_uses.proofs.Uses.{arg_fits, seen_mask, word_found, word_clean}
use Rattle.ms_trail_uses.proofs.used.word.Goals as goal

pub mask_of-mask-requires-clause-source : goal.mask_of-mask-requires-clause-source
mask_of-mask-requires-clause-source c =
    subst (λ (s : WordSource). IsSource (length c.args.view.now.values.now) 64 s) (sym c.arg-source.ensures) (arg_fits (length c.args.view.now.values.now) c.args.args.now c.args.k c.requires.args)

pub returns-then-mask-ne0 : goal.returns-then-mask-ne0
returns-then-mask-ne0 c =
    let v = c.args.view.now in
    word_found (seen v.fill.now v.values.now v.masks.now c.args.args.now) c.args.k c.mask_of-mask.result
    (seen_mask v.fill.now v.values.now v.masks.now c.args.args.now c.args.k c.mask_of-mask.result c.arg-source.result c.arg-source.ensures c.mask_of-mask.ensures.mask) c.if-mask-ne0.true

pub returns-else-mask-ne0 : goal.returns-else-mask-ne0
returns-else-mask-ne0 c =
    let v = c.args.view.now in
    word_clean (seen v.fill.now v.values.now v.masks.now c.args.args.now) c.args.k c.mask_of-mask.result
    (seen_mask v.fill.now v.values.now v.masks.now c.args.args.now c.args.k c.mask_of-mask.result c.arg-source.result c.arg-source.ensures c.mask_of-mask.ensures.mask) c.if-mask-ne0.false
