use Rattle.std.proofs.Common.{length, sym, subst}
use Rattle.ms_machine_code.specs.declared.code.WordSource.{WordSource}
use Rattle.ms_machine_code.specs.Fits.{IsSource}
use Rattle.ms_trail_uses.proofs.Uses.{arg_fits, seen_value}
use Rattle.ms_trail_uses.proofs.used.arg_number.Goals as goal

pub value_of-requires-clause-source : goal.value_of-requires-clause-source
value_of-requires-clause-source c =
    subst (λ (s : WordSource). IsSource (length c.args.view.now.values.now) 64 s) (sym c.arg-source.ensures) (arg_fits (length c.args.view.now.values.now) c.args.args.now c.args.k c.requires.args)

pub returns : goal.returns
returns c =
    let v = c.args.view.now in
    seen_value v.fill.now v.values.now v.masks.now c.args.args.now c.args.k c.value_of.result c.arg-source.result c.arg-source.ensures c.value_of.ensures.word
