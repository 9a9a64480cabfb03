use Rattle.std.proofs.Common.{List, sym, subst}
use Rattle.ms_ir.specs.declared.syntax.GlobalVar.{GlobalVar}
use Rattle.ms_machine_code.specs.Constants.{globals_constants}
use Rattle.ms_machine_operands.specs.InitialWords.{AreReadable}
use Rattle.ms_machine_operands.proofs.ValidSizes.{low_addresses}
use Rattle.ms_machine_operands.proofs.ValidConstants.{constants_readable}
use Rattle.ms_machine_operands.proofs.initial.initial_words.Goals as goal

pub push_globals-requires-clause-low : goal.push_globals-requires-clause-low
push_globals-requires-clause-low c = low_addresses c.args.tables.now.whole.now c.requires.valid

pub push_globals-requires-clause-readable : goal.push_globals-requires-clause-readable
push_globals-requires-clause-readable c =
    let m = c.args.tables.now.whole.now in
    subst (λ (gs : List GlobalVar). AreReadable m.types (globals_constants gs)) (sym c.as_slice.ensures) (constants_readable m c.requires.formed c.requires.valid)
